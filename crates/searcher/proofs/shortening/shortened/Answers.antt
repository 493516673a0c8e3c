use Rattle.std.proofs.Common.{sym, ap, ◌∙◌, inl, inr}
use Rattle.certificate.specs.Growth.{empty}
use Rattle.searcher.specs.Shortening.{short_form}
use Rattle.searcher.proofs.FlatGrows.{not_refused, same_some}
use Rattle.searcher.proofs.Shortened.{short_taken}
use Rattle.searcher.proofs.shortening.shortened.Goals as goal

pub unreachable-requires : goal.unreachable-requires
unreachable-requires c =
    let taken = short_taken c.args.task.now c.args.cert.now c.new-short.result c.push_short.ensures.valid (c.new-short.ensures ∙ ap empty c.flat_version.ensures) in
    not_refused c.in-Err-Limit.field-0 c.push_short.new.short (short_form c.args.task.now c.args.cert.now) _ c.in-Err-Limit.ensures.grows taken (inl c.in-Err-Limit.field-0-is)

pub unreachable-requires-in-Err-Order : goal.unreachable-requires-in-Err-Order
unreachable-requires-in-Err-Order c =
    let taken = short_taken c.args.task.now c.args.cert.now c.new-short.result c.push_short.ensures.valid (c.new-short.ensures ∙ ap empty c.flat_version.ensures) in
    not_refused c.in-Err-Order.field-0 c.push_short.new.short (short_form c.args.task.now c.args.cert.now) _ c.in-Err-Order.ensures.grows taken (inr c.in-Err-Order.field-0-is)

pub returns-in-Ok : goal.returns-in-Ok
returns-in-Ok c =
    let taken = short_taken c.args.task.now c.args.cert.now c.new-short.result c.push_short.ensures.valid (c.new-short.ensures ∙ ap empty c.flat_version.ensures) in
    same_some c.push_short.new.short (short_form c.args.task.now c.args.cert.now) (sym c.in-Ok.ensures.grows ∙ taken)
