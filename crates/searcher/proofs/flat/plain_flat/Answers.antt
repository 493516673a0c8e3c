use Rattle.std.proofs.Common.{◌∙◌, ap, sym, inl, inr}
use Rattle.certificate.specs.Growth.{empty}
use Rattle.task.specs.Views.{starts_of}
use Rattle.searcher.specs.Flat.{flat_points}
use Rattle.searcher.specs.Versions.{flat_version}
use Rattle.searcher.proofs.Taken.{of_points}
use Rattle.searcher.proofs.FlatGrows.{flat_taken, is_flat, not_refused}
use Rattle.searcher.proofs.flat.plain_flat.Goals as goal

pub unreachable-requires : goal.unreachable-requires
unreachable-requires c =
    let plan = c.args.task.now in
    let taken = flat_taken plan (starts_of c.starts.result.now) (starts_of c.starts-2.result.now) c.new-cert.result c.have_own.result c.starts.ensures.starts c.starts-2.ensures.starts
    (c.new-cert.ensures ∙ ap empty c.flat_version.ensures) c.have_own.ensures c.if-not-have_own.false c.starts.ensures.valid in
    not_refused c.in-Err-Limit.field-0 c.push_behind.new.cert (of_points (flat_version plan) (flat_points plan)) _ c.in-Err-Limit.ensures taken (inl c.in-Err-Limit.field-0-is)

pub unreachable-requires-in-Err-Order : goal.unreachable-requires-in-Err-Order
unreachable-requires-in-Err-Order c =
    let plan = c.args.task.now in
    let taken = flat_taken plan (starts_of c.starts.result.now) (starts_of c.starts-2.result.now) c.new-cert.result c.have_own.result c.starts.ensures.starts c.starts-2.ensures.starts
    (c.new-cert.ensures ∙ ap empty c.flat_version.ensures) c.have_own.ensures c.if-not-have_own.false c.starts.ensures.valid in
    not_refused c.in-Err-Order.field-0 c.push_behind.new.cert (of_points (flat_version plan) (flat_points plan)) _ c.in-Err-Order.ensures taken (inr c.in-Err-Order.field-0-is)

pub returns-in-Ok : goal.returns-in-Ok
returns-in-Ok c =
    let plan = c.args.task.now in
    let taken = flat_taken plan (starts_of c.starts.result.now) (starts_of c.starts-2.result.now) c.new-cert.result c.have_own.result c.starts.ensures.starts c.starts-2.ensures.starts
    (c.new-cert.ensures ∙ ap empty c.flat_version.ensures) c.have_own.ensures c.if-not-have_own.false c.starts.ensures.valid in
    sym c.in-Ok.ensures ∙ taken ∙ sym (is_flat plan (starts_of c.starts.result.now) c.have_own.result c.starts.ensures.starts c.have_own.ensures c.if-not-have_own.false)
