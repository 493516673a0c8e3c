use Rattle.std.proofs.Common.{◌≡◌, ◌∙◌, sym, ap, refl}
use Rattle.std.specs.Prelude.{Some}
use Rattle.certificate.specs.declared.lines.Refusal.{Refusal}
use Rattle.certificate.specs.declared.lines.Refusal.TheVariants.{Limit, Order, Memory}
use Rattle.certificate.specs.Bounds.{Certificate}
use Rattle.rules.specs.Expansions.{expanded_version, expansion}
use Rattle.certificate.specs.Growth.{empty}
use Rattle.rules.proofs.expansions.Twice.{expanded_twice}
use Rattle.checker.proofs.Along.{lines_taken, same_verdict, wants_memory}
use Rattle.checker.proofs.expanding.expand.Goals as goal

differ_limit : (stop : Refusal) → stop ≡ Limit → stop ≡ Memory → ⊥
differ_limit stop limit memory = cc

differ_order : (stop : Refusal) → stop ≡ Order → stop ≡ Memory → ⊥
differ_order stop order memory = cc

pub unreachable-requires : goal.unreachable-requires
unreachable-requires c =
    let taken = lines_taken c.args.task.now c.args.cert.now c.new-expanded.result c.push_expansion.ensures.valid
    (c.new-expanded.ensures ∙ ap empty (c.version_of_expansion.ensures ∙ ap expanded_version c.version.ensures)) in
    let stop = c.in-Err-Limit.field-0 in
    let wants = wants_memory stop c.push_expansion.new.expanded (expansion c.args.task.now c.args.cert.now) _ taken c.in-Err-Limit.ensures.grows in
    differ_limit stop c.in-Err-Limit.field-0-is wants

pub unreachable-requires-in-Err-Order : goal.unreachable-requires-in-Err-Order
unreachable-requires-in-Err-Order c =
    let taken = lines_taken c.args.task.now c.args.cert.now c.new-expanded.result c.push_expansion.ensures.valid
    (c.new-expanded.ensures ∙ ap empty (c.version_of_expansion.ensures ∙ ap expanded_version c.version.ensures)) in
    let stop = c.in-Err-Order.field-0 in
    let wants = wants_memory stop c.push_expansion.new.expanded (expansion c.args.task.now c.args.cert.now) _ taken c.in-Err-Order.ensures.grows in
    differ_order stop c.in-Err-Order.field-0-is wants

same_some : (c d : Certificate) → Some c ≡ Some d → c ≡ d
same_some c d same = cc

value : (c : goal.In-Ok) → c.push_expansion.new.expanded ≡ expansion c.args.task.now c.args.cert.now
value c =
    let taken = lines_taken c.args.task.now c.args.cert.now c.new-expanded.result c.push_expansion.ensures.valid
    (c.new-expanded.ensures ∙ ap empty (c.version_of_expansion.ensures ∙ ap expanded_version c.version.ensures)) in
    same_some c.push_expansion.new.expanded (expansion c.args.task.now c.args.cert.now) (sym c.in-Ok.ensures.grows ∙ taken)

pub returns-in-Ok-clause-value : goal.returns-in-Ok-clause-value
returns-in-Ok-clause-value c = value c

pub returns-in-Ok-clause-same : goal.returns-in-Ok-clause-same
returns-in-Ok-clause-same c =
    let plan = c.args.task.now in
    let cert = c.args.cert.now in
    let twice = ap (expansion plan) (value c) ∙ expanded_twice cert.version plan cert refl c.push_expansion.ensures.valid in
    same_verdict plan c.push_expansion.new.expanded cert twice
