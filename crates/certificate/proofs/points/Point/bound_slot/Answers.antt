use Rattle.std.proofs.Common.{ap}
use Rattle.rights.specs.Limits.{most_descriptors}
use Rattle.certificate.specs.Bounds.{Closed}
use Rattle.certificate.specs.Growth.{copies}
use Rattle.certificate.specs.Views.{point_of, slots_with}
use Rattle.certificate.proofs.Kept.{one_more}
use Rattle.certificate.proofs.Outcomes.{on_err, on_ok}
use Rattle.certificate.proofs.points.Point.bound_slot.Goals as goal

pub returns-clause-ok : goal.returns-clause-ok
returns-clause-ok c =
    let point = point_of c.args.self.now in
    let kept = c.args.self.now.slots.items in
    on_ok c.add.result _ _
    (λ is. ap (λ slots. record point { bound = record point.bound { slots = slots } })
    (one_more (copies most_descriptors Closed) kept c.add.new.items.items (record { number = c.args.number; slot = c.args.slot }) is))
    c.add.ensures.ok

pub returns-clause-err : goal.returns-clause-err
returns-clause-err c =
    let point = point_of c.args.self.now in
    on_err c.add.result _ _
    (λ is. ap (λ slots. record point { bound = record point.bound { slots = slots } }) (ap (slots_with (copies most_descriptors Closed)) is))
    c.add.ensures.err
