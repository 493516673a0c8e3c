use Rattle.std.proofs.Common.{ap, sym, ◌∙◌}
use Rattle.std.specs.Prelude.{nat_lt}
use Rattle.std.specs.List.{list_all}
use Rattle.rights.specs.Limits.{most_descriptors}
use Rattle.certificate.specs.declared.points.NumberedSlot.{NumberedSlot}
use Rattle.certificate.proofs.Kept.{closed_above}
use Rattle.certificate.proofs.growth.is_closed_from.Goals as goal

pub returns-then-are_below : goal.returns-then-are_below
returns-then-are_below c =
    let n = c.args.number in
    let kept = c.args.point.now.slots.items in
    let below = ap (list_all (λ (slot : NumberedSlot). nat_lt slot.number n)) (sym c.deref.ensures.value) ∙ sym c.are_below.ensures ∙ c.if-are_below.true in
    c.if-are_below.true ∙ sym (closed_above n most_descriptors kept below)
