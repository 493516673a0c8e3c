use Rattle.std.proofs.Common.{length, ◌-◌}
use Rattle.certificate.specs.Joins.{slot_join}
use Rattle.certificate.specs.Views.{slot_of}
use Rattle.certificate.proofs.Joining.{JoinedTo}
use Rattle.certificate.proofs.order.join_slots.Given as goal

-- the places before this one are joined
abbrev pub invariant-loop-at : goal.invariant-loop-at
invariant-loop-at l = JoinedTo slot_of slot_join l.at l.slots l.others l.fn.slots

abbrev pub decreases-loop-at : goal.decreases-loop-at
decreases-loop-at l = length l.others - l.at
