use Rattle.std.proofs.Common.{length, ◌-◌}
use Rattle.certificate.specs.Told.{untold_slot}
use Rattle.certificate.specs.Views.{slot_of}
use Rattle.certificate.proofs.Changing.{ChangedTo}
use Rattle.certificate.proofs.telling.untell.Given as goal

-- of the places before this one nothing is said
abbrev pub invariant-loop-at : goal.invariant-loop-at
invariant-loop-at l = ChangedTo slot_of untold_slot l.at l.slots l.fn.slots

abbrev pub decreases-loop-at : goal.decreases-loop-at
decreases-loop-at l = length l.slots - l.at
