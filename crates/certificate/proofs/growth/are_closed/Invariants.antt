use Rattle.std.proofs.Common.{◌≡◌, ◌-◌, length, map}
use Rattle.certificate.specs.Lines.{is_closed}
use Rattle.certificate.specs.Growth.{all_from}
use Rattle.certificate.specs.Views.{slot_of}
use Rattle.certificate.proofs.growth.are_closed.Given as goal

-- those that are left answer as all do
abbrev pub invariant-loop-at : goal.invariant-loop-at
invariant-loop-at l = all_from is_closed l.at (map slot_of l.slots) ≡ all_from is_closed l.from (map slot_of l.slots)

abbrev pub decreases-loop-at : goal.decreases-loop-at
decreases-loop-at l = length l.slots - l.at
