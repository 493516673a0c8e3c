use Rattle.std.proofs.Common.{◌≡◌, ◌-◌, length, map}
use Rattle.certificate.specs.Lines.{is_full}
use Rattle.certificate.specs.Growth.{all_from}
use Rattle.certificate.specs.Views.{interval_of}
use Rattle.certificate.proofs.growth.are_full.Given as goal

-- those that are left answer as all do
abbrev pub invariant-loop-at : goal.invariant-loop-at
invariant-loop-at l = all_from is_full l.at (map interval_of l.registers) ≡ all_from is_full l.from (map interval_of l.registers)

abbrev pub decreases-loop-at : goal.decreases-loop-at
decreases-loop-at l = length l.registers - l.at
