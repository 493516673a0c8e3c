use Rattle.std.proofs.Common.{◌≡◌, map}
use Rattle.std.specs.List.{range_with_len}
use Rattle.instruction_set.specs.Views.{code_of}
use Rattle.remarks.specs.Ways.{comes_to}
use Rattle.remarks.proofs.ways.reached.Given as goal

-- the flags of the points before are there
abbrev pub invariant-loop-point : goal.invariant-loop-point
invariant-loop-point l = l.found.items ≡ map (comes_to (code_of l.code)) (range_with_len 0 l.point)
