use Rattle.std.proofs.Common.{◌≡◌, map}
use Rattle.std.specs.List.{range_with_len}
use Rattle.instruction_set.specs.Views.{code_of}
use Rattle.remarks.specs.RemarkViews.{uses_seen}
use Rattle.remarks.specs.Uses.{uses_later}
use Rattle.remarks.proofs.reaching.or_later.Given as goal

-- those of the points before are there
abbrev pub invariant-loop-point : goal.invariant-loop-point
invariant-loop-point l = map uses_seen l.later.items ≡ map (uses_later (code_of l.code) (map uses_seen l.uses)) (range_with_len 0 l.point)
