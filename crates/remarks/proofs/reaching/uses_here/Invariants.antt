use Rattle.std.proofs.Common.{◌≡◌, map}
use Rattle.std.specs.List.{range_with_len}
use Rattle.certificate.specs.Views.{target_of}
use Rattle.instruction_set.specs.Views.{code_of}
use Rattle.remarks.specs.RemarkViews.{bounds_of, uses_seen}
use Rattle.remarks.specs.Uses.{uses_on}
use Rattle.remarks.proofs.reaching.uses_here.Given as goal

-- those of the points before are there
abbrev pub invariant-loop-point : goal.invariant-loop-point
invariant-loop-point l =
    map uses_seen l.uses.items
    ≡ map (uses_on (code_of l.code) (bounds_of l.bounds) (target_of l.target)) (range_with_len 0 l.point)
