use Rattle.std.proofs.Common.{◌≡◌, ◌-◌, length, map}
use Rattle.certificate.specs.Views.{target_of}
use Rattle.instruction_set.specs.Views.{code_of}
use Rattle.remarks.specs.RemarkViews.{bounds_of, uses_seen}
use Rattle.remarks.specs.Uses.{or_later, uses_ahead}
use Rattle.remarks.specs.Ways.{rounds}
use Rattle.remarks.proofs.reaching.uses_ahead.Given as goal

-- what is left to do comes to the same
abbrev pub invariant-loop-taken : goal.invariant-loop-taken
invariant-loop-taken l =
    rounds (or_later (code_of l.code)) (length (code_of l.code) - l.taken) (map uses_seen l.found.items)
    ≡ uses_ahead (code_of l.code) (bounds_of l.bounds) (target_of l.target)
