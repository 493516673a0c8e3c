use Rattle.std.proofs.Common.{◌≡◌, ◌-◌, length}
use Rattle.remarks.specs.Ways.{or_before, rounds}
use Rattle.instruction_set.specs.Views.{code_of}
use Rattle.remarks.proofs.ways.from_which.Given as goal

-- what is left to do comes to the same
abbrev pub invariant-loop-steps : goal.invariant-loop-steps
invariant-loop-steps l =
    rounds (or_before (code_of l.code)) (length (code_of l.code) - l.steps) l.found.items
    ≡ rounds (or_before (code_of l.code)) (length (code_of l.code)) l.fn.flags.items
