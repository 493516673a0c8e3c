use Rattle.std.proofs.Common.{◌≡◌, ◌++◌, length, map}
use Rattle.std.specs.List.{filter_map}
use Rattle.instruction_set.specs.Assembly.{placed}
use Rattle.instruction_set.specs.Views.{code_of}
use Rattle.prog_asm.specs.DraftViews.{below, step_from}
use Rattle.prog_asm.specs.LineViews.{point_in}
use Rattle.prog_asm.proofs.assembler.place_all.Given as goal

-- the code so far, and what is left
abbrev pub invariant-loop-written : goal.invariant-loop-written
invariant-loop-written l =
    filter_map (λ step. placed (λ name. below l.points (point_in l.draft.labels name)) step.written) (map step_from l.initial.steps.items)
    ≡ code_of l.code.items ++ filter_map (λ step. placed (λ name. below l.points (point_in l.draft.labels name)) step.written) (map step_from l.steps.items)

abbrev pub decreases-loop-written : goal.decreases-loop-written
decreases-loop-written l = length l.steps.items
