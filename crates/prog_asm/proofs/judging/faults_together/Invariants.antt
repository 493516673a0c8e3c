use Rattle.std.proofs.Common.{◌≡◌, ◌++◌, map}
use Rattle.std.specs.List.{flat_map}
use Rattle.std.specs.VecDeque.Iter.{deque_iter_rest}
use Rattle.prog_asm.specs.DraftViews.{draft_point, step_from}
use Rattle.prog_asm.specs.FaultPlaceViews.{faults_seen}
use Rattle.prog_asm.specs.LineFaults.{missing_label}
use Rattle.prog_asm.proofs.judging.faults_together.Given as goal

-- the labels that are missing so far, and those of what is left
abbrev pub invariant-loop-step : goal.invariant-loop-step
invariant-loop-step l =
    faults_seen l.faults.items ++ flat_map (missing_label (map (λ line. line.now) l.lines) (draft_point l.draft))
    (map step_from (deque_iter_rest l.step-iterator))
    ≡ flat_map (missing_label (map (λ line. line.now) l.lines) (draft_point l.draft))
    (map step_from l.draft.steps.items)
