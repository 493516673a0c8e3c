use Rattle.std.proofs.Common.{◌≡◌, ◌++◌, ◌∷◌, [], ap, map, sym, ◌∙◌}
use Rattle.std.specs.List.{flat_map}
use Rattle.std.specs.Prelude.{option_map}
use Rattle.std.specs.VecDeque.Iter.{deque_iter_rest}
use Rattle.std.proofs.lemmas.List.{map-append, nil_from_length}
use Rattle.instruction_set.specs.Assembly.{point_named, steps_of}
use Rattle.prog_asm.specs.DraftViews.{draft_point, step_from}
use Rattle.prog_asm.specs.FaultPlaceViews.{fault_seen, faults_seen, list_of}
use Rattle.prog_asm.specs.LineFaults.{falls_off, missing_label}
use Rattle.prog_asm.proofs.JudgedCode.{missing-drafts, nothing-behind}
use Rattle.prog_asm.proofs.judging.faults_together.Goals as goal
use Rattle.prog_asm.proofs.judging.faults_together.Goals.{in-Some-3+in_ok-push-2, in_default-2}

pub returns : goal.returns
returns c = λ read drafts.
    let lines = map (λ line. line.now) c.args.lines.now in
    let draft = c.args.draft.now in
    let missing = flat_map (missing_label lines (draft_point draft)) in
    let told : faults_seen c.match-branch-5.faults.items ≡ faults_seen c.loop-step.faults.items ++ list_of (option_map fault_seen c.in_ok-fault-2.field-0) =
    elim c.match-branch-5.branch [
      | in-Some-3+in_ok-push-2 w ↦
          ap (λ faults. faults_seen faults.items) w.faults-is ∙ ap faults_seen w.in_ok-push-2.ensures.items ∙ map-append fault_seen c.loop-step.faults.items (w.in-Some-3.fault ∷ [])
          ∙ sym (ap (λ fault. faults_seen c.loop-step.faults.items ++ list_of (option_map fault_seen fault)) w.in-Some-3.is)
      | in_default-2 w ↦
          ap (λ faults. faults_seen faults.items) w.faults-is
          ∙ nothing-behind (faults_seen c.loop-step.faults.items) _ (ap (λ fault. list_of (option_map fault_seen fault)) w.in_default-2.is)
    ] in
    let all =
    nothing-behind (faults_seen c.loop-step.faults.items) (missing (map step_from (deque_iter_rest c.loop-step.step-iterator)))
    (ap (λ left. missing (map step_from left)) (nil_from_length _ c.in-None.ensures.steps.0))
    ∙ c.loop-step.invariant
    in
    told ∙ ap (λ front. front ++ list_of (option_map fault_seen c.in_ok-fault-2.field-0)) (all ∙ missing-drafts lines read draft drafts)
    ∙ ap (λ more. flat_map (missing_label lines (point_named read)) (steps_of read) ++ more) (c.in_ok-fault-2.ensures ∙ ap (falls_off lines) drafts.steps)
