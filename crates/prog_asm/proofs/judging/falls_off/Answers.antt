use Rattle.std.proofs.Common.{◌≡◌, ◌-◌, get_or, map, ap, sym, ◌∙◌, refl, false, true, arith}
use Rattle.std.proofs.lemmas.List.{nil_from_length}
use Rattle.instruction_set.specs.Assembly.{FallsOff, last_line_number}
use Rattle.prog_asm.specs.DraftViews.{step_from}
use Rattle.prog_asm.specs.LineFaults.{instruction_place, placed_fault, steps_end}
use Rattle.prog_asm.proofs.Lasts.{falls, last-step}
use Rattle.prog_asm.proofs.judging.falls_off.Goals as goal
use Rattle.prog_asm.proofs.judging.falls_off.Goals.{in-None, in-Some-2}

pub returns-in-Some : goal.returns-in-Some
returns-in-Some c =
    let steps = c.args.steps.now in
    let step = c.in-Some.step.now in
    let last = last-step steps.items step c.in-Some.ensures.item.3.0 (c.in-Some.ensures.lookup ∙ ap (λ n. get_or steps.items (n - 1) step) steps.ok.0) in
    let ends : steps_end (map step_from steps.items) ≡ true = last.0 ∙ sym c.is_ending.ensures ∙ c.if-is_ending.true in
    rw ends refl

pub returns : goal.returns
returns c =
    let steps = c.args.steps.now in
    let ends : (steps_end (map step_from steps.items) ≡ false) × (c.match-back.number ≡ last_line_number (map step_from steps.items)) =
    elim c.match-back.branch [
      | in-None w ↦
          let none = ap (map step_from) (nil_from_length steps.items (omega (arith, w.in-None.ensures.item.3))) in
          (ap steps_end none, w.number-is ∙ sym (ap last_line_number none))
      | in-Some-2 w ↦
          let step = w.in-Some.step.now in
          let last = last-step steps.items step w.in-Some.ensures.item.3.0 (w.in-Some.ensures.lookup ∙ ap (λ n. get_or steps.items (n - 1) step) steps.ok.0) in
          (last.0 ∙ sym w.is_ending.ensures ∙ w.if-is_ending.false, w.number-is ∙ sym last.1)
    ] in
    falls (map (λ line. line.now) c.args.lines.now) (map step_from steps.items) c.match-back.number _ ends
    (c.at.ensures ∙ ap (placed_fault FallsOff c.match-back.number) (c.in_ok-span.ensures ∙ ap instruction_place c.line_numbered.ensures))
