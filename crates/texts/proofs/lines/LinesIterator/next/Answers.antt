use Rattle.std.proofs.Common.{◌∷◌, List, ℕ, Bool, ap, sym, ◌∙◌}
use Rattle.std.specs.Prelude.{is_some, option_map}
use Rattle.texts.specs.Lines.{Line}
use Rattle.texts.specs.LineViews.{lines_left}
use Rattle.texts.proofs.LineSteps.{next-ended, next-last}
use Rattle.texts.proofs.lines.LinesIterator.next.Goals as goal
use Rattle.texts.proofs.lines.LinesIterator.next.Goals.{then-is_some, else-is_some}

pub returns-clause-steps : goal.returns-clause-steps
returns-clause-steps c =
    let offset = c.self.inside.offset in
    let rest = c.in_ok-rest.rest.now in
    let first = c.first_part.result.0.now in
    let behind = c.first_part.result.1 in
    let before = sym c.self.view_is ∙ ap (λ o. lines_left offset (option_map (λ r. r.now) o)) c.in_ok-rest.was in
    let after : ℕ → Bool → List Line = λ left ended. (record { text = first; offset = offset; is_ended = ended }) ∷ lines_left left (option_map (λ r. r.now) behind) in
    elim c.if-is_some.branch [
      | then-is_some w ↦
          before ∙ next-ended offset rest first behind c.first_part.ensures.parts (sym c.is_some.ensures ∙ w.if-is_some.true)
          ∙ ap (λ left. after left (is_some behind)) (sym (ap (λ inside. inside.offset) w.self-inside-is))
          ∙ ap (after c.if-is_some.self-inside.offset) (sym c.is_some-2.ensures)
      | else-is_some w ↦
          before ∙ next-last offset c.if-is_some.self-inside.offset rest first behind c.first_part.ensures.parts (sym c.is_some.ensures ∙ w.if-is_some.false)
          ∙ ap (after c.if-is_some.self-inside.offset) (sym c.is_some-2.ensures)
    ]
