-- What is said of the last of a list.
use Rattle.std.proofs.Common.{◌≡◌, ◌-◌, ◌<◌, ℕ, suc, false, List, [], ◌∷◌, length, get_or, map, refl, ap, sym, ◌∙◌, arith}
use Rattle.std.specs.Prelude.{cond}
use Rattle.instruction_set.specs.Assembly.{FallsOff, Step, last_line_number}
use Rattle.prog_asm.specs.declared.drafts.Step.{Step as StepCode}
use Rattle.prog_asm.specs.declared.lines.Word.{Word as WordCode}
use Rattle.prog_asm.specs.DraftViews.{step_from}
use Rattle.prog_asm.specs.LineFaults.{LineFault, falls_off, instruction_place, is_ending, last_place, line_numbered, placed_fault, steps_end}
use Rattle.prog_asm.specs.LineViews.{span_seen, word_of}

last-is : {A B : Type 0} (f : List A → B) (g : A → B) → ((x : A) → f (x ∷ []) ≡ g x) → ((x y : A) (xs : List A) → f (x ∷ y ∷ xs) ≡ f (y ∷ xs)) →
    (xs : List A) (d : A) → 0 < length xs → f xs ≡ g (get_or xs (length xs - 1) d)
last-is f g one more [] d some = absurd (omega arith)
last-is f g one more (x ∷ []) d some = one x
last-is f g one more (x ∷ y ∷ xs) d some =
    let next : length (x ∷ y ∷ xs) - 1 ≡ suc (length (y ∷ xs) - 1) = omega arith in
    more x y xs ∙ last-is f g one more (y ∷ xs) d (omega arith) ∙ sym (ap (λ n. g (get_or (x ∷ y ∷ xs) n d)) next)

pub last_place-last : (words : List WordCode) (d : WordCode) → 0 < length words → last_place (map word_of words) ≡ span_seen (get_or words (length words - 1) d).span
last_place-last words d some = last-is (λ words. last_place (map word_of words)) (λ word. span_seen word.span) (λ word. refl) (λ word next words. refl) words d some

-- the last instruction, as the code finds it
pub last-step : (steps : List StepCode) (step : StepCode) → 0 < length steps → step ≡ get_or steps (length steps - 1) step →
    (steps_end (map step_from steps) ≡ is_ending (step_from step).written) × (last_line_number (map step_from steps) ≡ step.line)
last-step steps step some is = (
  last-is (λ steps. steps_end (map step_from steps)) (λ step. is_ending (step_from step).written) (λ step. refl) (λ step next steps. refl) steps step some
      ∙ sym (ap (λ step. is_ending (step_from step).written) is),
  last-is (λ steps. last_line_number (map step_from steps)) (λ step. step.line) (λ step. refl) (λ step next steps. refl) steps step some ∙ sym (ap (λ step. step.line) is),
)

-- Something goes on past the end.
pub falls : (lines : List (List ℕ)) (steps : List Step) (number : ℕ) (fault : LineFault) → (steps_end steps ≡ false) × (number ≡ last_line_number steps) →
    fault ≡ placed_fault FallsOff number (instruction_place (line_numbered lines number)) → fault ∷ [] ≡ falls_off lines steps
falls lines steps number fault ends is =
    ap (λ fault. fault ∷ []) (is ∙ ap (λ n. placed_fault FallsOff n (instruction_place (line_numbered lines n))) ends.1)
    ∙ sym (ap (λ ends. cond ends [] (placed_fault FallsOff (last_line_number steps) (instruction_place (line_numbered lines (last_line_number steps))) ∷ [])) ends.0)
