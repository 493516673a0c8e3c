-- A draft, line by line.
use Rattle.std.proofs.Common.{◌≡◌, ◌+◌, ℕ, Bool, true, false, List, [], ◌∷◌, ◌++◌, length, map, refl, ap, sym, ◌∙◌, arith, append_assoc, append-nil, length-append}
use Rattle.std.specs.Prelude.{Option, Some, None, is_some, cond, if◌then◌else◌}
use Rattle.std.proofs.lemmas.List.{length-map}
use Rattle.std.specs.Cmp.Lexicographic.{same_text}
use Rattle.prog_asm.specs.declared.drafts.Draft.{Draft}
use Rattle.instruction_set.specs.Forms.{Written}
use Rattle.instruction_set.specs.Assembly.{Line, has_label, is_label, is_twice, steps_from, steps_of, steps_on}
use Rattle.prog_asm.specs.LineViews.{has_point, point_in}
use Rattle.prog_asm.specs.DraftViews.{Drafts, labelled_from, step_from}

length-steps_on : (m n : ℕ) (instruction : Option Written) → length (steps_on m instruction) ≡ length (steps_on n instruction)
length-steps_on m n None = refl
length-steps_on m n (Some written) = refl

-- how many instructions there are doesn't depend on the lines' numbers
pub length-steps_from : (m n : ℕ) (lines : List Line) → length (steps_from m lines) ≡ length (steps_from n lines)
length-steps_from m n [] = refl
length-steps_from m n (line ∷ lines) =
    omega (
      arith,
      length-append (steps_on m line.instruction) (steps_from (m + 1) lines),
      length-append (steps_on n line.instruction)
          (steps_from (n + 1) lines),
      length-steps_on m n line.instruction,
      length-steps_from (m + 1) (n + 1) lines,
    )

pub length-steps_of : (line : Line) (lines : List Line) → length (steps_of (line ∷ lines)) ≡ length (steps_on 1 line.instruction) + length (steps_of lines)
length-steps_of line lines =
    omega (arith, length-append (steps_on 1 line.instruction) (steps_from (1 + 1) lines), length-steps_from (1 + 1) 1 lines)

steps_from-append : (n : ℕ) (lines : List Line) (line : Line) → steps_from n (lines ++ line ∷ []) ≡ steps_from n lines ++ steps_on (n + length lines) line.instruction
steps_from-append n [] line = let same : n ≡ n + 0 = omega arith in append-nil (steps_on n line.instruction) ∙ ap (λ m. steps_on m line.instruction) same
steps_from-append n (first ∷ lines) line =
    let same : n + 1 + length lines ≡ n + length (first ∷ lines) = omega arith in
    ap (λ steps. steps_on n first.instruction ++ steps) (steps_from-append (n + 1) lines line ∙ ap (λ m. steps_from (n + 1) lines ++ steps_on m line.instruction) same)
    ∙ sym (append_assoc (steps_on n first.instruction) (steps_from (n + 1) lines) (steps_on (n + length (first ∷ lines)) line.instruction))

-- one line more
pub steps_of-append : (lines : List Line) (line : Line) → steps_of (lines ++ line ∷ []) ≡ steps_of lines ++ steps_on (length lines + 1) line.instruction
steps_of-append lines line = let same : 1 + length lines ≡ length lines + 1 = omega arith in steps_from-append 1 lines line ∙ ap (λ m. steps_of lines ++ steps_on m line.instruction) same

-- the first, or else the second
abbrev pub first_of_two : Option ℕ → Option ℕ → Option ℕ
first_of_two None other = other
first_of_two (Some n) other = Some n

labelled_from-append : (point : ℕ) (name : List ℕ) (lines : List Line) (line : Line) →
    labelled_from point name (lines ++ line ∷ []) ≡ first_of_two (labelled_from point name lines)
    (if is_label name line.label then Some (point + length (steps_of lines)) else None)
labelled_from-append point name [] line = let same : point ≡ point + 0 = omega arith in ap (λ p. if is_label name line.label then Some p else None) same
labelled_from-append point name (first ∷ lines) line =
    let rest : ℕ = point + length (steps_on 1 first.instruction) in
    let same : rest + length (steps_of lines) ≡ point + length (steps_of (first ∷ lines)) = omega (arith, length-steps_of first lines) in
    go (is_label name first.label) (labelled_from-append rest name lines line ∙ ap (λ p. first_of_two (labelled_from rest name lines) (if is_label name line.label then Some p else None)) same)
  where
    go : (is : Bool) → labelled_from (point + length (steps_on 1 first.instruction)) name (lines ++ line ∷ []) ≡ first_of_two
        (labelled_from (point + length (steps_on 1 first.instruction)) name lines)
        (if is_label name line.label then Some (point + length (steps_of (first ∷ lines))) else None) →
        cond is (Some point) (labelled_from (point + length (steps_on 1 first.instruction)) name (lines ++ line ∷ [])) ≡ first_of_two
        (cond is (Some point) (labelled_from (point + length (steps_on 1 first.instruction)) name lines))
        (if is_label name line.label then Some (point + length (steps_of (first ∷ lines))) else None)
    go true rest = refl
    go false rest = rest

-- a line has the label where a number of instructions stands before it
has_label-labelled : (point : ℕ) (name : List ℕ) (lines : List Line) → has_label name lines ≡ is_some (labelled_from point name lines)
has_label-labelled point name [] = refl
has_label-labelled point name (line ∷ lines) = go (is_label name line.label) (has_label-labelled (point + length (steps_on 1 line.instruction)) name lines)
  where
    go : (is : Bool) → has_label name lines ≡ is_some (labelled_from (point + length (steps_on 1 line.instruction)) name lines) →
        cond is true (has_label name lines) ≡ is_some (cond is (Some point) (labelled_from (point + length (steps_on 1 line.instruction)) name lines))
    go true rest = refl
    go false rest = rest

pub length-drafts : (before : List Line) (draft : Draft) → Drafts before draft → length draft.steps.items ≡ length (steps_of before)
length-drafts before draft drafts = sym (length-map draft.steps.items step_from) ∙ ap length drafts.steps

-- whether a label is there already, by the draft
pub is_twice-drafts : (before : List Line) (draft : Draft) (label : Option (List ℕ)) → Drafts before draft → is_twice before label ≡ has_point draft.labels label
is_twice-drafts before draft None drafts = refl
is_twice-drafts before draft (Some name) drafts = has_label-labelled 0 name before ∙ ap is_some (sym (drafts.labels name))

none_from_is_some : {A : Type 0} (o : Option A) → is_some o ≡ false → o ≡ None
none_from_is_some None h = refl
none_from_is_some (Some a) h = absurd cc

absent-at : (draft : Draft) (name : List ℕ) (label : Option (List ℕ)) → has_point draft.labels label ≡ false → is_label name label ≡ true → point_in draft.labels name ≡ None
absent-at draft name None absent is = absurd cc
absent-at draft name (Some own) absent is =
    let same : own ≡ name = same_text own name (sym is) in
    none_from_is_some (point_in draft.labels name) (ap (λ n. is_some (point_in draft.labels n)) (sym same) ∙ absent)

first_of_two-none : (o : Option ℕ) → first_of_two o None ≡ o
first_of_two-none None = refl
first_of_two-none (Some n) = refl

-- where a new label stands, and the others
pub labels-after : (before : List Line) (line : Line) (draft after : Draft) → Drafts before draft → has_point draft.labels line.label ≡ false →
    ((name : List ℕ) → point_in after.labels name ≡ cond (is_label name line.label) (Some (length draft.steps.items)) (point_in draft.labels name)) →
    (name : List ℕ) → point_in after.labels name ≡ labelled_from 0 name (before ++ line ∷ [])
labels-after before line draft after drafts absent added name =
    let all : length draft.steps.items ≡ 0 + length (steps_of before) = omega (arith, length-drafts before draft drafts) in
    added name ∙ go (is_label name line.label) refl all ∙ sym (labelled_from-append 0 name before line)
  where
    go : (is : Bool) → is_label name line.label ≡ is → length draft.steps.items ≡ 0 + length (steps_of before) →
        cond is (Some (length draft.steps.items)) (point_in draft.labels name) ≡ first_of_two (labelled_from 0 name before)
        (cond is (Some (0 + length (steps_of before))) None)
    go true is all = ap Some all ∙ sym (ap (λ o. first_of_two o (Some (0 + length (steps_of before)))) (sym (drafts.labels name) ∙ absent-at draft name line.label absent is))
    go false is all = drafts.labels name ∙ sym (first_of_two-none (labelled_from 0 name before))

pub steps-after : (before : List Line) (line : Line) (draft after : Draft) (number : ℕ) → number ≡ length before + 1 → Drafts before draft →
    map step_from after.steps.items ≡ map step_from draft.steps.items ++ steps_on number line.instruction →
    map step_from after.steps.items ≡ steps_of (before ++ line ∷ [])
steps-after before line draft after number is drafts added =
    added ∙ ap (λ steps. steps ++ steps_on number line.instruction) drafts.steps ∙ ap (λ n. steps_of before ++ steps_on n line.instruction) is ∙ sym (steps_of-append before line)
