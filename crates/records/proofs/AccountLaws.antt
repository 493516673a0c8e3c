-- The lines that are listed, one more line at a time.
use Rattle.std.proofs.Common.{◌≡◌, ℕ, ◌+◌, ◌-◌, ◌++◌, ◌∷◌, [], ◌∙◌, Bool, true, false, List, Some, ap, get_or, refl, arith}
use Rattle.std.specs.Prelude.{◌==◌, ◌&&◌, ◌||◌}
use Rattle.std.proofs.Math.Bool.{not}
use Rattle.std.proofs.lemmas.Grind.{common_steps}
use Rattle.std.proofs.lemmas.List.Folds.{list_all-append}
use Rattle.std.specs.List.{slice_get}
use Rattle.records.specs.LineAccounts.{are_quiet, is_line_of, is_quiet, may_be_quiet}

-- behind a line that isn't marked, which is listed
pub unmarked-line : (i line : ℕ) (marks : List Bool) → get_or marks (i + 1) false ≡ false
    → ((is_line_of i line && not (get_or marks line false)) || ((i + 1) == line)) ≡ (is_line_of (i + 1) line && not (get_or marks line false))
unmarked-line i line marks off = grind (arith, common_steps)

-- behind a line that is
pub marked-line : (i line : ℕ) (marks : List Bool) → get_or marks (i + 1) false ≡ true
    → (is_line_of i line && not (get_or marks line false)) ≡ (is_line_of (i + 1) line && not (get_or marks line false))
marked-line i line marks on = grind (arith, common_steps)

-- where a line is listed as silent that may be, or none is
pub quiet-behind : (lines : List (List ℕ)) (before after : List ℕ) (number : ℕ) (silent : Bool) (line : List ℕ) → are_quiet lines before ≡ true
    → slice_get lines (number - 1) ≡ Some line → (silent ≡ true → may_be_quiet line ≡ true) → (silent ≡ false → after ≡ before)
    → (silent ≡ true → after ≡ before ++ number ∷ []) → are_quiet lines after ≡ true
quiet-behind lines before after number false line quiet there may same more = ap (are_quiet lines) (same refl) ∙ quiet
quiet-behind lines before after number true line quiet there may same more =
    ap (are_quiet lines) (more refl) ∙ list_all-append (λ n. is_quiet (slice_get lines (n - 1))) before (number ∷ [])
    ∙ ap (λ b. b && are_quiet lines (number ∷ [])) quiet ∙ ap (λ b. b && true) (ap is_quiet there ∙ may refl)
