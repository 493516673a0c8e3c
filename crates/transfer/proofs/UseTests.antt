-- A test of each use of a call is one of each slot of its operands.
use Rattle.std.proofs.Common.{◌≡◌, Bool, true, false, ap, sym, ◌∙◌}
use Rattle.std.specs.Prelude.{◌&&◌}
use Rattle.std.specs.List.{list_all}
use Rattle.std.proofs.lemmas.List.Folds.{list_all-append}
use Rattle.certificate.specs.Bounds.{Bound}
use Rattle.instruction_set.specs.Programs.{Syscall}
use Rattle.rules.specs.Needs.{Needs, needs}
use Rattle.rules.specs.Uses.{Use, uses_through, uses_of, uses}

uses_pass : (test : Use → Bool) (b : Bound) (call : Syscall) (n : Needs) → n ≡ needs call →
    (list_all test (uses_through b n.first) && list_all test (uses_through b n.second)) ≡ list_all test (uses b call)
unfolding uses
uses_pass test b call n is =
    sym (list_all-append test (uses_through b n.first) (uses_through b n.second))
    ∙ ap (λ m. list_all test (uses_of b m)) is

-- where those of the first operand pass, those of the second decide
pub first_passes : (test : Use → Bool) (b : Bound) (call : Syscall) (n : Needs) → n ≡ needs call → (x y : Bool) → x ≡ true →
    x ≡ list_all test (uses_through b n.first) → y ≡ list_all test (uses_through b n.second) → y ≡ list_all test (uses b call)
first_passes test b call n is x y true_now first second =
    second ∙ ap (λ z. z && list_all test (uses_through b n.second)) (sym true_now ∙ first) ∙ uses_pass test b call n is

pub first_fails : (test : Use → Bool) (b : Bound) (call : Syscall) (n : Needs) → n ≡ needs call → (x : Bool) → x ≡ false → x ≡ list_all test (uses_through b n.first) → x ≡ list_all test (uses b call)
first_fails test b call n is x false_now first =
    false_now ∙ ap (λ z. z && list_all test (uses_through b n.second)) (sym false_now ∙ first) ∙ uses_pass test b call n is
