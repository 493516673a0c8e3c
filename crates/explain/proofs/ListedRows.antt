-- A line that is folded and one that isn't; and nothing is no listing of a task with a program.
use Rattle.std.proofs.Common.{◌≡◌, ◌∙◌, ◌++◌, ◌∷◌, ℕ, zero, suc, Bool, List, [], length, refl, sym}
use Rattle.std.specs.Prelude.{codes}
use Rattle.std.specs.List.{range_with_len}
use Rattle.certificate.specs.Bounds.{Certificate}
use Rattle.task.specs.Plans.{Plan, program_name}
use Rattle.explain.specs.Listing.{Folds, InOrder, Lists, TellsProgram, breaks, goes_on, last_word, no_more, one_more}

folded : Folds (codes "a b") (codes "a\n    b")
folded = breaks (codes "a") (last_word (codes "b"))

as_it_is : Folds (codes "a b") (codes "a b")
as_it_is = goes_on (codes "a") (last_word (codes "b"))

first_empty : (first second : List ℕ) → first ++ second ≡ [] → first ≡ []
first_empty [] second is = refl
first_empty (byte ∷ first) second is = absurd cc

second_empty : (first second : List ℕ) → first ++ second ≡ [] → second ≡ []
second_empty [] second is = is
second_empty (byte ∷ first) second is = absurd cc

-- where each of some things has some text, nothing tells none of them
none_told : {X : Type 0} (Tells : X → List ℕ → Type 0) → ((x : X) (text : List ℕ) → Tells x text → text ≡ [] → ⊥) → (list : List X) (all : List ℕ)
    → InOrder Tells list all → all ≡ [] → list ≡ []
none_told Tells never list all no_more is = refl
none_told Tells never list all (one_more x {xs} {text} {behind} told others) is = absurd (never x text told (first_empty text behind is))

no_range : (n : ℕ) → range_with_len 0 n ≡ [] → n ≡ 0
no_range zero is = refl
no_range (suc n) is = absurd cc

module _ (plan : Plan) (c bounds : Certificate) (has_cert : Bool) where
  named : (program : ℕ) (text : List ℕ) → TellsProgram plan c bounds has_cert program text → text ≡ [] → ⊥
  named program text tells is =
      let line = second_empty (program_name plan program) (codes "\n" ++ (tells.authority ++ (tells.of_points ++ (tells.remarks ++ tells.warnings)))) (sym tells.is_text ∙ is) in
      cc

  pub nothing_listed : Lists plan c bounds has_cert [] → length plan.programs ≡ 0
  nothing_listed lists =
      no_range (length plan.programs)
      (none_told (TellsProgram plan c bounds has_cert) named (range_with_len 0 (length plan.programs)) lists.programs lists.tells_programs
      (first_empty lists.programs lists.remarks (sym lists.is_text)))
