-- What the test of a policy says.
use Rattle.std.proofs.Common.{◌≡◌, inl, inr, ℕ, zero, suc, Bool, true, false, List, [], ◌∷◌, ◌<◌, refl, arith, length, drop, ◌∙◌, ap}
use Rattle.std.specs.Prelude.{◌||◌, Some}
use Rattle.std.specs.List.{slice_get, slice_index_or, Contains}
use Rattle.std.specs.Cmp.Derive.{both_true}
use Rattle.std.proofs.lemmas.Map.Views.{Contains-from_any}
use Rattle.rights.specs.Operations.{Operation, Look, Read, Write, Create, Remove}
use Rattle.rights.specs.OperationLists.{same_operation, lists}
use Rattle.rights.proofs.Tests.{both_left, both_right, either_one}
use Rattle.file_tree.specs.Places.{begins}
use Rattle.file_tree.proofs.PlaceLaws.{begins_is, begins_from}
use Rattle.task.specs.Plans.{Grant}
use Rattle.task.specs.Policies.{allows, is_allowed}
use Rattle.task.specs.Sandboxed.{Allowed}
use Rattle.task.specs.Laws.{AllowedIsTested}

same_is : (a b : Operation) → same_operation a b ≡ true → a ≡ b
same_is Look Look is = refl
same_is Look Read is = absurd cc
same_is Look Write is = absurd cc
same_is Look Create is = absurd cc
same_is Look Remove is = absurd cc
same_is Read Look is = absurd cc
same_is Read Read is = refl
same_is Read Write is = absurd cc
same_is Read Create is = absurd cc
same_is Read Remove is = absurd cc
same_is Write Look is = absurd cc
same_is Write Read is = absurd cc
same_is Write Write is = refl
same_is Write Create is = absurd cc
same_is Write Remove is = absurd cc
same_is Create Look is = absurd cc
same_is Create Read is = absurd cc
same_is Create Write is = absurd cc
same_is Create Create is = refl
same_is Create Remove is = absurd cc
same_is Remove Look is = absurd cc
same_is Remove Read is = absurd cc
same_is Remove Write is = absurd cc
same_is Remove Create is = absurd cc
same_is Remove Remove is = refl

same_refl : (a : Operation) → same_operation a a ≡ true
same_refl Look = refl
same_refl Read = refl
same_refl Write = refl
same_refl Create = refl
same_refl Remove = refl

-- a list that contains an operation lists it
any_first : (a b : Bool) → a ≡ true → (a || b) ≡ true
any_first true b is = refl
any_first false b is = absurd cc

any_next : (a b : Bool) → b ≡ true → (a || b) ≡ true
any_next true b is = refl
any_next false b is = is

listed_at : (operations : List Operation) (operation : Operation) (k : ℕ) → k < length operations → slice_index_or operations k operation ≡ operation → lists operations operation ≡ true
listed_at [] operation k below is = absurd (omega arith)
listed_at (o ∷ operations) operation zero below is =
    any_first _ (lists operations operation) (ap (same_operation operation) is ∙ same_refl operation)
listed_at (o ∷ operations) operation (suc k) below is =
    any_next (same_operation operation o) _ (listed_at operations operation k (omega arith) is)

listed_in : (operations : List Operation) (operation : Operation) → Contains operations operation → lists operations operation ≡ true
listed_in operations operation contains = listed_at operations operation contains.0 contains.1 contains.2

-- one grant more before the others
later : (g : Grant) (grants : List Grant) (operation : Operation) (place : List (List ℕ)) → Allowed grants operation place → Allowed (g ∷ grants) operation place
later g grants operation place rest = record {
  number = suc rest.number;
  grant = rest.grant;
  rest = rest.rest;
  there = rest.there;
  beneath = rest.beneath;
  listed = rest.listed;
}

here : (g : Grant) (grants : List Grant) (operation : Operation) (place : List (List ℕ)) → allows g operation place ≡ true → Allowed (g ∷ grants) operation place
here g grants operation place test = record {
  number = 0;
  grant = g;
  rest = drop (length g.path) place;
  there = refl;
  beneath = begins_is g.path place (both_left _ (lists g.operations operation) test);
  listed = Contains-from_any same_is operation g.operations (both_right (begins g.path place) _ test);
}

found : (grants : List Grant) (operation : Operation) (place : List (List ℕ)) → is_allowed grants operation place ≡ true → Allowed grants operation place
found [] operation place test = absurd cc
found (g ∷ grants) operation place test =
    elim (either_one (allows g operation place) (is_allowed grants operation place) test) [
      | inl first ↦ here g grants operation place first
      | inr other ↦ later g grants operation place (found grants operation place other)
    ]

-- a grant that is there is tried
tried : (grants : List Grant) (operation : Operation) (place : List (List ℕ)) (number : ℕ) (g : Grant) → slice_get grants number ≡ Some g →
    allows g operation place ≡ true → is_allowed grants operation place ≡ true
tried [] operation place number g there test = absurd cc
tried (h ∷ grants) operation place zero g there test =
    any_first _ (is_allowed grants operation place) (let same : h ≡ g = cc in ap (λ x. allows x operation place) same ∙ test)
tried (h ∷ grants) operation place (suc number) g there test = any_next (allows h operation place) _ (tried grants operation place number g there test)

pub allowed_is_tested : AllowedIsTested
allowed_is_tested grants operation place = (
  found grants operation place,
  (λ allowed.
      tried grants operation place allowed.number allowed.grant allowed.there
      (both_true (begins_from allowed.grant.path place allowed.rest allowed.beneath) (listed_in allowed.grant.operations operation allowed.listed))),
)
