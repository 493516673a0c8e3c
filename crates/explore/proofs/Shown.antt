-- What is allowed is allowed by the text of its place.
use Rattle.std.proofs.Common.{◌≡◌, ℕ, Bool, true, false, List, [], ◌∷◌, ◌++◌, inl, inr, refl, ap, subst, ◌∙◌, nat_eq, bytes_eq, eq-eqb}
use Rattle.std.specs.Prelude.{◌||◌, Some}
use Rattle.std.specs.List.{list_any}
use Rattle.std.specs.Cmp.Derive.{both_true}
use Rattle.rights.specs.OperationLists.{lists}
use Rattle.rights.proofs.Tests.{both_left, both_right, either_one}
use Rattle.rights.proofs.Words.{same_bytes}
use Rattle.file_tree.specs.Places.{begins, names_text, place_text, slash}
use Rattle.kernel.specs.Answers.{Effect}
use Rattle.syscalls.specs.Shows.{shown}
use Rattle.task.specs.Plans.{Grant}
use Rattle.task.specs.Policies.{allows, is_allowed}
use Rattle.file_tree.specs.Places.{ends_name}
use Rattle.explore.specs.Breaches.{allows_shown, behind, is_beneath, passes}

same_byte : (b : ℕ) → nat_eq b b ≡ true
same_byte b = eq-eqb b b refl

behind-own : (front text : List ℕ) → behind front (front ++ text) ≡ Some text
behind-own [] text = refl
behind-own (b ∷ front) text = rw (same_byte b) (behind-own front text)

name-ends : (place : List (List ℕ)) → ends_name (names_text place) ≡ true
name-ends [] = refl
name-ends (name ∷ place) = refl

-- a place that begins with another has a text beneath it
names-beneath : (path place : List (List ℕ)) → begins path place ≡ true → is_beneath path (names_text place) ≡ true
unfolding is_beneath
names-beneath [] place is = name-ends place
names-beneath (x ∷ path) [] is = absurd cc
names-beneath (x ∷ path) (y ∷ place) is =
    let same : x ≡ y = same_bytes x y (both_left (bytes_eq x y) (begins path place) is) in
    let own : behind (slash ∷ x) (names_text (x ∷ place)) ≡ Some (names_text place) = behind-own (slash ∷ x) (names_text place) in
    let here : passes (is_beneath path) (behind (slash ∷ x) (names_text (x ∷ place))) ≡ true =
    ap (passes (is_beneath path)) own ∙ names-beneath path place (both_right (bytes_eq x y) (begins path place) is)
    in
    subst (λ n. passes (is_beneath path) (behind (slash ∷ x) (names_text (n ∷ place))) ≡ true) same here

text-beneath : (path place : List (List ℕ)) → begins path place ≡ true → is_beneath path (place_text place) ≡ true
unfolding is_beneath
text-beneath [] [] is = refl
text-beneath (x ∷ path) [] is = absurd cc
text-beneath path (y ∷ place) is = names-beneath path (y ∷ place) is

one-allows : (f : Effect) (g : Grant) → allows g f.operation f.place ≡ true → allows_shown (shown f) g ≡ true
one-allows f g is =
    both_true (text-beneath g.path f.place (both_left (begins g.path f.place) (lists g.operations f.operation) is))
    (both_right (begins g.path f.place) (lists g.operations f.operation) is)

or_left : (a b : Bool) → a ≡ true → (a || b) ≡ true
or_left true b is = refl
or_left false b is = absurd cc

or_right : (a b : Bool) → b ≡ true → (a || b) ≡ true
or_right true b is = refl
or_right false b is = is

pub allowed-shown : (grants : List Grant) (f : Effect) → is_allowed grants f.operation f.place ≡ true → list_any (allows_shown (shown f)) grants ≡ true
allowed-shown [] f is = absurd cc
allowed-shown (g ∷ grants) f is = elim (either_one (allows g f.operation f.place) (is_allowed grants f.operation f.place) is) [
  | inl here ↦ or_left (allows_shown (shown f) g) (list_any (allows_shown (shown f)) grants) (one-allows f g here)
  | inr there ↦ or_right (allows_shown (shown f) g) (list_any (allows_shown (shown f)) grants) (allowed-shown grants f there)
]
