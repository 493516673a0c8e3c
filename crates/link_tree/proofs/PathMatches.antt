-- How a path is matched with a place, name by name.
use Rattle.std.proofs.Common.{◌≡◌, ℕ, ◌+◌, List, [], ◌∷◌, ◌++◌, Bool, true, false, length, drop, ap, sym, ◌∙◌, arith, append_assoc, append-nil, length-append}
use Rattle.std.specs.Prelude.{◌≢◌, not, is_some, MatchOption, Option, Some, None}
use Rattle.std.specs.Str.{bytes_eq}
use Rattle.std.proofs.lemmas.Slice.Eq.{bytes_eq-Decides}
use Rattle.std.proofs.lemmas.Bool.{false_from_ne_true, not-false}
use Rattle.file_tree.specs.Places.{begins, at_name}
use Rattle.file_tree.proofs.PlaceLaws.{begins_is, begins_append, begins_refl, begins_length, rest_same}

-- of a place and of what lies below it, where the names are those of the place and of what is left
module _ (names p q : List (List ℕ)) (x : List ℕ) (place : q ≡ at_name p x) where
  longer : (more : List (List ℕ)) → q ++ more ≡ p ++ (x ∷ more)
  longer more = ap (λ r. r ++ more) place ∙ append_assoc p (x ∷ []) more

  pub none_left : (rest : List (List ℕ)) → names ≡ p ++ rest → rest ≡ [] → (more : List (List ℕ)) → begins names (q ++ more) ≡ true
  none_left rest is none more =
      let whole : names ≡ p = is ∙ ap (λ r. p ++ r) none ∙ append-nil p in
      rw (longer more, whole) (begins_append p (x ∷ more))

  pub other_name : (rest left : List (List ℕ)) (y : List ℕ) → names ≡ p ++ rest → rest ≡ y ∷ left → y ≢ x → (more : List (List ℕ)) → begins names (q ++ more) ≡ false
  other_name rest left y is first other more = false_from_ne_true _ (λ front.
      let whole : names ≡ p ++ (y ∷ left) = is ∙ ap (λ r. p ++ r) first in
      let behind : List (List ℕ) = drop (length names) (q ++ more) in
      let all : p ++ (x ∷ more) ≡ p ++ (y ∷ left ++ behind) = sym (longer more) ∙ begins_is names (q ++ more) front ∙ ap (λ r. r ++ behind) whole ∙ append_assoc p (y ∷ left) behind in
      let tails : x ∷ more ≡ y ∷ left ++ behind = rest_same p (x ∷ more) (y ∷ left ++ behind) all in
      let same : y ≡ x = cc in
      other same)

  pub same_name : (rest left : List (List ℕ)) (y : List ℕ) → names ≡ p ++ rest → rest ≡ y ∷ left → y ≡ x → names ≡ q ++ left
  same_name rest left y is first same = is ∙ ap (λ r. p ++ r) (first ∙ ap (λ z. z ∷ left) same) ∙ sym (longer left)

pub all_taken : (names p rest : List (List ℕ)) → names ≡ p ++ rest → rest ≡ [] → begins names p ≡ true
all_taken names p rest is none = let whole : names ≡ p = is ∙ ap (λ r. p ++ r) none ∙ append-nil p in rw whole (begins_refl p)

pub some_left : (names p rest left : List (List ℕ)) (y : List ℕ) → names ≡ p ++ rest → rest ≡ y ∷ left → begins names p ≡ false
some_left names p rest left y is first = false_from_ne_true _ (λ front.
    let whole : length names ≡ length p + length (y ∷ left) = ap length (is ∙ ap (λ r. p ++ r) first) ∙ length-append p (y ∷ left) in
    absurd (omega (arith, begins_length names p front)))

pub decided : (names p : List (List ℕ)) (b : Bool) → ((more : List (List ℕ)) → begins names (p ++ more) ≡ b) → b ≡ begins names p
decided names p b h = sym (h []) ∙ ap (begins names) (append-nil p)

pub all_or_some : {A : Type 0} (o : Option A) (b : Bool) (first : A → List ℕ) (left : A → List (List ℕ)) (names p rest : List (List ℕ)) → is_some o ≡ not b
    → MatchOption o (rest ≡ []) (λ a. rest ≡ first a ∷ left a) → names ≡ p ++ rest → b ≡ begins names p
all_or_some None true first left names p rest test h is = sym (all_taken names p rest is h)
all_or_some None false first left names p rest test h is = cc
all_or_some (Some a) true first left names p rest test h is = cc
all_or_some (Some a) false first left names p rest test h is = sym (some_left names p rest (left a) (first a) is h)

-- what a test of two names says
pub different : (x y : List ℕ) (b : Bool) → b ≡ not (bytes_eq x y) → b ≡ true → x ≢ y
different x y b test is same =
    let yes : bytes_eq x y ≡ true = (bytes_eq-Decides x y).1 same in
    let wrong : true ≡ false = sym is ∙ test ∙ ap not yes in cc

pub equal : (x y : List ℕ) (b : Bool) → b ≡ not (bytes_eq x y) → b ≡ false → x ≡ y
equal x y b test is = (bytes_eq-Decides x y).0 (not-false _ (sym test ∙ is))
