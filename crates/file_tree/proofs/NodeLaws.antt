-- Laws of the nodes of a list and of what stands at a place.
use Rattle.std.proofs.Common.{◌≡◌, ℕ, zero, suc, ◌<◌, ◌≤◌, ◌+◌, ◌-◌, ◌⊎◌, inl, inr, List, [], ◌∷◌, ◌++◌, Bool, true, false, Option, Some, None, length, slice_set, ap, sym, ◌∙◌, refl, arith, cond}
use Rattle.std.specs.Prelude.{◌≢◌, is_some}
use Rattle.std.specs.List.{list_any}
use Rattle.std.proofs.lemmas.Bool.{and_parts, cases_Bool}
use Rattle.std.proofs.lemmas.Bool.Decides.{eqb_tells}
use Rattle.std.proofs.lemmas.List.{get_or-set_same, get_or-set_other}
use Rattle.std.specs.Cmp.Derive.{both_true}
use Rattle.file_tree.specs.Places.{above}
use Rattle.file_tree.specs.Nodes.{Kind, File, Dir, Link, Node, node, nowhere, is_dir, stands_at, node_from, node_at}
use Rattle.file_tree.specs.Refusals.{ChangeFault}
use Rattle.file_tree.specs.WellFormed.{is_directory_at, has_directory, has_parent}
use Rattle.file_tree.proofs.PlaceLaws.{same_place_is, same_place_refl}

-- only numbers of the list name linked nodes
pub linked_there : (t : List Node) (n : ℕ) → (node t n).linked ≡ true → n < length t
linked_there [] n h = cc
linked_there (m ∷ t) zero h = omega arith
linked_there (m ∷ t) (suc n) h = let rest : n < length t = linked_there t n h in omega arith

-- a test that some node passes, and one that none does
pub any_at : (test : Node → Bool) (t : List Node) (n : ℕ) → test nowhere ≡ false → test (node t n) ≡ true → list_any test t ≡ true
any_at test [] n none h = cc
any_at test (m ∷ t) zero none h = rw h refl
any_at test (m ∷ t) (suc n) none h = elim (cases_Bool (test m)) [ inl passes ↦ rw passes refl | inr fails ↦ rw fails (any_at test t n none h) ]

pub any_found : (test : Node → Bool) (t : List Node) → list_any test t ≡ true → (n : ℕ) × (test (node t n) ≡ true)
any_found test [] h = cc
any_found test (m ∷ t) h =
    elim (cases_Bool (test m)) [
      | inl passes ↦ (0, passes)
      | inr fails ↦ let rest : list_any test t ≡ true = rw fails at h in let found = any_found test t rest in (suc found.0, found.1)
    ]

pub none_at : (test : Node → Bool) (t : List Node) (n : ℕ) → test nowhere ≡ false → list_any test t ≡ false → test (node t n) ≡ false
none_at test t n none h =
    elim (cases_Bool (test (node t n))) [ inr fails ↦ fails | inl passes ↦ let some = any_at test t n none passes in cc ]

-- a node at a place is linked and has it
pub stands_is : (p : List (List ℕ)) (m : Node) → stands_at p m ≡ true → (m.linked ≡ true) × (p ≡ m.place)
stands_is p m h = let parts = and_parts _ _ h in (parts.0, same_place_is p m.place parts.1)

pub stands_from : (p : List (List ℕ)) (m : Node) → m.linked ≡ true → p ≡ m.place → stands_at p m ≡ true
stands_from p m linked place = both_true linked (rw place (same_place_refl m.place))

-- what is found at a place stands there, and where nothing is found no node does
pub found_from : (k : ℕ) (p : List (List ℕ)) (t : List Node) (n : ℕ) → node_from k p t ≡ Some n → (k ≤ n) × (stands_at p (node t (n - k)) ≡ true)
found_from k p [] n h = cc
found_from k p (m ∷ t) n h =
    elim (cases_Bool (stands_at p m)) [
      | inl passes ↦ let here : Some k ≡ Some n = rw passes at h in let same : k ≡ n = cc in let none : n - k ≡ 0 = omega arith in (omega arith, rw none passes)
      | inr fails ↦ let rest : node_from (k + 1) p t ≡ Some n = rw fails at h in
          let found = found_from (k + 1) p t n rest in
          let more : k + 1 ≤ n = found.0 in
          let step : n - k ≡ suc (n - (k + 1)) = omega arith in (omega arith, rw step found.1)
    ]

pub missing_from : (k : ℕ) (p : List (List ℕ)) (t : List Node) → node_from k p t ≡ None → (n : ℕ) → stands_at p (node t n) ≡ false
missing_from k p [] h n = refl
missing_from k p (m ∷ t) h n = missing_at n (cases_Bool (stands_at p m)) (λ fails. missing_from (k + 1) p t (rw fails at h))
  where
    missing_at : (n : ℕ) → (stands_at p m ≡ true) ⊎ (stands_at p m ≡ false) → (stands_at p m ≡ false → (i : ℕ) → stands_at p (node t i) ≡ false) → stands_at p (node (m ∷ t) n) ≡ false
    missing_at n (inl passes) rest = let found : Some k ≡ None = rw passes at h in cc
    missing_at zero (inr fails) rest = fails
    missing_at (suc n) (inr fails) rest = rest fails n

pub node_at_found : (t : List Node) (p : List (List ℕ)) (n : ℕ) → node_at t p ≡ Some n → stands_at p (node t n) ≡ true
unfolding node_at
node_at_found t p n h = let all : n - 0 ≡ n = omega arith in rw all at (found_from 0 p t n h).1

pub node_at_none : (t : List Node) (p : List (List ℕ)) → node_at t p ≡ None → (n : ℕ) → stands_at p (node t n) ≡ false
unfolding node_at
node_at_none t p h n = missing_from 0 p t h n

-- a linked directory at a place
pub record Directory (t : List Node) (p : List (List ℕ)) : Type 0 where
  pub number : ℕ
  pub linked : (node t number).linked ≡ true
  pub kind : (node t number).kind ≡ Dir
  pub place : (node t number).place ≡ p

is_dir-true : (k : Kind) → is_dir k ≡ true → k ≡ Dir
is_dir-true File h = cc
is_dir-true Dir h = refl
is_dir-true Link h = cc

pub directory : (t : List Node) (p : List (List ℕ)) → has_directory t p ≡ true → Directory t p
directory t p h =
    let found = any_found (is_directory_at p) t h in
    let parts = and_parts _ _ found.1 in
    let stands = stands_is p (node t found.0) parts.0 in
    record { number = found.0; linked = stands.0; kind = is_dir-true _ parts.1; place = sym stands.1 }

pub directory_from : (t : List Node) (p : List (List ℕ)) → Directory t p → has_directory t p ≡ true
directory_from t p d =
    any_at (is_directory_at p) t d.number refl (both_true (stands_from p (node t d.number) d.linked (sym d.place)) (rw d.kind refl))

-- a place but the root's is in a linked directory
pub held_above : (t : List Node) (p : List (List ℕ)) → has_parent t p ≡ true → 0 < length p → Directory t (above p)
held_above t [] h low = absurd (omega arith)
held_above t (name ∷ p) h low = directory t (above (name ∷ p)) h

pub held_from : (t : List Node) (p : List (List ℕ)) → (0 < length p → Directory t (above p)) → has_parent t p ≡ true
held_from t [] h = refl
held_from t (name ∷ p) h = let low : 0 < length (name ∷ p) = omega arith in directory_from t (above (name ∷ p)) (h low)

-- one node of a list is replaced
pub set_cases : (t : List Node) (n k : ℕ) (m : Node) → n < length t → ((k ≡ n) × (node (slice_set t n m) k ≡ m)) ⊎ ((k ≢ n) × (node (slice_set t n m) k ≡ node t k))
set_cases t n k m there =
    elim (eqb_tells k n) [
      | inl same ↦ inl (same.1, ap (node (slice_set t n m)) same.1 ∙ get_or-set_same t n m nowhere there)
      | inr other ↦ inr (other.1, get_or-set_other t n k m nowhere other.1)
    ]

-- one node stands behind a list
pub more_cases : (t : List Node) (m : Node) (k : ℕ) → k < length t + 1 → ((k ≡ length t) × (node (t ++ m ∷ []) k ≡ m)) ⊎ ((k < length t) × (node (t ++ m ∷ []) k ≡ node t k))
more_cases [] m zero h = inl (refl, refl)
more_cases [] m (suc k) h = absurd (omega arith)
more_cases (n ∷ t) m zero h = inr (omega arith, refl)
more_cases (n ∷ t) m (suc k) h =
    let rest : k < length t + 1 = omega arith in
    elim (more_cases t m k rest) [
      | inl new ↦ inl (ap suc new.0, new.1)
      | inr old ↦ let less : k < length t = old.0 in inr (omega arith, old.1)
    ]

-- a chain of refusals that gives none
pub passed : (b : Bool) (f : ChangeFault) (rest : Option ChangeFault) → cond b (Some f) rest ≡ None → (b ≡ false) × (rest ≡ None)
passed true f rest h = cc
passed false f rest h = (refl, h)

pub passed_last : (b : Bool) (f : ChangeFault) → cond b None (Some f) ≡ None → b ≡ true
passed_last true f h = refl
passed_last false f h = cc

pub none_from : {A : Type 0} (o : Option A) → is_some o ≡ false → o ≡ None
none_from None h = refl
none_from (Some x) h = cc
