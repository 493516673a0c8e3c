-- Laws of names and places.
use Rattle.std.proofs.Common.{◌≡◌, ℕ, ◌<◌, ◌≤◌, ◌-◌, ◌+◌, List, [], ◌∷◌, ◌++◌, true, false, Some}
use Rattle.std.proofs.Common.{None, suc, length, take, drop, ap, sym, ◌∙◌, refl, arith, length-append, length-take, length-drop, take-append-drop}
use Rattle.std.proofs.Math.Seq.{take-append_seam, take-append-add}
use Rattle.std.specs.Prelude.{◌≢◌, slice_get}
use Rattle.std.specs.Str.{bytes_eq}
use Rattle.std.proofs.lemmas.Slice.Eq.{bytes_eq-Decides}
use Rattle.std.proofs.lemmas.Bool.{and_parts, false_from_ne_true}
use Rattle.std.specs.Cmp.Derive.{both_true}
use Rattle.file_tree.specs.Places.{same_place, begins, at_name, above}

same_bytes : (x : List ℕ) → bytes_eq x x ≡ true
same_bytes x = (bytes_eq-Decides x x).1 refl

-- two places are the same if the test says so, and only then
pub same_place_is : (p q : List (List ℕ)) → same_place p q ≡ true → p ≡ q
same_place_is [] [] h = refl
same_place_is [] (y ∷ q) h = cc
same_place_is (x ∷ p) [] h = cc
same_place_is (x ∷ p) (y ∷ q) h =
    let parts = and_parts (bytes_eq x y) (same_place p q) h in
    let heads : x ≡ y = (bytes_eq-Decides x y).0 parts.0 in
    let tails : p ≡ q = same_place_is p q parts.1 in cc

pub same_place_refl : (p : List (List ℕ)) → same_place p p ≡ true
same_place_refl [] = refl
same_place_refl (x ∷ p) = both_true (same_bytes x) (same_place_refl p)

pub same_place_from : (p q : List (List ℕ)) → p ≡ q → same_place p q ≡ true
same_place_from p q e = rw e (same_place_refl q)

pub other_place : (p q : List (List ℕ)) → p ≢ q → same_place p q ≡ false
other_place p q other = false_from_ne_true _ (λ h. other (same_place_is p q h))

-- a place that begins with another is that one and more
pub begins_is : (p q : List (List ℕ)) → begins p q ≡ true → q ≡ p ++ drop (length p) q
begins_is [] q h = refl
begins_is (x ∷ p) [] h = cc
begins_is (x ∷ p) (y ∷ q) h =
    let parts = and_parts (bytes_eq x y) (begins p q) h in
    let heads : x ≡ y = (bytes_eq-Decides x y).0 parts.0 in
    let tails : q ≡ p ++ drop (length p) q = begins_is p q parts.1 in cc

pub begins_append : (p r : List (List ℕ)) → begins p (p ++ r) ≡ true
begins_append [] r = refl
begins_append (x ∷ p) r = both_true (same_bytes x) (begins_append p r)

pub begins_from : (p q r : List (List ℕ)) → q ≡ p ++ r → begins p q ≡ true
begins_from p q r e = rw e (begins_append p r)

pub begins_refl : (p : List (List ℕ)) → begins p p ≡ true
begins_refl [] = refl
begins_refl (x ∷ p) = both_true (same_bytes x) (begins_refl p)

-- what begins with a place that begins with a third begins with that
pub begins_trans : (p q r : List (List ℕ)) → begins p q ≡ true → begins q r ≡ true → begins p r ≡ true
begins_trans [] q r pq qr = refl
begins_trans (x ∷ p) [] r pq qr = cc
begins_trans (x ∷ p) (y ∷ q) [] pq qr = cc
begins_trans (x ∷ p) (y ∷ q) (z ∷ r) pq qr =
    let left = and_parts (bytes_eq x y) (begins p q) pq in
    let right = and_parts (bytes_eq y z) (begins q r) qr in
    let heads : x ≡ z = (bytes_eq-Decides x y).0 left.0 ∙ (bytes_eq-Decides y z).0 right.0 in
    both_true ((bytes_eq-Decides x z).1 heads) (begins_trans p q r left.1 right.1)

-- the same front is taken off both sides
pub rest_same : (p r s : List (List ℕ)) → p ++ r ≡ p ++ s → r ≡ s
rest_same [] r s h = h
rest_same (x ∷ p) r s h = rest_same p r s cc

-- a place in a directory lies above nothing of it, and is not the directory's
pub at_name_length : (p : List (List ℕ)) (name : List ℕ) → length (at_name p name) ≡ length p + 1
at_name_length p name = length-append p (name ∷ [])

pub above_at_name : (p : List (List ℕ)) (name : List ℕ) → above (at_name p name) ≡ p
above_at_name p name =
    let short : length (at_name p name) - 1 ≡ length p = omega (arith, at_name_length p name) in
    rw short (take-append_seam p (name ∷ []))

pub above_length : (p : List (List ℕ)) → length (above p) ≡ length p - 1
above_length p = length-take (length p - 1) p ∙ omega arith

pub above_append : (p r : List (List ℕ)) → 0 < length r → above (p ++ r) ≡ p ++ above r
above_append p r some =
    let sum : length (p ++ r) - 1 ≡ length p + (length r - 1) = omega (arith, length-append p r) in
    rw sum (take-append-add p r (length r - 1))

pub begins_above : (p : List (List ℕ)) → begins (above p) p ≡ true
begins_above p = begins_from (above p) p (drop (length p - 1) p) (sym (take-append-drop (length p - 1) p))

-- places of different lengths are different
pub longer_place : (p q : List (List ℕ)) → length p < length q → same_place p q ≡ false
longer_place p q h = other_place p q (λ e. let same : length p ≡ length q = ap length e in absurd (omega arith))

-- a front is no longer than what begins with it
pub begins_length : (p q : List (List ℕ)) → begins p q ≡ true → length p ≤ length q
begins_length [] q h = omega arith
begins_length (x ∷ p) [] h = cc
begins_length (x ∷ p) (y ∷ q) h = let rest : length p ≤ length q = begins_length p q (and_parts (bytes_eq x y) (begins p q) h).1 in omega arith

-- what begins with a place and isn't longer than it is that place
pub begins_same : (p q : List (List ℕ)) → begins p q ≡ true → length q ≤ length p → p ≡ q
begins_same [] [] h short = refl
begins_same [] (y ∷ q) h short = absurd (omega arith)
begins_same (x ∷ p) [] h short = cc
begins_same (x ∷ p) (y ∷ q) h short =
    let parts = and_parts (bytes_eq x y) (begins p q) h in
    let heads : x ≡ y = (bytes_eq-Decides x y).0 parts.0 in
    let less : length q ≤ length p = omega arith in
    let tails : p ≡ q = begins_same p q parts.1 less in cc

-- what begins with a place and isn't that place is longer, and what is above it begins with the place too
pub begins_longer : (p q : List (List ℕ)) → begins p q ≡ true → same_place p q ≡ false → length p < length q
begins_longer [] [] h other = cc
begins_longer [] (y ∷ q) h other = omega arith
begins_longer (x ∷ p) [] h other = cc
begins_longer (x ∷ p) (y ∷ q) h other =
    let parts = and_parts (bytes_eq x y) (begins p q) h in
    let rest : same_place p q ≡ false = rw parts.0 at other in
    let less : length p < length q = begins_longer p q parts.1 rest in omega arith

pub begins_above_other : (p q : List (List ℕ)) → begins p q ≡ true → same_place p q ≡ false → begins p (above q) ≡ true
begins_above_other p q h other =
    let some : 0 < length (drop (length p) q) = omega (arith, length-drop (length p) q, begins_longer p q h other) in
    begins_from p (above q) (above (drop (length p) q)) (ap above (begins_is p q h) ∙ above_append p (drop (length p) q) some)

-- the root begins with itself alone
pub begins_root : (p : List (List ℕ)) → same_place p [] ≡ begins p []
begins_root [] = refl
begins_root (x ∷ p) = refl

-- a place is the one above and the last name, and the root has none
pub last_named : (p : List (List ℕ)) (name : List ℕ) → slice_get p (length p - 1) ≡ Some name → at_name (above p) name ≡ p
last_named [] name is = absurd cc
last_named (x ∷ []) name is = let same : name ≡ x = cc in ap (λ y. y ∷ []) same
last_named (x ∷ y ∷ p) name is =
    let count : length (x ∷ y ∷ p) - 1 ≡ suc (length (y ∷ p) - 1) = omega arith in
    let rest = last_named (y ∷ p) name (sym (ap (slice_get (x ∷ y ∷ p)) count) ∙ is) in
    ap (λ n. at_name (take n (x ∷ y ∷ p)) name) count ∙ ap (λ place. x ∷ place) rest

pub none_last : (p : List (List ℕ)) → slice_get p (length p - 1) ≡ None → p ≡ []
none_last [] is = refl
none_last (x ∷ []) is = absurd cc
none_last (x ∷ y ∷ p) is =
    let count : length (x ∷ y ∷ p) - 1 ≡ suc (length (y ∷ p) - 1) = omega arith in
    let rest : y ∷ p ≡ [] = none_last (y ∷ p) (sym (ap (slice_get (x ∷ y ∷ p)) count) ∙ is) in
    absurd cc
