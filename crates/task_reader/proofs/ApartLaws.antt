-- Places are apart where, in their order, none begins with the one before it.
use Rattle.std.proofs.Common.{◌≡◌, ◌+◌, ◌<◌, ◌≤◌, ℕ, suc, List, [], ◌∷◌, Bool, true, false, length, map, Option, Some, None, option_map, refl, ap, sym, subst, ◌∙◌, arith, get_or, inl, inr}
use Rattle.std.specs.Prelude.{◌==◌, ◌&&◌, not, option_and_then, if◌then◌else◌}
use Rattle.std.specs.List.{list_all, sum_by}
use Rattle.std.specs.Result.{IsOk}
use Rattle.std.specs.List.Sorted.{IsPermutation, IsSortedBy}
use Rattle.std.specs.Ordering.{is_lt, is_eq, nat_cmp, ordering_then, ordering_reverse}
use Rattle.std.specs.declared.cmp.Ordering.{Ordering}
use Rattle.std.specs.declared.cmp.Ordering.TheVariants.{Less, Equal, Greater}
use Rattle.std.specs.Str.{bytes_eq}
use Rattle.std.proofs.lemmas.Cmp.{lists_total, nat_list_eq_equiv, nat_list_cmp_total}
use Rattle.std.proofs.lemmas.Map.Text.{is_eq-slice_cmp}
use Rattle.rights.proofs.Words.{same_bytes}
use Rattle.rights.proofs.Tests.{both_left, both_right}
use Rattle.file_tree.specs.Places.{begins}
use Rattle.task_reader.specs.ApartViews.{granted_places, none_begins_so}
use Rattle.std.specs.Cmp.{IsTotalOrder, IsStrictWeakOrder}
use Rattle.std.specs.Cmp.Lexicographic.{slice_cmp}
use Rattle.std.proofs.lemmas.Bool.{cases_Bool, eqb-true}
use Rattle.std.proofs.lemmas.List.Sums.{sum_by-cons}
use Rattle.std.proofs.lemmas.List.Folds.{sum_by-zero}
use Rattle.std.proofs.lemmas.List.Sorted.{sum_by-IsPermutation, length_permutation, sorted_far}
use Rattle.task.specs.Limits.{all_apart}
use Rattle.task.specs.Plans.{Grant}
use Rattle.task_reader.specs.Reading.{Wrong_grant, are_disjoint, are_separate, disjoint, grant_at, granted_place, grants_placed, or_mistake, policy_of}
use Rattle.task_reader.specs.Written.{WrittenGrant}
use Rattle.task_reader.proofs.WrittenLaws.{and_then-some, if-some, map-some}
use Rattle.file_tree.specs.Nodes.{Node}
use Rattle.std.proofs.lemmas.List.{get_or-map, length-map}

-- the sum of what is the same at each element is the same
sum-same : {A : Type 0} (f g : A → ℕ) (xs : List A) → ((x : A) → f x ≡ g x) → sum_by f xs ≡ sum_by g xs
sum-same f g [] same = refl
sum-same f g (x ∷ xs) same = sum_by-cons f x xs ∙ ap (λ n. n + sum_by f xs) (same x) ∙ ap (λ n. g x + n) (sum-same f g xs same) ∙ sym (sum_by-cons g x xs)

-- 1 for each two that are not apart
abbrev clash : {A : Type 0} → (A → A → Bool) → A → A → ℕ
clash apart x y = if apart x y then 0 else 1

abbrev against : {A : Type 0} → (A → A → Bool) → List A → A → ℕ
against apart xs x = sum_by (clash apart x) xs

abbrev pairs : {A : Type 0} → (A → A → Bool) → List A → ℕ
pairs apart [] = 0
pairs apart (x ∷ xs) = against apart xs x + pairs apart xs

against-more : {A : Type 0} (apart : A → A → Bool) (x : A) (ys zs : List A) → sum_by (against apart (x ∷ ys)) zs ≡ sum_by (λ z. clash apart z x) zs + sum_by (against apart ys) zs
against-more apart x ys [] = refl
against-more apart x ys (z ∷ zs) =
    let first = sum_by-cons (clash apart z) x ys in
    let rest = against-more apart x ys zs in
    let left = sum_by-cons (against apart (x ∷ ys)) z zs in
    let right = sum_by-cons (λ z. clash apart z x) z zs in
    let last = sum_by-cons (against apart ys) z zs in
    omega arith

-- each clashes with itself, and with another as the other with it: so all clashes are the elements, and each pair twice
all-clashes : {A : Type 0} (apart : A → A → Bool) → ((x : A) → apart x x ≡ false) → ((x y : A) → apart x y ≡ apart y x) → (xs : List A)
    → sum_by (against apart xs) xs ≡ length xs + (pairs apart xs + pairs apart xs)
all-clashes apart self turned [] = refl
all-clashes apart self turned (x ∷ xs) =
    let first = sum_by-cons (against apart (x ∷ xs)) x xs in
    let own = sum_by-cons (clash apart x) x xs in
    let one : clash apart x x ≡ 1 = ap (λ b. if b then 0 else 1) (self x) in
    let more = against-more apart x xs xs in
    let same : sum_by (λ z. clash apart z x) xs ≡ against apart xs x = sum-same (λ z. clash apart z x) (clash apart x) xs (λ z. ap (λ b. if b then 0 else 1) (turned z x)) in
    let rest = all-clashes apart self turned xs in
    omega arith

-- no pair clashes exactly if all are apart
no-clash : {A : Type 0} (apart : A → A → Bool) (xs : List A) → (pairs apart xs == 0) ≡ all_apart apart xs
no-clash apart [] = refl
no-clash {A = A} apart (x ∷ xs) =
    neither (against apart xs x) (pairs apart xs)
    ∙ ap (λ b. b && (pairs apart xs == 0)) (sum_by-zero (clash apart x) xs ∙ each xs)
    ∙ ap (λ b. list_all (apart x) xs && b) (no-clash apart xs)
  where
    is-apart : (b : Bool) → ((if b then 0 else 1) == 0) ≡ b
    is-apart true = refl
    is-apart false = refl

    each : (ys : List A) → list_all (λ y. clash apart x y == 0) ys ≡ list_all (apart x) ys
    each [] = refl
    each (y ∷ ys) = ap (λ b. b && list_all (λ y. clash apart x y == 0) ys) (is-apart (apart x y)) ∙ ap (λ b. apart x y && b) (each ys)

    neither : (m n : ℕ) → (m + n == 0) ≡ ((m == 0) && (n == 0))
    neither m n =
        elim (cases_Bool (m == 0)) [
          | inl none ↦ let zero : m ≡ 0 = eqb-true m 0 none in ap (λ k. k + n == 0) zero ∙ ap (λ k. k == 0) (let same : 0 + n ≡ n = omega arith in same) ∙ ap (λ b. b && (n == 0)) (sym none)
          | inr some ↦ elim (cases_Bool (m + n == 0)) [
            | inl all ↦ let sum : m + n ≡ 0 = eqb-true (m + n) 0 all in let zero : m ≡ 0 = omega arith in let is : (m == 0) ≡ true = ap (λ k. k == 0) zero in cc
            | inr not_all ↦ not_all ∙ ap (λ b. b && (n == 0)) (sym some)
          ]
        ]

-- the order of the elements doesn't matter
pub permuted-apart : {A : Type 0} (apart : A → A → Bool) → ((x : A) → apart x x ≡ false) → ((x y : A) → apart x y ≡ apart y x) → (xs ys : List A)
    → IsPermutation xs ys → all_apart apart xs ≡ all_apart apart ys
permuted-apart apart self turned xs ys permuted =
    let before = all-clashes apart self turned xs in
    let after = all-clashes apart self turned ys in
    let moved : sum_by (against apart ys) ys ≡ sum_by (against apart xs) xs =
    sum-same (against apart ys) (against apart xs) ys (λ z. sum_by-IsPermutation (clash apart z) xs ys permuted) ∙ sum_by-IsPermutation (against apart xs) xs ys permuted in
    let long : length ys ≡ length xs = length_permutation xs ys permuted in
    let same : pairs apart xs ≡ pairs apart ys = omega arith in
    sym (no-clash apart xs) ∙ ap (λ n. n == 0) same ∙ no-clash apart ys

-- Two places are apart where neither begins with the other.
pub never-apart-from-itself : (p : List (List ℕ)) → are_separate p p ≡ false
never-apart-from-itself p = ap (λ b. not b && not b) (begins-itself p)
  where
    begins-itself : (p : List (List ℕ)) → begins p p ≡ true
    begins-itself [] = refl
    begins-itself (x ∷ p) = ap (λ b. b && begins p p) (nat_list_eq_equiv.refl x) ∙ begins-itself p

pub apart-either-way : (p q : List (List ℕ)) → are_separate p q ≡ are_separate q p
apart-either-way p q = turned (begins p q) (begins q p)
  where
    turned : (a b : Bool) → (not a && not b) ≡ (not b && not a)
    turned true true = refl
    turned true false = refl
    turned false true = refl
    turned false false = refl

-- The order of places: name by name, and each by its bytes.
abbrev pub name_cmp : List ℕ → List ℕ → Ordering
name_cmp = slice_cmp nat_cmp

abbrev pub place_cmp : List (List ℕ) → List (List ℕ) → Ordering
place_cmp = slice_cmp name_cmp

-- What stands between a place and one that begins with it begins with it too.
between-names : (x z : List ℕ) (o : Ordering) (p q r : List (List ℕ)) → name_cmp z x ≡ o
    → (bytes_eq x z ≡ true → is_lt (place_cmp r p) ≡ false → is_lt (place_cmp q r) ≡ false → begins p r ≡ true)
    → is_lt (ordering_then o (place_cmp r p)) ≡ false → is_lt (ordering_then (ordering_reverse o) (place_cmp q r)) ≡ false
    → (bytes_eq x z && begins p r) ≡ true
between-names x z Less p q r is rest low high = absurd cc
between-names x z Equal p q r is rest low high =
    let same : bytes_eq x z ≡ true = nat_list_eq_equiv.symm x z ∙ sym (is_eq-slice_cmp z x) ∙ ap is_eq is in
    ap (λ b. b && begins p r) same ∙ rest same low high
between-names x z Greater p q r is rest low high = absurd cc

pub between : (p q r : List (List ℕ)) → begins p q ≡ true → is_lt (place_cmp r p) ≡ false → is_lt (place_cmp q r) ≡ false → begins p r ≡ true
between [] q r front low high = refl
between (x ∷ p) [] r front low high = absurd cc
between (x ∷ p) (y ∷ q) [] front low high = absurd cc
between (x ∷ p) (y ∷ q) (z ∷ r) front low high =
    let same : x ≡ y = same_bytes x y (both_left (bytes_eq x y) (begins p q) front) in
    let rest : begins p q ≡ true = both_right (bytes_eq x y) (begins p q) front in
    let turned : name_cmp y z ≡ ordering_reverse (name_cmp z x) = ap (λ n. name_cmp n z) (sym same) ∙ nat_list_cmp_total.antisymm x z in
    between-names x z (name_cmp z x) p q r refl (λ alike low high. between p q r rest low high) low
    (ap (λ o. is_lt (ordering_then o (place_cmp q r))) (sym turned) ∙ high)

-- what is not less than another, which is not less than a third, is not less than that
never-less : {K : Type 0} (R : K → K → Ordering) → IsTotalOrder R → (x y z : K) (first second : Ordering) → R x y ≡ first → R y z ≡ second
    → is_lt first ≡ false → is_lt second ≡ false → is_lt (R x z) ≡ false
never-less R o x y z Less second xy yz low high = absurd cc
never-less R o x y z Equal second xy yz low high = ap is_lt (o.congr x y z xy ∙ yz) ∙ high
never-less R o x y z Greater Less xy yz low high = absurd cc
never-less R o x y z Greater Equal xy yz low high =
    let zy : R z y ≡ Equal = o.antisymm z y ∙ ap ordering_reverse yz in
    let yx : R y x ≡ Less = o.antisymm y x ∙ ap ordering_reverse xy in
    ap is_lt (o.antisymm x z ∙ ap ordering_reverse (o.congr z y x zy ∙ yx))
never-less R o x y z Greater Greater xy yz low high =
    let zy : R z y ≡ Less = o.antisymm z y ∙ ap ordering_reverse yz in
    let yx : R y x ≡ Less = o.antisymm y x ∙ ap ordering_reverse xy in
    ap is_lt (o.antisymm x z ∙ ap ordering_reverse (o.trans z y x zy yx))

place-order : IsStrictWeakOrder (λ p q. is_lt (place_cmp p q))
place-order = record {
  one_way = λ p q less. reversed (place_cmp q p) (sym (ap is_lt (total.antisymm p q)) ∙ less);
  chain = λ p q r low high. never-less place_cmp total p q r (place_cmp p q) (place_cmp q r) refl refl low high;
}
  where
    total : IsTotalOrder place_cmp
    total = lists_total nat_list_cmp_total

    reversed : (o : Ordering) → is_lt (ordering_reverse o) ≡ true → is_lt o ≡ false
    reversed Less is = absurd cc
    reversed Equal is = refl
    reversed Greater is = refl

-- what isn't behind a place that it begins is that place
front-first : (r p : List (List ℕ)) → begins r p ≡ true → is_lt (place_cmp r p) ≡ false → begins p r ≡ true
front-first [] [] front high = refl
front-first [] (y ∷ p) front high = absurd cc
front-first (x ∷ r) [] front high = absurd cc
front-first (x ∷ r) (y ∷ p) front high =
    let same : bytes_eq x y ≡ true = both_left (bytes_eq x y) (begins r p) front in
    let level : name_cmp x y ≡ Equal = equal-from (name_cmp x y) (is_eq-slice_cmp x y ∙ same) in
    ap (λ b. b && begins p r) (nat_list_eq_equiv.symm y x ∙ same)
    ∙ front-first r p (both_right (bytes_eq x y) (begins r p) front) (sym (ap (λ o. is_lt (ordering_then o (place_cmp r p))) level) ∙ high)
  where
    equal-from : (o : Ordering) → is_eq o ≡ true → o ≡ Equal
    equal-from Less is = absurd cc
    equal-from Equal is = refl
    equal-from Greater is = absurd cc

-- places behind two in order are apart from the first where the second is
apart-behind : (p q r : List (List ℕ)) → begins p q ≡ false → is_lt (place_cmp q p) ≡ false → is_lt (place_cmp r q) ≡ false → is_lt (place_cmp r p) ≡ false
    → are_separate p r ≡ true
apart-behind p q r other first second third =
    elim (cases_Bool (begins p r)) [
      | inl front ↦ let wrong : begins p q ≡ true = between p r q front first second in cc
      | inr not_front ↦ elim (cases_Bool (begins r p)) [
        | inl back ↦ let wrong : begins p r ≡ true = front-first r p back third in cc
        | inr not_back ↦ rw (not_front, not_back) refl
      ]
    ]

all-by-index : {A : Type 0} (test : A → Bool) (xs : List A) → ((k : ℕ) (d : A) → k < length xs → test (get_or xs k d) ≡ true) → list_all test xs ≡ true
all-by-index test [] each = refl
all-by-index test (x ∷ xs) each = ap (λ b. b && list_all test xs) (each 0 x (omega arith)) ∙ all-by-index test xs (λ k d within. each (suc k) d (omega arith))

sorted-rest : (p : List (List ℕ)) (places : List (List (List ℕ))) → IsSortedBy (λ p q. is_lt (place_cmp p q)) (p ∷ places) → IsSortedBy (λ p q. is_lt (place_cmp p q)) places
sorted-rest p places sorted k d low high =
    let next : suc k + 1 ≡ suc (k + 1) = omega arith in
    ap (λ n. is_lt (place_cmp (get_or (p ∷ places) n d) (get_or places k d))) (sym next) ∙ sorted (suc k) d (omega arith) (omega arith)

-- In the order of places none begins with the one before it exactly if none begins with another.
pub sorted-apart : (places : List (List (List ℕ))) → IsSortedBy (λ p q. is_lt (place_cmp p q)) places → all_apart are_separate places ≡ none_begins_so places
sorted-apart [] sorted = refl
sorted-apart (p ∷ []) sorted = refl
sorted-apart (p ∷ q ∷ places) sorted =
    ap (λ b. b && all_apart are_separate (q ∷ places)) (first (begins p q) refl) ∙ ap (λ b. not (begins p q) && b) (sorted-apart (q ∷ places) (sorted-rest p (q ∷ places) sorted))
  where
    far : (k : ℕ) (d : List (List ℕ)) → begins p q ≡ false → k < length (q ∷ places) → are_separate p (get_or (q ∷ places) k d) ≡ true
    far k d other within =
        apart-behind p q (get_or (q ∷ places) k d) other
        (sorted_far (λ p q. is_lt (place_cmp p q)) place-order (p ∷ q ∷ places) sorted 0 1 d (omega arith) (omega arith))
        (sorted_far (λ p q. is_lt (place_cmp p q)) place-order (p ∷ q ∷ places) sorted 1 (suc k) d (omega arith) (omega arith))
        (sorted_far (λ p q. is_lt (place_cmp p q)) place-order (p ∷ q ∷ places) sorted 0 (suc k) d (omega arith) (omega arith))

    first : (b : Bool) → begins p q ≡ b → list_all (are_separate p) (q ∷ places) ≡ not (begins p q)
    first true is = ap (λ b. not b && not (begins q p) && list_all (are_separate p) places) is ∙ ap not (sym is)
    first false is = all-by-index (are_separate p) (q ∷ places) (λ k d within. far k d is within) ∙ ap not (sym is)

all_apart-map : {X Y : Type 0} (f : X → Y) (apart : Y → Y → Bool) (xs : List X) → all_apart apart (map f xs) ≡ all_apart (λ x y. apart (f x) (f y)) xs
all_apart-map {X = X} f apart [] = refl
all_apart-map {X = X} f apart (x ∷ xs) = ap (λ b. b && all_apart apart (map f xs)) (each xs) ∙ ap (λ b. list_all (λ y. apart (f x) (f y)) xs && b) (all_apart-map f apart xs)
  where
    each : (ys : List X) → list_all (apart (f x)) (map f ys) ≡ list_all (λ y. apart (f x) (f y)) ys
    each [] = refl
    each (y ∷ ys) = ap (λ b. apart (f x) (f y) && b) (each ys)

-- what has places is ordered by them
pub places-order : {X : Type 0} (place : X → List (List ℕ)) → IsStrictWeakOrder (λ x y. is_lt (place_cmp (place x) (place y)))
places-order place = record {
  one_way = λ x y. place-order.one_way (place x) (place y);
  chain = λ x y z. place-order.chain (place x) (place y) (place z);
}

sorted-by : {X : Type 0} (place : X → List (List ℕ)) (xs : List X) → IsSortedBy (λ x y. is_lt (place_cmp (place x) (place y))) xs
    → IsSortedBy (λ p q. is_lt (place_cmp p q)) (map place xs)
sorted-by place [] sorted k d low high = absurd (omega arith)
sorted-by place (x ∷ xs) sorted k d low high =
    let long : length (map place (x ∷ xs)) ≡ length (x ∷ xs) = length-map (x ∷ xs) place in
    let above : k + 1 < length (x ∷ xs) = omega arith in
    let first = get_or-map place (x ∷ xs) k x d (omega arith) in
    let second = get_or-map place (x ∷ xs) (k + 1) x d above in
    ap (λ p. is_lt (place_cmp (get_or (map place (x ∷ xs)) (k + 1) d) p)) first ∙ ap (λ p. is_lt (place_cmp p (place (get_or (x ∷ xs) k x)))) second
    ∙ sorted k x low above

-- What has places is apart exactly if, once it is sorted by them, none begins with the one before it.
pub sorted-places : {X : Type 0} (place : X → List (List ℕ)) (before after : List X) → IsPermutation before after
    → IsSortedBy (λ x y. is_lt (place_cmp (place x) (place y))) after → all_apart are_separate (map place before) ≡ none_begins_so (map place after)
sorted-places place before after permuted sorted =
    all_apart-map place are_separate before
    ∙ permuted-apart (λ x y. are_separate (place x) (place y)) (λ x. never-apart-from-itself (place x)) (λ x y. apart-either-way (place x) (place y)) before after permuted
    ∙ sym (all_apart-map place are_separate after)
    ∙ sorted-apart (map place after) (sorted-by place after sorted)

pub apart-grants : (grants : List Grant) → all_apart are_disjoint grants ≡ all_apart are_separate (map (λ g. g.path) grants)
apart-grants grants = sym (all_apart-map (λ g. g.path) are_separate grants)

pub at-most-one : (places : List (List (List ℕ))) → length places ≤ 1 → none_begins_so places ≡ true
at-most-one [] few = refl
at-most-one (p ∷ []) few = refl
at-most-one (p ∷ q ∷ places) few = absurd (omega arith)

-- the places of grants are those of the grants that are made
pub places-of : (tree : List Node) (grants : List WrittenGrant) → granted_places tree grants ≡ option_map (map (λ (g : Grant). g.path)) (grants_placed tree grants)
places-of tree [] = refl
places-of tree (g ∷ grants) = more (granted_place tree g.path) (grants_placed tree grants) (places-of tree grants)
  where
    more : (place : Option (List (List ℕ))) (rest : Option (List Grant)) → granted_places tree grants ≡ option_map (map (λ (g : Grant). g.path)) rest
        → option_and_then (λ p. option_map (λ rest. p ∷ rest) (granted_places tree grants)) place
        ≡ option_map (map (λ (g : Grant). g.path)) (option_and_then (λ x. option_map (λ rest. x ∷ rest) rest) (option_map (grant_at g) place))
    more None rest is = refl
    more (Some p) None is = ap (option_map (λ rest. p ∷ rest)) is
    more (Some p) (Some rest) is = ap (option_map (λ rest. p ∷ rest)) is

-- Grants without places are no policy, and with places they are one exactly if these are apart.
pub no-policy : (tree : List Node) (grants : List WrittenGrant) → granted_places tree grants ≡ None → policy_of tree grants ≡ None
no-policy tree grants is = none (grants_placed tree grants) refl
  where
    none : (placed : Option (List Grant)) → grants_placed tree grants ≡ placed → policy_of tree grants ≡ None
    none None placed = ap (option_and_then disjoint) placed
    none (Some gs) placed =
        let wrong : Some (map (λ (g : Grant). g.path) gs) ≡ None = sym (places-of tree grants ∙ ap (option_map (map (λ (g : Grant). g.path))) placed) ∙ is in
        absurd cc

pub record IsPolicy (tree : List Node) (grants : List WrittenGrant) (apart : Bool) : Type 0 where
  pub made : List Grant
  pub placed : grants_placed tree grants ≡ Some made
  pub policy : policy_of tree grants ≡ (if apart then Some made else None)

pub policy-if : (tree : List Node) (grants : List WrittenGrant) (places : List (List (List ℕ))) (apart : Bool) → granted_places tree grants ≡ Some places
    → apart ≡ all_apart are_separate places → IsPolicy tree grants apart
policy-if tree grants places apart is same =
    let p = map-some (map (λ (g : Grant). g.path)) (grants_placed tree grants) places (sym (places-of tree grants) ∙ is) in
    let clear : all_apart are_disjoint p.0 ≡ apart = apart-grants p.0 ∙ ap (all_apart are_separate) p.2 ∙ sym same in
    record { made = p.0; placed = p.1; policy = ap (option_and_then disjoint) p.1 ∙ ap (λ b. if b then Some p.0 else None) clear }

-- a policy that passed its check is of the grants that can be placed
pub checked-policy : (tree : List Node) (grants : List WrittenGrant) → IsOk (or_mistake Wrong_grant (policy_of tree grants))
    → (made : List Grant) × (policy_of tree grants ≡ Some made) × (grants_placed tree grants ≡ Some made)
checked-policy tree grants ok = from (policy_of tree grants) refl
  where
    from : (policy : Option (List Grant)) → policy_of tree grants ≡ policy
        → (made : List Grant) × (policy_of tree grants ≡ Some made) × (grants_placed tree grants ≡ Some made)
    from None is = let wrong : IsOk {T = List Grant} (or_mistake Wrong_grant None) = subst (λ p. IsOk (or_mistake Wrong_grant p)) is ok in absurd cc
    from (Some made) is =
        let p = and_then-some disjoint (grants_placed tree grants) made is in
        let q = if-some (all_apart are_disjoint p.0) (Some p.0) made p.2 in
        (made, is, p.1 ∙ q.1)
