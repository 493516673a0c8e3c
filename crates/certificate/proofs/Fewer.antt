-- Names that are all among others are no more different ones than those.
use Rattle.std.proofs.Common.{◌≡◌, ◌≤◌, ◌++◌, ◌∷◌, [], Bool, true, false, ℕ, List, length, refl, ap, sym, ◌∙◌, append_assoc}
use Rattle.std.specs.Prelude.{◌||◌, if◌then◌else◌}
use Rattle.std.specs.List.{list_all, list_any, IsDistinct}
use Rattle.std.specs.Set.{is_member}
use Rattle.std.specs.Str.{bytes_eq}
use Rattle.std.specs.Cmp.{IsEquivalence}
use Rattle.std.proofs.lemmas.Cmp.{nat_list_eq_equiv}
use Rattle.std.proofs.lemmas.List.Folds.{list_all-append, list_any-append}
use Rattle.std.proofs.lemmas.Map.Keys.{IsDistinct-push}
use Rattle.std.proofs.lemmas.Map.Made.{length-le_from_is_member}
use Rattle.rights.proofs.Words.{same_bytes}
use Rattle.certificate.specs.Growth.{distinct, distinct_behind}
use Rattle.certificate.proofs.Growing.{and_left, and_right, both_true}

laws : IsEquivalence bytes_eq
laws = nat_list_eq_equiv

abbrev pub is_among : List (List ℕ) → List ℕ → Bool
is_among names name = is_member bytes_eq names name

-- all of some names are among others
abbrev pub are_among : List (List ℕ) → List (List ℕ) → Bool
are_among names some = list_all (is_among names) some

turned : (names : List (List ℕ)) (name : List ℕ) → list_any (λ other. bytes_eq other name) names ≡ is_among names name
turned names name = λ k. list_any (λ other. laws.symm other name k) names

or_left : (a b : Bool) → a ≡ true → (a || b) ≡ true
or_left true b is = refl
or_left false b is = absurd cc

or_right : (a b : Bool) → b ≡ true → (a || b) ≡ true
or_right true b is = refl
or_right false b is = is

or_either : (a b : Bool) → (a || b) ≡ (a || (b || false))
or_either true b = refl
or_either false true = refl
or_either false false = refl

or_assoc : (a b c : Bool) → ((a || (b || false)) || c) ≡ (a || (b || c))
or_assoc true b c = refl
or_assoc false true c = refl
or_assoc false false c = refl

or_known : (a b c : Bool) → (b ≡ true → a ≡ true) → (a || c) ≡ (a || (b || c))
or_known true b c known = refl
or_known false true c known = let never : false ≡ true = known refl in absurd cc
or_known false false c known = refl

-- what is listed: names that differ, each of the beginning or of the rest
listed_differ : (listed names : List (List ℕ)) → IsDistinct bytes_eq listed → IsDistinct bytes_eq (distinct_behind bytes_eq listed names)
unfolding distinct_behind
listed_differ listed [] differ = differ
listed_differ listed (x ∷ names) differ = go (list_any (λ y. bytes_eq y x) listed) refl (λ more. listed_differ more names)
  where
    go : (b : Bool) → list_any (λ y. bytes_eq y x) listed ≡ b
        → ((more : List (List ℕ)) → IsDistinct bytes_eq more → IsDistinct bytes_eq (distinct_behind bytes_eq more names))
        → IsDistinct bytes_eq (distinct_behind bytes_eq (if b then listed else listed ++ x ∷ []) names)
    go true is rest = rest listed differ
    go false is rest = rest (listed ++ x ∷ []) (IsDistinct-push laws listed x differ (sym (turned listed x) ∙ is))

-- and they have the same names as the beginning and the rest
same_member : (x q : List ℕ) (names : List (List ℕ)) → bytes_eq q x ≡ true → is_among names x ≡ true → is_among names q ≡ true
same_member x q names is among = ap (is_among names) (same_bytes q x is) ∙ among

listed_among : (listed names : List (List ℕ)) (q : List ℕ) → is_among (distinct_behind bytes_eq listed names) q ≡ (is_among listed q || is_among names q)
unfolding distinct_behind
listed_among listed [] q = or_nothing (is_among listed q)
  where
    or_nothing : (a : Bool) → a ≡ (a || false)
    or_nothing true = refl
    or_nothing false = refl
listed_among listed (x ∷ names) q = go (list_any (λ y. bytes_eq y x) listed) refl (λ more. listed_among more names q)
  where
    go : (b : Bool) → list_any (λ y. bytes_eq y x) listed ≡ b
        → ((more : List (List ℕ)) → is_among (distinct_behind bytes_eq more names) q ≡ (is_among more q || is_among names q))
        → is_among (distinct_behind bytes_eq (if b then listed else listed ++ x ∷ []) names) q ≡ (is_among listed q || (bytes_eq q x || is_among names q))
    go true is rest =
        rest listed
        ∙ or_known (is_among listed q) (bytes_eq q x) (is_among names q) (λ same. same_member x q listed same (sym (turned listed x) ∙ is))
    go false is rest =
        rest (listed ++ x ∷ [])
        ∙ ap (λ b. b || is_among names q) (list_any-append (bytes_eq q) listed (x ∷ []))
        ∙ or_assoc (is_among listed q) (bytes_eq q x) (is_among names q)

-- a name among some, which are all among others
among_others : (names some : List (List ℕ)) (q : List ℕ) → are_among names some ≡ true → is_among some q ≡ true → is_among names q ≡ true
among_others names [] q all among = absurd cc
among_others names (x ∷ some) q all among = go (bytes_eq q x) refl among (among_others names some q (and_right (is_among names x) (are_among names some) all))
  where
    go : (b : Bool) → bytes_eq q x ≡ b → (b || is_among some q) ≡ true → (is_among some q ≡ true → is_among names q ≡ true) → is_among names q ≡ true
    go true is among rest = same_member x q names is (and_left (is_among names x) (are_among names some) all)
    go false is among rest = rest among

pub fewer : (names some : List (List ℕ)) → are_among names some ≡ true → length (distinct bytes_eq some) ≤ length (distinct bytes_eq names)
unfolding IsDistinct
fewer names some all =
    length-le_from_is_member laws (distinct bytes_eq some) (distinct bytes_eq names) (listed_differ [] some tt)
    (λ q among. listed_among [] names q ∙ among_others names some q all (sym (listed_among [] some q) ∙ among))

-- NAMES AMONG OTHERS
pub among_both : (names some more : List (List ℕ)) → are_among names some ≡ true → are_among names more ≡ true → are_among names (some ++ more) ≡ true
among_both names some more all others =
    list_all-append (is_among names) some more ∙ both_true (are_among names some) (are_among names more) all others

pub among_split : (names some more : List (List ℕ)) → are_among names (some ++ more) ≡ true → (are_among names some ≡ true) × (are_among names more ≡ true)
among_split names some more all =
    let both = sym (list_all-append (is_among names) some more) ∙ all in
    (and_left (are_among names some) (are_among names more) both, and_right (are_among names some) (are_among names more) both)

-- Each is among its own list.
among_end : (before names : List (List ℕ)) → are_among (before ++ names) names ≡ true
among_end before [] = refl
among_end before (x ∷ names) =
    both_true (is_among (before ++ x ∷ names) x) (are_among (before ++ x ∷ names) names)
    (list_any-append (bytes_eq x) before (x ∷ names)
    ∙ or_right (is_among before x) (is_among (x ∷ names) x) (or_left (bytes_eq x x) (is_among names x) (laws.refl x)))
    (ap (λ list. are_among list names) (sym (append_assoc before (x ∷ []) names)) ∙ among_end (before ++ x ∷ []) names)

pub among_own : (names : List (List ℕ)) → are_among names names ≡ true
among_own names = among_end [] names
