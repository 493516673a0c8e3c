-- The last one of a list, asked and changed, and what is told of all of them.
use Rattle.std.proofs.Common.{◌≡◌, ◌<◌, ◌-◌, ◌++◌, ◌∷◌, [], Bool, true, false, ℕ, zero, suc, List, length, map, get_or, set}
use Rattle.std.proofs.Common.{refl, ap, sym, ◌∙◌, append_assoc, append-nil, arith}
use Rattle.std.specs.List.{flat_map}
use Rattle.std.proofs.lemmas.List.{get_or-map, length-map, map-set}
use Rattle.certificate.specs.Growth.{asked_of_last, has_none, with_last}

pub none : {A : Type 0} (xs : List A) → has_none xs ≡ true → xs ≡ []
none [] is = refl
none (x ∷ xs) is = absurd cc

-- before nothing it is the same place
pub behind_nothing : {A : Type 0} (xs more rest : List A) → rest ≡ [] → (xs ++ more) ++ rest ≡ (xs ++ rest) ++ more
behind_nothing xs more rest is =
    ap (λ list. (xs ++ more) ++ list) is ∙ append-nil (xs ++ more)
    ∙ ap (λ list. list ++ more) (sym (ap (λ list. xs ++ list) is ∙ append-nil xs))

pub asked-last : {A : Type 0} (none : Bool) (test : A → Bool) (rest : List A) (x : A) → asked_of_last none test (rest ++ x ∷ []) ≡ test x
unfolding asked_of_last
asked-last none test [] x = refl
asked-last none test (a ∷ []) x = refl
asked-last none test (a ∷ b ∷ rest) x = asked-last none test (b ∷ rest) x

pub asked-none : {A : Type 0} (none : Bool) (test : A → Bool) → asked_of_last none test [] ≡ none
unfolding asked_of_last
asked-none none test = refl

pub with_last-none : {A : Type 0} (f : A → A) → with_last f [] ≡ []
unfolding with_last
with_last-none f = refl

-- what is told of all stays where the last one's stays,
pub told_kept : {A B : Type 0} (f : A → A) (tell : A → List B) → ((x : A) → tell (f x) ≡ tell x) → (xs : List A)
    → flat_map tell (with_last f xs) ≡ flat_map tell xs
unfolding with_last
told_kept f tell same [] = refl
told_kept f tell same (x ∷ []) = ap (λ told. told ++ []) (same x)
told_kept f tell same (x ∷ y ∷ xs) = ap (λ rest. tell x ++ rest) (told_kept f tell same (y ∷ xs))

-- and grows where the last one's grows
pub told_more : {A B : Type 0} (f : A → A) (tell : A → List B) (more : List B) (test : A → Bool)
    → ((x : A) → test x ≡ true → tell (f x) ≡ tell x ++ more) → (xs : List A) → asked_of_last false test xs ≡ true
    → flat_map tell (with_last f xs) ≡ flat_map tell xs ++ more
unfolding asked_of_last with_last
told_more f tell more test grows [] there = absurd cc
told_more f tell more test grows (x ∷ []) there =
    append-nil (tell (f x)) ∙ grows x there ∙ ap (λ told. told ++ more) (sym (append-nil (tell x)))
told_more f tell more test grows (x ∷ y ∷ xs) there =
    ap (λ rest. tell x ++ rest) (told_more f tell more test grows (y ∷ xs) there) ∙ sym (append_assoc (tell x) (flat_map tell (y ∷ xs)) more)

pub with_last-set : {A : Type 0} (f : A → A) (n : ℕ) (xs : List A) (d : A) → length xs ≡ suc n → with_last f xs ≡ set xs n (f (get_or xs n d))
unfolding with_last
with_last-set f n [] d long = absurd cc
with_last-set f zero (x ∷ []) d long = refl
with_last-set f (suc n) (x ∷ []) d long = absurd cc
with_last-set f zero (x ∷ y ∷ xs) d long = absurd cc
with_last-set f (suc n) (x ∷ y ∷ xs) d long =
    let shorter : length (y ∷ xs) ≡ suc n = cc in ap (λ rest. x ∷ rest) (with_last-set f n (y ∷ xs) d shorter)

-- the last one of a list that is seen by a view, changed
pub last_seen_set : {A B : Type 0} (view : A → B) (f : B → B) (xs : List A) (d w : A) → 0 < length xs
    → view w ≡ f (view (get_or xs (length xs - 1) d)) → map view (set xs (length xs - 1) w) ≡ with_last f (map view xs)
last_seen_set view f xs d w some is =
    let n = length xs - 1 in
    let within : n < length xs = omega arith in
    let long : length (map view xs) ≡ suc n = length-map xs view ∙ omega arith in
    let seen : get_or (map view xs) n (view d) ≡ view (get_or xs n d) = get_or-map view xs n d (view d) within in
    map-set view xs n w ∙ ap (set (map view xs) n) (is ∙ ap f (sym seen)) ∙ sym (with_last-set f n (map view xs) (view d) long)
