-- Whether an end is open doesn't depend on numbers, nor on the bound on the pairs with messages.
use Rattle.std.proofs.Common.{◌≡◌, ℕ, zero, suc, ◌<◌, ◌≤◌, Bool, true, false, List, [], ◌∷◌, ◌⊎◌, inl, inr, refl, arith, ap, sym, ◌∙◌}
use Rattle.std.specs.Prelude.{◌==◌, ◌&&◌, ◌||◌, Option, Some, None}
use Rattle.std.specs.List.{list_any}
use Rattle.std.proofs.lemmas.Bool.{eqb-true, eq-eqb}
use Rattle.rights.proofs.Tests.{either_one}
use Rattle.fd_table.specs.Descriptions.{Object, At_node, At_end, Descriptor, Message, IfHeld}
use Rattle.fd_table.specs.OpenFiles.{OpenFiles, is_end, names_end, any_below, is_open}
use Rattle.kernel.specs.Renamings.{Renaming, SameObject, EachNamed, SameFiles, renamed_object, renamed_entry, renamed_messages}
use Rattle.kernel.proofs.Fresh.{lt_or_le}

-- two tests of which each passes where the other does
same_tests : (a b : Bool) → (a ≡ true → b ≡ true) → (b ≡ true → a ≡ true) → a ≡ b
same_tests true true to from = refl
same_tests true false to from = absurd (let h : false ≡ true = to refl in cc)
same_tests false true to from = absurd (let h : false ≡ true = from refl in cc)
same_tests false false to from = refl

same_eqb : (f g : ℕ → ℕ) → ((n : ℕ) → g (f n) ≡ n) → (m n : ℕ) → (m == n) ≡ (f m == f n)
same_eqb f g back m n =
    same_tests (m == n) (f m == f n)
    (λ is. eq-eqb (f m) (f n) (ap f (eqb-true m n is)))
    (λ is. eq-eqb m n (sym (back m) ∙ ap g (eqb-true (f m) (f n) is) ∙ back n))

same_end : (f : Renaming) (pair side : ℕ) (o : Object) → is_end pair side o ≡ is_end (f.pair pair) side (renamed_object f o)
same_end f pair side (At_node n access) = refl
same_end f pair side (At_end p s class) = ap (λ b. b && (s == side)) (same_eqb f.pair f.pair_back f.pair_here p pair)

same_names : (f : Renaming) (w v : OpenFiles) (pair side : ℕ) (o : Option Descriptor) → IfHeld (λ d. SameObject f w v d.description) o →
    names_end w.objects pair side o ≡ names_end v.objects (f.pair pair) side (renamed_entry f o)
same_names f w v pair side None same = refl
same_names f w v pair side (Some d) same =
    same_end f pair side (w.objects d.description) ∙ ap (is_end (f.pair pair) side) (sym same.object)

same_messages : (f : Renaming) (w v : OpenFiles) (pair side : ℕ) (messages : List Message) → EachNamed (SameObject f w v) messages →
    list_any (λ (m : Message). names_end w.objects pair side m.passed) messages ≡ list_any
    (λ (m : Message). names_end v.objects (f.pair pair) side m.passed) (renamed_messages f messages)
same_messages f w v pair side [] same = refl
same_messages f w v pair side (m ∷ messages) same =
    λ i. same_names f w v pair side m.passed same.0 i || same_messages f w v pair side messages same.1 i

-- some number below n
below_same : (n : ℕ) (test other : ℕ → Bool) → ((k : ℕ) → test k ≡ other k) → any_below n test ≡ any_below n other
unfolding any_below
below_same zero test other same = refl
below_same (suc n) test other same = λ i. same n i || below_same n test other same i

below_next : (n : ℕ) → n < suc n
below_next n = omega arith

found_below : (n : ℕ) (test : ℕ → Bool) → any_below n test ≡ true → (k : ℕ) × (k < n) × (test k ≡ true)
unfolding any_below
found_below zero test some = absurd cc
found_below (suc n) test some =
    elim (either_one (test n) (any_below n test) some) [
      | inl here ↦ (n, below_next n, here)
      | inr there ↦ (let rest = found_below n test there in (rest.0, omega (arith, rest.1), rest.2))
    ]

one_or_below : (k n : ℕ) → k < suc n → (k ≡ n) ⊎ (k < n)
one_or_below zero zero below = inl refl
one_or_below zero (suc n) below = inr (omega arith)
one_or_below (suc k) zero below = absurd (omega arith)
one_or_below (suc k) (suc n) below =
    elim (one_or_below k n (omega arith)) [ inl same ↦ inl (ap suc same) | inr less ↦ inr (omega arith) ]

or_left : (a b : Bool) → a ≡ true → (a || b) ≡ true
or_left true b is = refl
or_left false b is = absurd cc

or_right : (a b : Bool) → b ≡ true → (a || b) ≡ true
or_right true b is = refl
or_right false b is = is

one_below : (n : ℕ) (test : ℕ → Bool) (k : ℕ) → k < n → test k ≡ true → any_below n test ≡ true
unfolding any_below
one_below zero test k below is = absurd (omega arith)
one_below (suc n) test k below is =
    elim (one_or_below k n below) [
      | inl same ↦ or_left (test n) (any_below n test) (ap test (sym same) ∙ is)
      | inr less ↦ or_right (test n) (any_below n test) (one_below n test k less is)
    ]

-- The scans of the queues find the same, although they go over other numbers: beyond the bounds there is nothing to
-- find.
messages_in : OpenFiles → ℕ → ℕ → ℕ → Bool
messages_in w pair side q = any_below 2 (λ s. list_any (λ (m : Message). names_end w.objects pair side m.passed) (w.queue q s))

module _ (f : Renaming) (w v : OpenFiles) (same : SameFiles f w v) where
  same_scan : (pair side q : ℕ) → messages_in w pair side q ≡ messages_in v (f.pair pair) side (f.pair q)
  unfolding messages_in
  same_scan pair side q =
      below_same 2 _ _ (λ s.
      same_messages f w v pair side (w.queue q s) (same.messages q s)
      ∙ ap (list_any (λ (m : Message). names_end v.objects (f.pair pair) side m.passed)) (sym (same.queue q s)))

  same_entries : (pair side : ℕ) → any_below 16 (λ p. any_below 16 (λ n. names_end w.objects pair side (w.table p n))) ≡ any_below 16
      (λ p. any_below 16 (λ n. names_end v.objects (f.pair pair) side (v.table p n)))
  same_entries pair side =
      below_same 16 _ _ (λ p. below_same 16 _ _ (λ n.
      same_names f w v pair side (w.table p n) (same.entries p n) ∙ ap (names_end v.objects (f.pair pair) side) (sym (same.table p n))))

idle_scan : (w : OpenFiles) (pair side q : ℕ) → ((s : ℕ) → w.queue q s ≡ []) → messages_in w pair side q ≡ false
unfolding messages_in any_below
idle_scan w pair side q none =
    below_same 2 _ (λ s. false) (λ s. ap (list_any (λ (m : Message). names_end w.objects pair side m.passed)) (none s))

in_use : (w : OpenFiles) (pair side q : ℕ) → ((p s : ℕ) → w.pairs ≤ p → w.queue p s ≡ []) → messages_in w pair side q ≡ true → q < w.pairs
in_use w pair side q idle some =
    elim (lt_or_le q w.pairs) [
      | inl below ↦ below
      | inr far ↦ (let none : messages_in w pair side q ≡ false = idle_scan w pair side q (λ s. idle q s far) in absurd (clash (sym some ∙ none)))
    ]
  where
    clash : true ≡ false → ⊥
    clash h = cc

pub same_open : (f : Renaming) (w v : OpenFiles) → SameFiles f w v → ((p s : ℕ) → w.pairs ≤ p → w.queue p s ≡ []) →
    ((p s : ℕ) → v.pairs ≤ p → v.queue p s ≡ []) → (pair side : ℕ) → is_open w pair side ≡ is_open v (f.pair pair) side
unfolding messages_in any_below
same_open f w v same idle others_idle pair side =
    λ i. same_entries f w v same pair side i || same_queues i
  where
    there : any_below w.pairs (messages_in w pair side) ≡ true → any_below v.pairs (messages_in v (f.pair pair) side) ≡ true
    there some =
        let found = found_below w.pairs (messages_in w pair side) some in
        let is : messages_in v (f.pair pair) side (f.pair found.0) ≡ true = sym (same_scan f w v same pair side found.0) ∙ found.2 in
        one_below v.pairs (messages_in v (f.pair pair) side) (f.pair found.0) (in_use v (f.pair pair) side (f.pair found.0) others_idle is) is

    back : any_below v.pairs (messages_in v (f.pair pair) side) ≡ true → any_below w.pairs (messages_in w pair side) ≡ true
    back some =
        let found = found_below v.pairs (messages_in v (f.pair pair) side) some in
        let q : ℕ = f.pair_back found.0 in
        let is : messages_in w pair side q ≡ true =
        same_scan f w v same pair side q ∙ ap (messages_in v (f.pair pair) side) (f.pair_there found.0) ∙ found.2
        in
        one_below w.pairs (messages_in w pair side) q (in_use w pair side q idle is) is

    same_queues : any_below w.pairs (messages_in w pair side) ≡ any_below v.pairs (messages_in v (f.pair pair) side)
    same_queues = same_tests _ _ there back
