-- The numbers that are named, counted one after another.
use Rattle.std.proofs.Common.{◌≡◌, ◌≢◌, ℕ, zero, suc, ◌<◌, ◌≤◌, Bool, true, false, ◌&&◌, ◌||◌, List, [], ◌∷◌, length, refl, ap, ◌∙◌, sym, arith, add-one, ◌⊎◌, inl, inr}
use Rattle.std.specs.Prelude.{Option, None, is_some, take, cond, not, nat_eq}
use Rattle.std.proofs.lemmas.Bool.Decides.{eqb_tells}
use Rattle.fd_table.specs.Counts.{Counts, is_number_among, are_numbers_apart}
use Rattle.std.specs.List.{count_by}
use Rattle.std.specs.Option.{option_map}
use Rattle.std.proofs.lemmas.List.Sums.{sum_by-cons}
use Rattle.std.proofs.Common.{map, Some}
use Rattle.std.proofs.Math.Seq.{take-length}
use Rattle.std.proofs.lemmas.List.Sums.{count_by_more_no, count_by_more_yes}
use Rattle.std.proofs.lemmas.List.{get_or_past}
use Rattle.fd_table.specs.Kept.{Kept, item_at, open_files}
use Rattle.fd_table.specs.Holders.{IsKept, empty_hand}
use Rattle.fd_table.proofs.Scans.{or_false}
use Rattle.fd_table.proofs.Naming.{named_is}

lt_or_le : (m n : ℕ) → (m < n) ⊎ (n ≤ m)
lt_or_le m zero = inr (omega arith)
lt_or_le zero (suc n) = inl (omega arith)
lt_or_le (suc m) (suc n) = elim (lt_or_le m n) [ inl below ↦ inl (omega arith) | inr far ↦ inr (omega arith) ]

-- the numbers below n that pass the test
unfoldable pub chosen : (ℕ → Bool) → ℕ → List ℕ
chosen test zero = []
chosen test (suc n) = cond (test n) (n ∷ chosen test n) (chosen test n)

itself : (n m : ℕ) → n ≡ m → nat_eq n m ≡ true
itself n m same = elim (eqb_tells n m) [ inl is ↦ is.0 | inr apart ↦ absurd (apart.1 same) ]

others : (n m : ℕ) → n ≢ m → nat_eq n m ≡ false
others n m other = elim (eqb_tells n m) [ inl is ↦ absurd (other is.1) | inr apart ↦ apart.0 ]

-- numbers from n on are not among those below it
among_none : (test : ℕ → Bool) (n m : ℕ) → n ≤ m → is_number_among m (chosen test n) ≡ false
unfolding chosen
among_none test zero m far = refl
among_none test (suc n) m far = go (test n) (among_none test n m (omega arith))
  where
    go : (b : Bool) → is_number_among m (chosen test n) ≡ false → is_number_among m (cond b (n ∷ chosen test n) (chosen test n)) ≡ false
    go true none = or_false (nat_eq n m) (is_number_among m (chosen test n)) (others n m (λ same. omega (arith, same))) none
    go false none = none

among_is : (test : ℕ → Bool) (n m : ℕ) → m < n → is_number_among m (chosen test n) ≡ test m
unfolding chosen
among_is test zero m less = absurd (omega arith)
among_is test (suc n) m less = go (lt_or_le m n) (test n) refl (λ below. among_is test n m below) (λ far. among_none test n m far)
  where
    go : (m < n) ⊎ (n ≤ m) → (b : Bool) → test n ≡ b → (m < n → is_number_among m (chosen test n) ≡ test m) →
        (n ≤ m → is_number_among m (chosen test n) ≡ false) → is_number_among m (cond b (n ∷ chosen test n) (chosen test n)) ≡ test m
    go (inl below) true is rest none = ap (λ b. b || is_number_among m (chosen test n)) (others n m (λ same. omega (arith, same))) ∙ rest below
    go (inl below) false is rest none = rest below
    go (inr far) true is rest none =
        let same : n ≡ m = omega arith in
        ap (λ b. b || is_number_among m (chosen test n)) (itself n m same) ∙ sym (ap test (sym same) ∙ is)
    go (inr far) false is rest none =
        let same : n ≡ m = omega arith in
        none far ∙ sym (ap test (sym same) ∙ is)

both : (a b : Bool) → a ≡ true → b ≡ true → (a && b) ≡ true
both true b left right = right
both false b left right = absurd cc

chosen_apart : (test : ℕ → Bool) (n : ℕ) → are_numbers_apart (chosen test n) ≡ true
unfolding chosen
chosen_apart test zero = refl
chosen_apart test (suc n) = go (test n) (chosen_apart test n)
  where
    go : (b : Bool) → are_numbers_apart (chosen test n) ≡ true → are_numbers_apart (cond b (n ∷ chosen test n) (chosen test n)) ≡ true
    go true rest = both (not (is_number_among n (chosen test n))) (are_numbers_apart (chosen test n)) (ap not (among_none test n n (omega arith))) rest
    go false rest = rest

-- as many are chosen as there are values
chosen_many : {A : Type 0} (xs : List (Option A)) (n : ℕ) → n ≤ length xs → length (chosen (λ m. is_some (item_at xs m)) n) ≡ count_by is_some (take n xs)
unfolding chosen
chosen_many xs zero within = refl
chosen_many xs (suc n) within = go (is_some (item_at xs n)) refl (chosen_many xs n (omega (arith, within)))
  where
    below : n < length xs
    below = omega (arith, within)

    go : (b : Bool) → is_some (item_at xs n) ≡ b → length (chosen (λ m. is_some (item_at xs m)) n) ≡ count_by is_some (take n xs) →
        length (cond (is_some (item_at xs n)) (n ∷ chosen (λ m. is_some (item_at xs m)) n)
        (chosen (λ m. is_some (item_at xs m)) n)) ≡ count_by is_some (take (suc n) xs)
    go true is rest =
        ap (λ b. length (cond b (n ∷ chosen (λ m. is_some (item_at xs m)) n) (chosen (λ m. is_some (item_at xs m)) n))) is
        ∙ omega (arith, rest, rw (add-one n) at (count_by_more_yes is_some xs n None below is))
    go false is rest =
        ap (λ b. length (cond b (n ∷ chosen (λ m. is_some (item_at xs m)) n) (chosen (λ m. is_some (item_at xs m)) n))) is
        ∙ rest ∙ sym (rw (add-one n) at (count_by_more_no is_some xs n None below is))

-- the descriptions that are there are those that are named
pub counts_is : (k : Kept) (count : ℕ) → IsKept k empty_hand → count ≡ count_by is_some k.descriptions → Counts (open_files k) count
counts_is k count kept is = record {
  numbers = chosen test (length k.descriptions);
  apart = chosen_apart test (length k.descriptions);
  named = λ n. at n (lt_or_le n (length k.descriptions)) ∙ sym (named_is k n kept);
  all = chosen_many k.descriptions (length k.descriptions) (omega arith) ∙ ap (count_by is_some) (take-length k.descriptions) ∙ sym is;
}
  where
    test : ℕ → Bool
    test m = is_some (item_at k.descriptions m)

    at : (n : ℕ) → (n < length k.descriptions) ⊎ (length k.descriptions ≤ n) → is_number_among n (chosen test (length k.descriptions)) ≡ is_some (item_at k.descriptions n)
    at n (inl below) = among_is test (length k.descriptions) n below
    at n (inr far) = among_none test (length k.descriptions) n far ∙ sym (ap is_some (get_or_past k.descriptions n None far))

-- as many values as are seen
pub count_map : {A B : Type 0} (g : A → B) (xs : List (Option A)) → count_by is_some (map (option_map g) xs) ≡ count_by is_some xs
count_map g [] = refl
count_map g (None ∷ xs) =
    omega (arith, sum_by-cons (λ (o : Option _). cond (is_some o) 1 0) None xs, sum_by-cons (λ (o : Option _). cond (is_some o) 1 0) None (map (option_map g) xs), count_map g xs)
count_map g (Some x ∷ xs) =
    omega (arith, sum_by-cons (λ (o : Option _). cond (is_some o) 1 0) (Some x) xs, sum_by-cons (λ (o : Option _). cond (is_some o) 1 0) (Some (g x)) (map (option_map g) xs), count_map g xs)
