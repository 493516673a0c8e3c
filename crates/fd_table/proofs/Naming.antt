-- A description with no holder is named by nobody, and one with a holder by somebody.
use Rattle.std.proofs.Common.{◌≡◌, ℕ, zero, suc, ◌+◌, ◌*◌, ◌/◌, ◌%◌, ◌<◌, Bool, true, false, List, [], ◌∷◌, length, refl, ap, ◌∙◌, sym, subst, arith, inl, inr}
use Rattle.std.specs.Prelude.{Option, Some, None, nat_lt, cond, is_some}
use Rattle.std.specs.List.{list_any, sum_by}
use Rattle.std.proofs.lemmas.Bool.{lt-ltb, eqb-false}
use Rattle.std.proofs.lemmas.Bool.Decides.{eqb_tells}
use Rattle.std.proofs.lemmas.List.Sums.{sum_by-cons}
use Rattle.fd_table.specs.Descriptions.{Descriptor, Message}
use Rattle.fd_table.specs.OpenFiles.{OpenFiles, any_below, any_named, names, IsOther, AreOther, IsUnnamed}
use Rattle.fd_table.specs.Kept.{Counted, Pair, Kept, entry_at, item_at, queue, half_in, open_files}
use Rattle.fd_table.specs.Holders.{names_count, in_queue, in_pair, holders, IsCounted, IsKept, empty_hand}
use Rattle.fd_table.proofs.Scans.{or_false, left_false, right_false, none_below, nothing_below}
use Rattle.fd_table.proofs.Sums.{sum_at, sum_zero}

named_zero : (n : ℕ) (o : Option Descriptor) → names_count n o ≡ 0 → names n o ≡ false
named_zero n o none = go (names n o) refl
  where
    go : (b : Bool) → names n o ≡ b → names n o ≡ false
    go true is =
        let one : names_count n o ≡ 1 = ap (λ b. cond b 1 0) is in
        absurd (omega (arith, one, none))
    go false is = is

zero_named : (n : ℕ) (o : Option Descriptor) → names n o ≡ false → names_count n o ≡ 0
zero_named n o none = ap (λ b. cond b 1 0) none

pub queue_zero : (n : ℕ) (ms : List Message) → in_queue n ms ≡ 0 → list_any (λ (m : Message). names n m.passed) ms ≡ false
queue_zero n [] none = refl
queue_zero n (m ∷ ms) none =
    let both = sum_by-cons (λ (m : Message). names_count n m.passed) m ms in
    or_false (names n m.passed) (list_any (λ (m : Message). names n m.passed) ms) (named_zero n m.passed (omega (arith, both, none))) (queue_zero n ms (omega (arith, both, none)))

zero_queue : (n : ℕ) (ms : List Message) → list_any (λ (m : Message). names n m.passed) ms ≡ false → in_queue n ms ≡ 0
zero_queue n [] none = refl
zero_queue n (m ∷ ms) none =
    let both = sum_by-cons (λ (m : Message). names_count n m.passed) m ms in
    let first = zero_named n m.passed (left_false (names n m.passed) _ none) in
    let rest = zero_queue n ms (right_false (names n m.passed) _ none) in
    omega (arith, both, first, rest)

-- where nobody is, no entry and no message names it
pub entry_silent : (k : Kept) (n : ℕ) → holders k n ≡ 0 → (p m : ℕ) → names n (entry_at k.entries p m) ≡ false
entry_silent k n none p m = go (nat_lt m 16)
  where
    at : names_count n (item_at k.entries (p * 16 + m)) ≡ 0
    at = omega (arith, none, sum_at (names_count n) k.entries (p * 16 + m) refl)

    go : (b : Bool) → names n (cond b (item_at k.entries (p * 16 + m)) None) ≡ false
    go true = named_zero n (item_at k.entries (p * 16 + m)) at
    go false = refl

pub queue_silent : (k : Kept) (n : ℕ) → holders k n ≡ 0 → (q s : ℕ) → in_queue n (queue k.pairs q s) ≡ 0
queue_silent k n none q s = go (item_at k.pairs q) s (omega (arith, none, sum_at (in_pair n) k.pairs q refl))
  where
    go : (o : Option Pair) (s : ℕ) → in_pair n o ≡ 0 → in_queue n ((half_in o s).sent) ≡ 0
    go None s silent = refl
    go (Some p) zero silent = omega (arith, silent)
    go (Some p) (suc zero) silent = omega (arith, silent)
    go (Some p) (suc (suc s)) silent = refl

-- where no entry and no message names it, nobody is
holders_none : (k : Kept) (n : ℕ) → length k.entries ≡ 256 → any_named (open_files k) (names n) ≡ false → holders k n ≡ 0
unfolding open_files
holders_none k n room none = omega (arith, in_entries, in_pairs)
  where
    in_tables : any_below 16 (λ p. any_below 16 (λ m. names n (entry_at k.entries p m))) ≡ false
    in_tables = left_false (any_below 16 (λ p. any_below 16 (λ m. names n (entry_at k.entries p m)))) _ none

    in_queues : any_below (length k.pairs) (λ q. any_below 2 (λ s. list_any (λ (m : Message). names n m.passed) (queue k.pairs q s))) ≡ false
    in_queues = right_false (any_below 16 (λ p. any_below 16 (λ m. names n (entry_at k.entries p m)))) _ none

    entry_none : (i : ℕ) → i < 256 → names_count n (item_at k.entries i) ≡ 0
    entry_none i within =
        let p : ℕ = i / 16 in
        let m : ℕ = i % 16 in
        let small : i % 16 < 16 = omega arith in
        let row : i / 16 < 16 = omega arith in
        let whole : i / 16 * 16 + i % 16 ≡ i = omega arith in
        let silent = none_below 16 (λ m. names n (entry_at k.entries (i / 16) m)) (none_below 16 (λ p. any_below 16 (λ m. names n (entry_at k.entries p m))) in_tables (i / 16) row) (i % 16) small in
        let at : entry_at k.entries (i / 16) (i % 16) ≡ item_at k.entries i = ap (λ b. cond b (item_at k.entries (i / 16 * 16 + i % 16)) None)
        (lt-ltb (i % 16) 16 small) ∙ ap (item_at k.entries) whole in
        zero_named n (item_at k.entries i) (ap (names n) (sym at) ∙ silent)

    in_entries : sum_by (names_count n) k.entries ≡ 0
    in_entries = sum_zero (names_count n) k.entries (λ i below. entry_none i (omega (arith, below, room)))

    pair_none : (q : ℕ) → q < length k.pairs → in_pair n (item_at k.pairs q) ≡ 0
    pair_none q within =
        let row = none_below (length k.pairs) (λ q. any_below 2 (λ s. list_any (λ (m : Message). names n m.passed) (queue k.pairs q s))) in_queues q within in
        go (item_at k.pairs q)
        (zero_queue n (queue k.pairs q 0) (none_below 2 (λ s. list_any (λ (m : Message). names n m.passed) (queue k.pairs q s)) row 0 (omega arith)))
        (zero_queue n (queue k.pairs q 1) (none_below 2 (λ s. list_any (λ (m : Message). names n m.passed) (queue k.pairs q s)) row 1 (omega arith)))
      where
        go : (o : Option Pair) → in_queue n ((half_in o 0).sent) ≡ 0 → in_queue n ((half_in o 1).sent) ≡ 0 → in_pair n o ≡ 0
        go None a b = refl
        go (Some p) a b = omega (arith, a, b)

    in_pairs : sum_by (in_pair n) k.pairs ≡ 0
    in_pairs = sum_zero (in_pair n) k.pairs pair_none

is_other : (n : ℕ) (o : Option Descriptor) → names n o ≡ false → IsOther n o
is_other n None none = tt
is_other n (Some d) none = eqb-false d.description n none

are_other : (n : ℕ) (ms : List Message) → list_any (λ (m : Message). names n m.passed) ms ≡ false → AreOther n ms
are_other n [] none = tt
are_other n (m ∷ ms) none =
    (is_other n m.passed (left_false (names n m.passed) _ none), are_other n ms (right_false (names n m.passed) _ none))

unnamed_silent : (k : Kept) (n : ℕ) → holders k n ≡ 0 → IsUnnamed (open_files k) n
unfolding open_files
unnamed_silent k n none = record {
  entries = λ p m. is_other n (entry_at k.entries p m) (entry_silent k n none p m);
  messages = λ pair side. are_other n (queue k.pairs pair side) (queue_zero n (queue k.pairs pair side) (queue_silent k n none pair side));
}

-- a number without a description is named by nobody
pub holders_vacant : (k : Kept) (n : ℕ) (hand : ℕ → ℕ) → IsKept k hand → item_at k.descriptions n ≡ None → holders k n ≡ 0
holders_vacant k n hand kept vacant =
    let none : holders k n + hand n ≡ 0 = subst (λ (o : Option Counted). IsCounted o (holders k n + hand n)) vacant (kept.counts n) in
    omega (arith, none)

pub unnamed_vacant : (k : Kept) (n : ℕ) (hand : ℕ → ℕ) → IsKept k hand → item_at k.descriptions n ≡ None → IsUnnamed (open_files k) n
unnamed_vacant k n hand kept vacant = unnamed_silent k n (holders_vacant k n hand kept vacant)

not_named : (n : ℕ) (o : Option Descriptor) → IsOther n o → names n o ≡ false
not_named n None other = refl
not_named n (Some d) other = elim (eqb_tells d.description n) [ inl same ↦ absurd (other same.1) | inr apart ↦ apart.0 ]

none_named : (n : ℕ) (ms : List Message) → AreOther n ms → list_any (λ (m : Message). names n m.passed) ms ≡ false
none_named n [] others = refl
none_named n (m ∷ ms) others = or_false _ _ (not_named n m.passed others.0) (none_named n ms others.1)

pub named_none : (f : OpenFiles) (n : ℕ) → IsUnnamed f n → any_named f (names n) ≡ false
named_none f n unnamed =
    or_false _ _
    (nothing_below 16 _ (λ p. nothing_below 16 _ (λ m. not_named n (f.table p m) (unnamed.entries p m))))
    (nothing_below f.pairs _ (λ q. nothing_below 2 _ (λ s. none_named n (f.queue q s) (unnamed.messages q s))))

-- whether a description is named is whether it is there
pub named_is : (k : Kept) (n : ℕ) → IsKept k empty_hand → any_named (open_files k) (names n) ≡ is_some (item_at k.descriptions n)
named_is k n kept = go (item_at k.descriptions n) refl (any_named (open_files k) (names n)) refl
  where
    go : (o : Option Counted) → item_at k.descriptions n ≡ o → (b : Bool) → any_named (open_files k) (names n) ≡ b → b ≡ is_some o
    go None vacant b is = sym is ∙ named_none (open_files k) n (unnamed_vacant k n empty_hand kept vacant)
    go (Some h) there true is = refl
    go (Some h) there false is =
        let none = holders_none k n kept.room is in
        let counted : IsCounted (Some h) (holders k n + 0) = subst (λ (o : Option Counted). IsCounted o (holders k n + 0)) there (kept.counts n) in
        absurd (omega (arith, none, counted.1))
