-- What the lists say of what is open.
use Rattle.std.proofs.Common.{◌≡◌, ℕ, zero, suc, ◌+◌, ◌*◌, ◌≤◌, Bool, true, false, List, [], ◌∷◌, length, refl, ap, ◌∙◌, sym, subst, arith}
use Rattle.std.specs.Prelude.{Option, Some, None, nat_eq, cond, is_some}
use Rattle.std.specs.List.{list_any, sum_by, slice_get}
use Rattle.std.specs.Option.{IsSome}
use Rattle.std.proofs.lemmas.Bool.{eqb-true, eq-eqb}
use Rattle.std.proofs.lemmas.List.{get_or_past}
use Rattle.std.proofs.lemmas.List.Sums.{sum_by-cons}
use Rattle.fd_table.specs.Descriptions.{Object, Descriptor, Message}
use Rattle.fd_table.specs.OpenFiles.{OpenFiles, any_below, any_named, names, names_end, is_end, is_open, IsOther, AreOther, IsUnnamed, IsUnused, Alike, SameDescription, SameDescriptions}
use Rattle.fd_table.specs.Filled.{IsNamed, by_entry, by_message, IsEndThere, MayPass}
use Rattle.fd_table.specs.Kept.{Counted, Pair, Kept, entry_at, item_at, queue, object_in, state_in, half_in, end_of, open_files}
use Rattle.fd_table.specs.Holders.{names_count, in_queue, in_pair, holders, IsCounted, IsKept, IsDescriptionThere, empty_hand}
use Rattle.fd_table.specs.Follows.{ShowsAt, Follows}
use Rattle.fd_table.proofs.Scans.{or_false, left_false, right_false, nothing_below}
use Rattle.fd_table.proofs.Ending.{end_itself}
use Rattle.fd_table.proofs.Naming.{named_is, holders_vacant, entry_silent, queue_silent, queue_zero, unnamed_vacant}

-- where one search finds nothing, one for less finds nothing
below_less : (n : ℕ) (test less : ℕ → Bool) → ((i : ℕ) → test i ≡ false → less i ≡ false) → any_below n test ≡ false → any_below n less ≡ false
unfolding any_below
below_less zero test less so none = refl
below_less (suc n) test less so none =
    or_false (less n) (any_below n less) (so n (left_false (test n) (any_below n test) none)) (below_less n test less so (right_false (test n) (any_below n test) none))

list_less : (test less : Option Descriptor → Bool) → ((o : Option Descriptor) → test o ≡ false → less o ≡ false) → (ms : List Message) →
    list_any (λ (m : Message). test m.passed) ms ≡ false → list_any (λ (m : Message). less m.passed) ms ≡ false
list_less test less so [] none = refl
list_less test less so (m ∷ ms) none =
    or_false (less m.passed) _ (so m.passed (left_false (test m.passed) _ none)) (list_less test less so ms (right_false (test m.passed) _ none))

any_less : (f : OpenFiles) (test less : Option Descriptor → Bool) → ((o : Option Descriptor) → test o ≡ false → less o ≡ false) → any_named f test ≡ false → any_named f less ≡ false
any_less f test less so none =
    or_false _ _
    (below_less 16 (λ p. any_below 16 (λ n. test (f.table p n))) (λ p. any_below 16 (λ n. less (f.table p n)))
    (λ p. below_less 16 (λ n. test (f.table p n)) (λ n. less (f.table p n)) (λ n. so (f.table p n)))
    (left_false (any_below 16 (λ p. any_below 16 (λ n. test (f.table p n)))) _ none))
    (below_less f.pairs (λ q. any_below 2 (λ s. list_any (λ (m : Message). test m.passed) (f.queue q s))) (λ q. any_below 2 (λ s. list_any (λ (m : Message). less m.passed) (f.queue q s)))
    (λ q. below_less 2 (λ s. list_any (λ (m : Message). test m.passed) (f.queue q s)) (λ s. list_any (λ (m : Message). less m.passed) (f.queue q s)) (λ s. list_less test less so (f.queue q s)))
    (right_false (any_below 16 (λ p. any_below 16 (λ n. test (f.table p n)))) _ none))

none_in : (test : Option Descriptor → Bool) → ((o : Option Descriptor) → test o ≡ false) → (ms : List Message) → list_any (λ (m : Message). test m.passed) ms ≡ false
none_in test none [] = refl
none_in test none (m ∷ ms) = or_false _ _ (none m.passed) (none_in test none ms)

any_none : (f : OpenFiles) (test : Option Descriptor → Bool) → ((o : Option Descriptor) → test o ≡ false) → any_named f test ≡ false
any_none f test none =
    or_false _ _
    (nothing_below 16 _ (λ p. nothing_below 16 _ (λ m. none (f.table p m))))
    (nothing_below f.pairs _ (λ q. nothing_below 2 _ (λ s. none_in test none (f.queue q s))))

-- an end is open exactly if its pair knows its description
pub open_is : (k : Kept) (pair side : ℕ) → IsKept k empty_hand → is_open (open_files k) pair side ≡ is_some (end_of k.pairs pair side)
unfolding open_files
open_is k pair side kept = go (end_of k.pairs pair side) refl (is_open (open_files k) pair side) refl
  where
    objects : ℕ → Object
    objects n = object_in (item_at k.descriptions n)

    closed_one : end_of k.pairs pair side ≡ None → (o : Option Descriptor) → names_end (λ n. object_in (item_at k.descriptions n)) pair side o ≡ false
    closed_one closed None = refl
    closed_one closed (Some d) = decide (is_end pair side (object_in (item_at k.descriptions d.description))) refl
      where
        decide : (b : Bool) → is_end pair side (object_in (item_at k.descriptions d.description)) ≡ b → is_end pair side (object_in (item_at k.descriptions d.description)) ≡ false
        decide true is =
            let some = kept.known pair side d.description is in
            absurd cc
        decide false is = is

    less : (n : ℕ) → is_end pair side (object_in (item_at k.descriptions n)) ≡ true → (o : Option Descriptor) →
        names_end (λ n. object_in (item_at k.descriptions n)) pair side o ≡ false → names n o ≡ false
    less n end None none = refl
    less n end (Some d) none = decide (nat_eq d.description n) refl
      where
        decide : (b : Bool) → nat_eq d.description n ≡ b → nat_eq d.description n ≡ false
        decide true is =
            let same = eqb-true d.description n is in
            let own : is_end pair side (object_in (item_at k.descriptions d.description)) ≡ true = ap (λ i. is_end pair side (object_in (item_at k.descriptions i))) same ∙ end in
            absurd cc
        decide false is = is

    some_at : (n : ℕ) (o : Option Counted) → item_at k.descriptions n ≡ o → is_end pair side (object_in o) ≡ true → is_some (item_at k.descriptions n) ≡ true
    some_at n None there end = absurd cc
    some_at n (Some h) there end = ap is_some there

    go : (e : Option ℕ) → end_of k.pairs pair side ≡ e → (b : Bool) → is_open (open_files k) pair side ≡ b → b ≡ is_some e
    go None closed b is = sym is ∙ any_none (open_files k) (names_end (λ n. object_in (item_at k.descriptions n)) pair side) (closed_one closed)
    go (Some n) opened true is = refl
    go (Some n) opened false is =
        let end = kept.ends pair side n opened in
        let none = any_less (open_files k) (names_end (λ n. object_in (item_at k.descriptions n)) pair side) (names n) (less n end) is in
        let names_count = named_is k n kept ∙ some_at n (item_at k.descriptions n) refl end in
        absurd cc

-- an end that is there is open
pub end_open : (k : Kept) (pair side : ℕ) (hand : ℕ → ℕ) → IsKept k hand → IsEndThere (open_files k) pair side → IsSome (end_of k.pairs pair side)
unfolding open_files
end_open k pair side hand kept there =
    let own = kept.known pair side there.description (subst (λ (o : Object). is_end pair side o ≡ true) (sym there.is) (end_itself pair side there.class)) in
    subst (λ (o : Option ℕ). IsSome o) (sym own) refl

-- a number without a pair is not in use
pub unused_vacant : (k : Kept) (pair : ℕ) → IsKept k empty_hand → item_at k.pairs pair ≡ None → IsUnused (open_files k) pair
unfolding open_files
unused_vacant k pair kept vacant = record {
  closed = λ side. open_is k pair side kept ∙ ap (λ o. is_some ((half_in o side).description)) vacant;
  empty = λ side. ap (λ o. (half_in o side).sent) vacant;
}

-- what is named is there
other_at : (n : ℕ) (ms : List Message) (at : ℕ) (m : Message) → AreOther n ms → slice_get ms at ≡ Some m → IsOther n m.passed
other_at n [] at m other is = absurd cc
other_at n (x ∷ ms) zero m other is =
    let same : x ≡ m = cc in
    subst (λ (y : Message). IsOther n y.passed) same other.0
other_at n (x ∷ ms) (suc at) m other is = other_at n ms at m other.1 is

not_both : (f : OpenFiles) (n : ℕ) → IsUnnamed f n → IsNamed f n → ⊥
not_both f n unnamed (by_entry p m d is names) = subst (IsOther n) is (unnamed.entries p m) names
not_both f n unnamed (by_message pair side at m d is passed names) =
    subst (IsOther n) passed (other_at n (f.queue pair side) at m (unnamed.messages pair side) is) names

pub there_named : (k : Kept) (n : ℕ) (hand : ℕ → ℕ) → IsKept k hand → IsNamed (open_files k) n → IsSome (item_at k.descriptions n)
there_named k n hand kept names_count = go (item_at k.descriptions n) refl
  where
    go : (o : Option Counted) → item_at k.descriptions n ≡ o → IsSome o
    go None vacant = absurd (not_both (open_files k) n (unnamed_vacant k n hand kept vacant) names_count)
    go (Some h) there = refl

pub there_passed : (k : Kept) (o : Option Descriptor) (hand : ℕ → ℕ) → IsKept k hand → MayPass (open_files k) o → IsDescriptionThere (item_at k.descriptions) o
there_passed k None hand kept may = tt
there_passed k (Some d) hand kept may = there_named k d.description hand kept may

-- what an entry or a message names is as the lists show it
module _ (f : OpenFiles) (k : Kept) (follows : Follows f k empty_hand) where
  same_one : (o : Option Descriptor) → ((n : ℕ) → holders k n ≡ 0 → names n o ≡ false) → SameDescription f (open_files k) o
  unfolding open_files
  same_one None silent = tt
  same_one (Some d) silent = go (item_at k.descriptions d.description) refl (follows.shows.described d.description)
    where
      go : (o : Option Counted) → item_at k.descriptions d.description ≡ o → ShowsAt f d.description o →
          (object_in (item_at k.descriptions d.description) ≡ f.objects d.description)
          × (state_in (item_at k.descriptions d.description) ≡ f.states d.description)
      go None vacant shown =
          let none = silent d.description (holders_vacant k d.description empty_hand follows.kept vacant) in
          let own = eq-eqb d.description d.description refl in
          absurd cc
      go (Some h) there shown = (ap object_in there ∙ shown.0, ap state_in there ∙ shown.1)

  same_all : (ms : List Message) → ((n : ℕ) → holders k n ≡ 0 → list_any (λ (m : Message). names n m.passed) ms ≡ false) → SameDescriptions f (open_files k) ms
  same_all [] silent = tt
  same_all (m ∷ ms) silent =
      (same_one m.passed (λ n none. left_false (names n m.passed) _ (silent n none)), same_all ms (λ n none. right_false (names n m.passed) _ (silent n none)))

-- with nothing in hand, the lists are what is open
pub alike_follows : (f : OpenFiles) (k : Kept) → Follows f k empty_hand → Alike f (open_files k)
unfolding open_files
alike_follows f k follows = record {
  table = follows.shows.table;
  queue = follows.shows.queue;
  entries = λ p n. subst (SameDescription f (open_files k)) (follows.shows.table p n) (same_one f k follows (entry_at k.entries p n) (λ m none. entry_silent k m none p n));
  messages = λ pair side.
      subst (SameDescriptions f (open_files k)) (follows.shows.queue pair side)
      (same_all f k follows (queue k.pairs pair side) (λ n none. queue_zero n (queue k.pairs pair side) (queue_silent k n none pair side)));
  idle = λ pair side far. ap (λ o. (half_in o side).sent) (get_or_past k.pairs pair None far);
}

shows_itself : (k : Kept) (n : ℕ) (o : Option Counted) → item_at k.descriptions n ≡ o → ShowsAt (open_files k) n o
unfolding open_files
shows_itself k n None there = tt
shows_itself k n (Some h) there = (sym (ap object_in there), sym (ap state_in there))

-- the lists stand for what they are
pub follows_itself : (k : Kept) (hand : ℕ → ℕ) → IsKept k hand → Follows (open_files k) k hand
unfolding open_files
follows_itself k hand kept = record {
  kept = kept;
  shows = record { table = λ p n. refl; queue = λ pair side. refl; described = λ n. shows_itself k n (item_at k.descriptions n) refl };
}

-- there are few holders
named_most : (n : ℕ) (o : Option Descriptor) → names_count n o ≤ 1
named_most n o = go (names n o)
  where
    go : (b : Bool) → cond b 1 0 ≤ 1
    go true = omega arith
    go false = omega arith

entries_most : (n : ℕ) (os : List (Option Descriptor)) → sum_by (names_count n) os ≤ length os
entries_most n [] = omega arith
entries_most n (o ∷ os) = omega (arith, sum_by-cons (names_count n) o os, named_most n o, entries_most n os)

queue_most : (n : ℕ) (ms : List Message) → in_queue n ms ≤ length ms
queue_most n [] = omega arith
queue_most n (m ∷ ms) = omega (arith, sum_by-cons (λ (m : Message). names_count n m.passed) m ms, named_most n m.passed, queue_most n ms)

pairs_most : (n : ℕ) (ps : List (Option Pair)) → ((i s : ℕ) → length ((half_in (item_at ps i) s).sent) ≤ 16) → sum_by (in_pair n) ps ≤ 32 * length ps
pairs_most n [] few = omega arith
pairs_most n (None ∷ ps) few = omega (arith, sum_by-cons (in_pair n) None ps, pairs_most n ps (λ i. few (suc i)))
pairs_most n (Some p ∷ ps) few =
    omega (arith, sum_by-cons (in_pair n) (Some p) ps, queue_most n p.a.sent, queue_most n p.b.sent, few 0 0, few 0 1, pairs_most n ps (λ i. few (suc i)))

pub count_most : (k : Kept) (n : ℕ) (h : Counted) → IsKept k empty_hand → item_at k.descriptions n ≡ Some h → h.count ≤ 256 + 32 * length k.pairs
count_most k n h kept there =
    let counted : IsCounted (Some h) (holders k n + 0) = subst (λ (o : Option Counted). IsCounted o (holders k n + 0)) there (kept.counts n) in
    omega (arith, counted.0, entries_most n k.entries, kept.room, pairs_most n k.pairs (λ i s. kept.few i s))
