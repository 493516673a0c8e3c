-- What each step of the code keeps: a descriptor moves between an entry, a message and the hand.
use Rattle.std.proofs.Common.{◌≡◌, ◌≢◌, ℕ, zero, suc, ◌+◌, ◌<◌, ◌≤◌, true, false, List, length, refl, ap, ◌∙◌, sym, subst, arith}
use Rattle.std.specs.Prelude.{Option, Some, None, slice_set}
use Rattle.std.specs.List.{sum_by}
use Rattle.std.proofs.lemmas.List.Sums.{sum_by-set}
use Rattle.std.proofs.Math.ListN.{length-set}
use Rattle.fd_table.specs.Descriptions.{Object, Descriptor}
use Rattle.fd_table.specs.OpenFiles.{is_end}
use Rattle.fd_table.specs.Kept.{Counted, Pair, Kept, item_at, object_in, half_in, end_of}
use Rattle.fd_table.specs.Holders.{names_count, in_pair, holders, IsCounted, is_idle, IsNeeded, IsKept, with_hand}
use Rattle.fd_table.specs.Changes.{Changed}
use Rattle.fd_table.proofs.Sums.{changed-cases, sum_changed}

-- the entries are changed
pub kept_entries : (k : Kept) (es : List (Option Descriptor)) (hand left : ℕ → ℕ) → IsKept k hand → length es ≡ 256 →
    ((n : ℕ) → sum_by (names_count n) es + left n ≡ sum_by (names_count n) k.entries + hand n) → IsKept (record k { entries = es }) left
kept_entries k es hand left kept room same = record {
  room = room;
  counts = λ n.
      let moved = same n in
      let total : holders k n + hand n ≡ holders (record k { entries = es }) n + left n = omega (arith, moved) in
      subst (IsCounted (item_at k.descriptions n)) total (kept.counts n);
  ends = kept.ends;
  known = kept.known;
  needed = kept.needed;
  few = kept.few;
}

-- a descriptor, or none, goes from the hand into an entry, and what was there into the hand
pub kept_exchange : (k : Kept) (i : ℕ) (v : Option Descriptor) (hand : ℕ → ℕ) → IsKept k (with_hand v hand) → i < length k.entries →
    IsKept (record k { entries = slice_set k.entries i v }) (with_hand (item_at k.entries i) hand)
kept_exchange k i v hand kept within =
    kept_entries k (slice_set k.entries i v) (with_hand v hand) (with_hand (item_at k.entries i) hand) kept
    (length-set k.entries i v ∙ kept.room)
    (λ n. omega (arith, sum_by-set (names_count n) k.entries i v None within))

-- one pair has other queues
module _ (p q : Pair) (a : q.a.description ≡ p.a.description) (b : q.b.description ≡ p.b.description) where
  ends_as : (side : ℕ) → (half_in (Some q) side).description ≡ (half_in (Some p) side).description
  ends_as zero = a
  ends_as (suc zero) = b
  ends_as (suc (suc side)) = refl

pub kept_pair : (k : Kept) (ps : List (Option Pair)) (pair : ℕ) (p q : Pair) (hand left : ℕ → ℕ) → IsKept k hand → Changed k.pairs ps pair (Some q) →
    item_at k.pairs pair ≡ Some p → q.a.description ≡ p.a.description → q.b.description ≡ p.b.description → is_idle q ≡ false →
    ((side : ℕ) → length ((half_in (Some q) side).sent) ≤ 16) → ((n : ℕ) → in_pair n (Some q) + left n ≡ in_pair n (Some p) + hand n) →
    IsKept (record k { pairs = ps }) left
kept_pair k ps pair p q hand left kept change there a b needed few same = record {
  room = kept.room;
  counts = λ n.
      let moved = same n in
      let sums = sum_changed (in_pair n) k.pairs ps pair (Some q) refl change in
      let was : in_pair n (item_at k.pairs pair) ≡ in_pair n (Some p) = ap (in_pair n) there in
      let total : holders k n + hand n ≡ holders (record k { pairs = ps }) n + left n = omega (arith, moved, sums, was) in
      subst (IsCounted (item_at k.descriptions n)) total (kept.counts n);
  ends = λ r side n is. kept.ends r side n (sym (stays r side) ∙ is);
  known = λ r side n is. stays r side ∙ kept.known r side n is;
  needed = λ r. changed-cases IsNeeded k.pairs ps pair (Some q) change r (λ _. needed) (λ _. kept.needed r);
  few = λ r side. changed-cases (λ o. length ((half_in o side).sent) ≤ 16) k.pairs ps pair (Some q) change r (λ _. few side) (λ _. kept.few r side);
}
  where
    stays : (r side : ℕ) → end_of ps r side ≡ end_of k.pairs r side
    stays r side =
        changed-cases (λ o. (half_in o side).description ≡ end_of k.pairs r side) k.pairs ps pair (Some q) change r
        (λ same. ends_as p q a b side ∙ ap (λ o. (half_in o side).description) (sym (ap (item_at k.pairs) same ∙ there)))
        (λ other. refl)

-- one description has another state or another count
pub kept_count : (k : Kept) (ds : List (Option Counted)) (n : ℕ) (h g : Counted) (hand left : ℕ → ℕ) → IsKept k hand →
    Changed k.descriptions ds n (Some g) → item_at k.descriptions n ≡ Some h → g.description.object ≡ h.description.object → 0 < g.count →
    g.count + hand n ≡ h.count + left n → ((m : ℕ) → m ≢ n → left m ≡ hand m) → IsKept (record k { descriptions = ds }) left
kept_count k ds n h g hand left kept change there object some count same = record {
  room = kept.room;
  counts = λ m.
      changed-cases (λ o. IsCounted o (holders k m + left m)) k.descriptions ds n (Some g) change m
      (λ is. subst (λ (i : ℕ). IsCounted (Some g) (holders k i + left i)) (sym is) here)
      (λ other. subst (IsCounted (item_at k.descriptions m)) (ap (λ x. holders k m + x) (sym (same m other))) (kept.counts m));
  ends = λ r side m is. subst (λ (o : Object). is_end r side o ≡ true) (sym (stays m)) (kept.ends r side m is);
  known = λ r side m is. kept.known r side m (subst (λ (o : Object). is_end r side o ≡ true) (stays m) is);
  needed = kept.needed;
  few = kept.few;
}
  where
    stays : (m : ℕ) → object_in (item_at ds m) ≡ object_in (item_at k.descriptions m)
    stays m =
        changed-cases (λ o. object_in o ≡ object_in (item_at k.descriptions m)) k.descriptions ds n (Some g) change m
        (λ is. object ∙ ap object_in (sym (ap (item_at k.descriptions) is ∙ there)))
        (λ other. refl)

    here : IsCounted (Some g) (holders k n + left n)
    here =
        let was : IsCounted (Some h) (holders k n + hand n) = subst (λ (o : Option Counted). IsCounted o (holders k n + hand n)) there (kept.counts n) in
        (omega (arith, was.0, count), omega (arith, was.0, count, some))
