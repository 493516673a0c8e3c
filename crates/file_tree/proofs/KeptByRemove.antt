-- A list that is a tree stays one when a node is removed. This is of the lists alone.
use Rattle.std.proofs.Common.{◌≡◌, ℕ, ◌<◌, inl, inr, List, [], Bool, true, false, None, length, slice_set, ap, sym, ◌∙◌, refl, arith, length-set}
use Rattle.std.specs.Prelude.{◌≢◌, ◌||◌}
use Rattle.std.specs.Cmp.Derive.{both_true}
use Rattle.std.proofs.lemmas.Bool.{both_ways, not-false}
use Rattle.file_tree.specs.Places.{same_place, begins, above}
use Rattle.file_tree.specs.Nodes.{Node, node, lies_below, has_below}
use Rattle.file_tree.specs.Changes.{unlinked, removed}
use Rattle.file_tree.specs.Refusals.{remove_fault, is_root}
use Rattle.file_tree.specs.WellFormed.{IsTree, has_parent, is_within_limits}
use Rattle.file_tree.proofs.PlaceLaws.{same_place_from, begins_above, above_length, longer_place}
use Rattle.file_tree.proofs.NodeLaws.{linked_there, none_at, Directory, held_above, held_from, set_cases, passed}
use Rattle.file_tree.proofs.KeptByCreate.{limits_of, limits_from, same_directory}

-- what may be removed: a linked node but the root with nothing below it
pub record MayRemove (t : List Node) (n : ℕ) : Type 0 where
  pub linked : (node t n).linked ≡ true
  pub below_root : is_root (node t n).place ≡ false
  pub empty : has_below t (node t n).place ≡ false

neither : (a b : Bool) → (a || b) ≡ false → (a ≡ false) × (b ≡ false)
neither true b h = cc
neither false b h = (refl, h)

pub may_remove : (t : List Node) (n : ℕ) → remove_fault t n ≡ None → MayRemove t n
unfolding remove_fault
may_remove t n h =
    let first = passed _ _ _ h in
    let second = passed _ _ _ first.1 in
    let parts = neither _ _ second.0 in
    record { linked = not-false _ first.0; below_root = parts.0; empty = parts.1 }

-- what stands in a directory lies below it
pub lies_in : (p : List (List ℕ)) (m : Node) → m.linked ≡ true → 0 < length m.place → p ≡ above m.place → lies_below p m ≡ true
lies_in p m linked low at =
    let shorter : length p < length m.place = omega (arith, ap length at, above_length m.place) in
    let front : begins p m.place ≡ true = rw at (begins_above m.place) in
    let other : same_place p m.place ≡ false = longer_place p m.place shorter in
    both_true (both_true linked front) (rw other refl)

module _ (t : List Node) (n : ℕ) (tree : IsTree t) (may : MayRemove t n) where
  -- each linked node was one, and another one
  still_linked : (k : ℕ) → (node (slice_set t n (unlinked (node t n))) k).linked ≡ true → (k ≢ n) × (node (slice_set t n (unlinked (node t n))) k ≡ node t k)
  still_linked k linked =
      elim (set_cases t n k (unlinked (node t n)) (linked_there t n may.linked)) [
        | inl same ↦ let gone : false ≡ true = sym (ap (λ (m : Node). m.linked) same.1) ∙ linked in cc
        | inr other ↦ other
      ]

  other_stays : (k : ℕ) → k ≢ n → node (slice_set t n (unlinked (node t n))) k ≡ node t k
  other_stays k other =
      elim (set_cases t n k (unlinked (node t n)) (linked_there t n may.linked)) [ inl same ↦ absurd (other same.0) | inr kept ↦ kept.1 ]

  root_stays : node (slice_set t n (unlinked (node t n))) 0 ≡ node t 0
  root_stays = other_stays 0 (λ same.
      let at_root : [] ≡ (node t n).place = sym tree.root_place ∙ ap (λ k. (node t k).place) same in
      both_ways (is_root (node t n).place) may.below_root (same_place_from [] (node t n).place at_root))

  directory_stays : (k : ℕ) → (node t k).linked ≡ true → 0 < length (node t k).place → Directory t (above (node t k).place) → Directory (slice_set t n (unlinked (node t n))) (above (node t k).place)
  directory_stays k linked low d =
      same_directory t (slice_set t n (unlinked (node t n))) (above (node t k).place) d (other_stays d.number (λ same.
      let at : (node t n).place ≡ above (node t k).place = ap (λ i. (node t i).place) (sym same) ∙ d.place in
      both_ways (lies_below (node t n).place (node t k)) (none_at (lies_below (node t n).place) t k refl may.empty) (lies_in (node t n).place (node t k) linked low at)))

  place_was : (k : ℕ) → (node (slice_set t n (unlinked (node t n))) k).linked ≡ true → (node (slice_set t n (unlinked (node t n))) k).place ≡ (node t k).place
  place_was k linked = ap (λ (m : Node). m.place) (still_linked k linked).1

  linked_was : (k : ℕ) → (node (slice_set t n (unlinked (node t n))) k).linked ≡ true → (node t k).linked ≡ true
  linked_was k linked = sym (ap (λ (m : Node). m.linked) (still_linked k linked).1) ∙ linked

  held_stays : (k : ℕ) → (node (slice_set t n (unlinked (node t n))) k).linked ≡ true → has_parent (slice_set t n (unlinked (node t n))) (node (slice_set t n (unlinked (node t n))) k).place ≡ true
  held_stays k linked =
      rw (place_was k linked) (held_from _ (node t k).place (λ low.
      directory_stays k (linked_was k linked) low (held_above t (node t k).place (tree.held k (linked_was k linked)) low)))

  limits_stay : (k : ℕ) → k < length (slice_set t n (unlinked (node t n))) → is_within_limits (node (slice_set t n (unlinked (node t n))) k) ≡ true
  limits_stay k there =
      let k_there : k < length t = omega (arith, length-set t n (unlinked (node t n))) in
      elim (set_cases t n k (unlinked (node t n)) (linked_there t n may.linked)) [
        | inl same ↦ let old = limits_of (node t n) (tree.limits n (linked_there t n may.linked)) in ap is_within_limits same.1
            ∙ limits_from (unlinked (node t n)) (record { names = old.names; content = old.content; bytes = old.bytes })
        | inr kept ↦ ap is_within_limits kept.1 ∙ tree.limits k k_there
      ]

pub removed_is_tree : (t : List Node) (n : ℕ) → IsTree t → remove_fault t n ≡ None → IsTree (removed t n)
unfolding removed
removed_is_tree t n tree allowed =
    let may = may_remove t n allowed in
    let root = root_stays t n tree may in
    record {
      root_linked = ap (λ (m : Node). m.linked) root ∙ tree.root_linked;
      root_kind = ap (λ (m : Node). m.kind) root ∙ tree.root_kind;
      root_place = ap (λ (m : Node). m.place) root ∙ tree.root_place;
      apart = λ i j linked_i linked_j same. tree.apart i j (linked_was t n tree may i linked_i) (linked_was t n tree may j linked_j)
          (sym (place_was t n tree may i linked_i) ∙ same ∙ place_was t n tree may j linked_j);
      held = held_stays t n tree may;
      few = omega (arith, length-set t n (unlinked (node t n)), tree.few);
      limits = limits_stay t n tree may;
    }
