-- What lies below a place: a linked directory stands there.
use Rattle.std.proofs.Common.{◌≡◌, ◌<◌, ◌≤◌, ◌-◌, ℕ, zero, suc, Bool, true, false, List, length, refl, ap, sym, subst, ◌∙◌, arith}
use Rattle.std.specs.Prelude.{◌&&◌, not, None}
use Rattle.file_tree.specs.Places.{same_place, begins, above}
use Rattle.file_tree.specs.Nodes.{is_dir, Node, node, lies_below, has_below, node_at, stands_at}
use Rattle.file_tree.specs.WellFormed.{IsTree}
use Rattle.file_tree.proofs.PlaceLaws.{same_place_is, begins_above_other, begins_longer, above_length, longer_place}
use Rattle.file_tree.proofs.NodeLaws.{Directory, held_above, any_found, node_at_none, stands_from}

-- a linked node below a place has all its directories up to it
pub directory_above : (t : List Node) → IsTree t → (p : List (List ℕ)) (most k : ℕ) → (node t k).linked ≡ true → begins p (node t k).place ≡ true →
    length p < length (node t k).place → length (node t k).place ≤ most → Directory t p
directory_above t tree p zero k linked front longer few = absurd (omega arith)
directory_above t tree p (suc most) k linked front longer few =
    at (directory_above t tree p most) (same_place p (above (node t k).place)) refl
  where
    d : Directory t (above (node t k).place)
    d = held_above t (node t k).place (tree.held k linked) (omega arith)

    shorter : length (above (node t k).place) ≡ length (node t k).place - 1
    shorter = above_length (node t k).place

    at : ((j : ℕ) → (node t j).linked ≡ true → begins p (node t j).place ≡ true → length p < length (node t j).place →
        length (node t j).place ≤ most → Directory t p) → (b : Bool) → same_place p (above (node t k).place) ≡ b → Directory t p
    at on true is = subst (Directory t) (sym (same_place_is p (above (node t k).place) is)) d
    at on false is =
        let off : begins p (above (node t k).place) ≡ true = begins_above_other p (node t k).place front (longer_place p (node t k).place longer) in
        on d.number d.linked (rw d.place off) (rw d.place (begins_longer p (above (node t k).place) off is)) (rw d.place (rw shorter (omega arith)))

lies-parts : (p : List (List ℕ)) (m : Node) → lies_below p m ≡ true → (m.linked ≡ true) × (begins p m.place ≡ true) × (same_place p m.place ≡ false)
lies-parts p m is = split m.linked (begins p m.place) (same_place p m.place) is
  where
    split : (a b c : Bool) → (a && b && not c) ≡ true → (a ≡ true) × (b ≡ true) × (c ≡ false)
    split true true true is = absurd cc
    split true true false is = (refl, refl, refl)
    split true false c is = absurd cc
    split false b c is = absurd cc

pub below_directory : (t : List Node) → IsTree t → (p : List (List ℕ)) → has_below t p ≡ true → Directory t p
below_directory t tree p is =
    let (k, below) = any_found (lies_below p) t is in
    let (linked, front, other) = lies-parts p (node t k) below in
    directory_above t tree p (length (node t k).place) k linked front (begins_longer p (node t k).place front other) (omega arith)

-- Nothing lies below a free place, and below what is no directory.
pub free_empty : (t : List Node) → IsTree t → (p : List (List ℕ)) → node_at t p ≡ None → has_below t p ≡ false
free_empty t tree p free = at (has_below t p) refl
  where
    at : (b : Bool) → has_below t p ≡ b → b ≡ false
    at false is = refl
    at true is =
        let d : Directory t p = below_directory t tree p is in
        let stands : stands_at p (node t d.number) ≡ true = stands_from p (node t d.number) d.linked (sym d.place) in
        let no : stands_at p (node t d.number) ≡ false = node_at_none t p free d.number in
        absurd cc

pub file_empty : (t : List Node) → IsTree t → (n : ℕ) → (node t n).linked ≡ true → is_dir (node t n).kind ≡ false → has_below t (node t n).place ≡ false
file_empty t tree n linked other = at (has_below t (node t n).place) refl
  where
    at : (b : Bool) → has_below t (node t n).place ≡ b → b ≡ false
    at false is = refl
    at true is =
        let d : Directory t (node t n).place = below_directory t tree (node t n).place is in
        let same : d.number ≡ n = tree.apart d.number n d.linked linked d.place in
        let no : is_dir (node t n).kind ≡ true = ap (λ k. is_dir (node t k).kind) (sym same) ∙ ap is_dir d.kind in
        absurd cc
