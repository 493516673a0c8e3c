-- Links fit one tree at most: the places that one finds by going up are those of any tree that the links fit.
use Rattle.std.proofs.Common.{◌≡◌, ℕ, zero, suc, ◌<◌, ◌≤◌, ◌+◌, ◌⊎◌, inl, inr, List, [], ◌∷◌, true, false, length, ap, sym, ◌∙◌, refl, subst, arith, eqb}
use Rattle.std.specs.List.{list_any, IsDistinct, AllByRecursion}
use Rattle.std.proofs.lemmas.Bool.{cases_Bool}
use Rattle.std.proofs.lemmas.Bool.Decides.{eqb_tells}
use Rattle.std.proofs.lemmas.List.{ext_get_or, get_or-map, length-map}
use Rattle.std.proofs.lemmas.Map.Keys.{IsDistinct-cons}
use Rattle.std.proofs.lemmas.Map.Steps.{length-le_from_distinct_below}
use Rattle.file_tree.specs.Places.{at_name, above}
use Rattle.file_tree.specs.Nodes.{Node, node, nowhere}
use Rattle.file_tree.specs.WellFormed.{IsTree}
use Rattle.file_tree.proofs.NodeLaws.{linked_there, held_above, Directory}
use Rattle.file_tree.proofs.PlaceLaws.{above_length, at_name_length}
use Rattle.link_tree.specs.Links.{Standing, Root, In, Out, TreeEntry, tree_entry, no_tree_entry, is_in, place_up, linked_node, linked_nodes, StandFits, Fits, IsFiled, IsLinkedTree}

-- a node and all that hold it: numbers of the tree, no two the same, none of them deeper than the node
record Chain (t : List Node) (depth : ℕ) : Type 0 where
  numbers : List ℕ
  count : length numbers ≡ suc depth
  apart : IsDistinct eqb numbers
  within : (q : ℕ) → list_any (eqb q) numbers ≡ true → (q < length t) × (length (node t q).place ≤ depth)

all_apart : (n : ℕ) (ns : List ℕ) → ((q : ℕ) → list_any (eqb q) ns ≡ true → eqb n q ≡ false) → AllByRecursion (λ q. eqb n q ≡ false) ns
all_apart n [] h = tt
all_apart n (m ∷ ns) h = (h m (here m ns), all_apart n ns (λ q is. h q (there q m ns is)))
  where
    here : (m : ℕ) (ns : List ℕ) → list_any (eqb m) (m ∷ ns) ≡ true
    here m ns = elim (eqb_tells m m) [ inl same ↦ rw same.0 refl | inr other ↦ absurd (other.1 refl) ]

    there : (q m : ℕ) (ns : List ℕ) → list_any (eqb q) ns ≡ true → list_any (eqb q) (m ∷ ns) ≡ true
    there q m ns is = elim (cases_Bool (eqb q m)) [ inl same ↦ rw same refl | inr other ↦ rw other is ]

member_cases : (q n : ℕ) (ns : List ℕ) → list_any (eqb q) (n ∷ ns) ≡ true → (q ≡ n) ⊎ (list_any (eqb q) ns ≡ true)
member_cases q n ns h = elim (eqb_tells q n) [ inl same ↦ inl same.1 | inr other ↦ inr (rw other.0 at h) ]

chain : (t : List Node) → IsTree t → (depth n : ℕ) → (node t n).linked ≡ true → length (node t n).place ≡ depth → Chain t depth
unfolding IsDistinct
chain t tree zero n linked deep = record {
  numbers = n ∷ [];
  count = refl;
  apart = IsDistinct-cons eqb n [] tt tt;
  within = λ q is. elim (member_cases q n [] is) [ inl same ↦ (rw same (linked_there t n linked), rw same (omega arith)) | inr none ↦ absurd (let no : false ≡ true = none in cc) ];
}
chain t tree (suc depth) n linked deep = longer (chain t tree depth up.number up.linked shallow)
  where
    up : Directory t (above (node t n).place)
    up = held_above t (node t n).place (tree.held n linked) (omega arith)

    shallow : length (node t up.number).place ≡ depth
    shallow = ap length up.place ∙ above_length (node t n).place ∙ omega arith

    longer : Chain t depth → Chain t (suc depth)
    longer c = record {
      numbers = n ∷ c.numbers;
      count = ap suc c.count;
      apart = IsDistinct-cons eqb n c.numbers (all_apart n c.numbers (λ q is. other q (c.within q is).1)) c.apart;
      within = λ q is. elim (member_cases q n c.numbers is) [ inl same ↦ (rw same (linked_there t n linked), rw same (omega arith)) | inr more ↦ let w = c.within q more in (w.0, omega (arith, w.1)) ];
    }
      where
        other : (q : ℕ) → length (node t q).place ≤ depth → eqb n q ≡ false
        other q less = elim (eqb_tells n q) [
          | inr apart ↦ apart.0
          | inl same ↦ let equal : length (node t n).place ≡ length (node t q).place = ap
              (λ k. length (node t k).place) same.1 in absurd (omega arith)
        ]

-- no node lies as deep as there are nodes
pub place_short : (t : List Node) → IsTree t → (n : ℕ) → (node t n).linked ≡ true → length (node t n).place < length t
place_short t tree n linked =
    let c = chain t tree (length (node t n).place) n linked refl in
    let few : length c.numbers ≤ length t = length-le_from_distinct_below c.numbers (length t) c.apart (λ q is. (c.within q is).0) in
    let count = c.count in omega arith

-- going up from a node finds its place
climbs : (t : List Node) (ls : List TreeEntry) → Fits ls t → (fuel n : ℕ) → n < length t → length (node t n).place < fuel → place_up fuel ls (tree_entry ls n).stand ≡ (node t n).place
climbs t ls fits zero n there less = absurd (omega arith)
climbs t ls fits (suc fuel) n there less = by_stand (tree_entry ls n).stand (fits.each n there).stand (climbs t ls fits fuel)
  where
    by_stand : (s : Standing) → StandFits t s (node t n) →
        ((d : ℕ) → d < length t → length (node t d).place < fuel → place_up fuel ls (tree_entry ls d).stand ≡ (node t d).place) →
        place_up (suc fuel) ls s ≡ (node t n).place
    by_stand Root h up = sym h.1
    by_stand (In d name) h up =
        let count : length (node t n).place ≡ length (node t d).place + 1 = ap length h.2 ∙ at_name_length (node t d).place name in
        ap (λ p. at_name p name) (up d (linked_there t d h.1) (omega arith)) ∙ sym h.2
    by_stand (Out p) h up = sym h.1

stand_place : (t : List Node) (ls : List TreeEntry) (n : ℕ) → IsTree t → Fits ls t → n < length t → place_up (length ls) ls (tree_entry ls n).stand ≡ (node t n).place
stand_place t ls n tree fits there = by_stand (tree_entry ls n).stand refl (fits.each n there).stand
  where
    enough : (node t n).linked ≡ true → place_up (length ls) ls (tree_entry ls n).stand ≡ (node t n).place
    enough linked = rw fits.count (climbs t ls fits (length t) n there (place_short t tree n linked))

    some : (fuel : ℕ) (p : List (List ℕ)) → 0 < fuel → place_up fuel ls (Out p) ≡ p
    some zero p h = absurd (omega arith)
    some (suc fuel) p h = refl

    by_stand : (s : Standing) → (tree_entry ls n).stand ≡ s → StandFits t s (node t n) → place_up (length ls) ls (tree_entry ls n).stand ≡ (node t n).place
    by_stand Root is h = enough h.0
    by_stand (In d name) is h = enough h.0
    by_stand (Out p) is h = let count = fits.count in rw is (some (length ls) p (omega arith)) ∙ sym h.1

-- a stand says whether its node is linked
pub stand_linked : (t : List Node) (s : Standing) (m : Node) → StandFits t s m → is_in s ≡ m.linked
stand_linked t Root m h = sym h.0
stand_linked t (In d name) m h = sym h.0
stand_linked t (Out p) m h = sym h.0

same_node : (a b : Node) → a.kind ≡ b.kind → a.place ≡ b.place → a.linked ≡ b.linked → a.content ≡ b.content → a ≡ b
same_node a b k p l c = λ i. record { kind = k i; place = p i; linked = l i; content = c i }

pub link_node : (t : List Node) (ls : List TreeEntry) (n : ℕ) → IsTree t → Fits ls t → n < length t → linked_node ls (tree_entry ls n) ≡ node t n
link_node t ls n tree fits there =
    let fit = fits.each n there in
    same_node (linked_node ls (tree_entry ls n)) (node t n) fit.kind (stand_place t ls n tree fits there) (stand_linked t (tree_entry ls n).stand (node t n) fit.stand) fit.content

pub only_tree : (t : List Node) (ls : List TreeEntry) → IsTree t → Fits ls t → linked_nodes ls ≡ t
unfolding linked_nodes
only_tree t ls tree fits =
    let count : length (linked_nodes ls) ≡ length t = length-map ls (linked_node ls) ∙ fits.count in
    ext_get_or nowhere (linked_nodes ls) t count (λ n there.
    let below : n < length t = omega arith in
    let known : n < length ls = let same = fits.count in omega arith in
    get_or-map (linked_node ls) ls n no_tree_entry nowhere known ∙ link_node t ls n tree fits below)

-- links that fit a tree, and are filed, are linked, and are that tree
pub is_linked : (t : List Node) (ls : List TreeEntry) → IsTree t → Fits ls t → IsFiled ls → IsLinkedTree ls × (linked_nodes ls ≡ t)
is_linked t ls tree fits filed =
    let same : linked_nodes ls ≡ t = only_tree t ls tree fits in
    let P : List Node → Type 0 = λ u. Fits ls u in
    (record { tree = rw same tree; fits = subst P (sym same) fits; filed = filed }, same)
