-- What the links say of children, parents and what lies below a node.
use Rattle.std.proofs.Common.{◌≡◌, ℕ, zero, suc, ◌<◌, ◌≤◌, ◌+◌, ◌⊎◌, inl, inr, List, [], ◌∷◌, Bool, true, false, Option, Some, None, length, ap, sym, ◌∙◌, refl, arith}
use Rattle.std.specs.Prelude.{◌≢◌, ◌&&◌, not}
use Rattle.std.proofs.lemmas.Bool.{cases_Bool, both_ways, false_from_ne_true}
use Rattle.std.proofs.lemmas.List.{get_or_past}
use Rattle.file_tree.specs.Places.{at_name, above, begins, same_place}
use Rattle.file_tree.specs.Nodes.{Node, node, node_at, child_of, parent_of, has_below, lies_below}
use Rattle.file_tree.specs.WellFormed.{IsTree}
use Rattle.file_tree.proofs.NodeLaws.{linked_there, any_found, any_at}
use Rattle.file_tree.proofs.PlaceLaws.{at_name_length, above_at_name, rest_same, same_place_is, begins_longer, begins_above_other, begins_trans, begins_append}
use Rattle.file_tree.proofs.TreeLaws.{Child, child_is, child_by_place, node_at_its_place, parent_above}
use Rattle.file_tree.proofs.KeptByRemove.{lies_in}
use Rattle.link_tree.specs.Links.{Standing, Root, In, Out, TreeEntry, tree_entry, no_tree_entry, holder, StandFits, Fits, IsFiled}

-- what stands in a directory is a node of the list
pub stand_there : (ls : List TreeEntry) (n d : ℕ) (name : List ℕ) → (tree_entry ls n).stand ≡ In d name → n < length ls
stand_there ls n d name h = by_past (λ past. ap (λ (l : TreeEntry). l.stand) (get_or_past ls n no_tree_entry past))
  where
    by_past : (length ls ≤ n → (tree_entry ls n).stand ≡ Out []) → n < length ls
    by_past out = Prim.grind arith

pub at_name_same : (p q : List (List ℕ)) (x y : List ℕ) → at_name p x ≡ at_name q y → (p ≡ q) × (x ≡ y)
at_name_same p q x y h =
    let places : p ≡ q = sym (above_at_name p x) ∙ ap above h ∙ above_at_name q y in
    let tails : x ∷ [] ≡ y ∷ [] = rest_same q (x ∷ []) (y ∷ []) (ap (λ r. at_name r x) (sym places) ∙ h) in
    (places, cc)

-- what the links say of a node that has a name in a directory
pub record Held (t : List Node) (n d : ℕ) (name : List ℕ) : Type 0 where
  pub there : n < length t
  pub linked : (node t n).linked ≡ true
  pub holder : (node t d).linked ≡ true
  pub place : (node t n).place ≡ at_name (node t d).place name

pub held : (t : List Node) (ls : List TreeEntry) (n d : ℕ) (name : List ℕ) → Fits ls t → (tree_entry ls n).stand ≡ In d name → Held t n d name
held t ls n d name fits h =
    let there : n < length t = omega (arith, stand_there ls n d name h, fits.count) in
    let fit : StandFits t (In d name) (node t n) = rw h at (fits.each n there).stand in
    record { there = there; linked = fit.0; holder = fit.1; place = fit.2 }

-- a linked node but the root has a name in a directory
pub stand_of : (t : List Node) (ls : List TreeEntry) (n : ℕ) → Fits ls t → (node t n).linked ≡ true → ((node t n).place ≡ []) ⊎ ((d : ℕ) × (name : List ℕ) × ((tree_entry ls n).stand ≡ In d name))
stand_of t ls n fits linked = by_stand (tree_entry ls n).stand refl (fits.each n (linked_there t n linked)).stand
  where
    by_stand : (s : Standing) → (tree_entry ls n).stand ≡ s → StandFits t s (node t n) → ((node t n).place ≡ []) ⊎ ((d : ℕ) × (name : List ℕ) × ((tree_entry ls n).stand ≡ In d name))
    by_stand Root is h = inl h.1
    by_stand (In d name) is h = inr (d, name, is)
    by_stand (Out p) is h = absurd (both_ways _ h.0 linked)

lies_parts : (p : List (List ℕ)) (m : Node) → lies_below p m ≡ true → (m.linked ≡ true) × (begins p m.place ≡ true) × (same_place p m.place ≡ false)
lies_parts p m is = split m.linked (begins p m.place) (same_place p m.place) is
  where
    split : (a b c : Bool) → (a && b && not c) ≡ true → (a ≡ true) × (b ≡ true) × (c ≡ false)
    split true true true is = absurd cc
    split true true false is = (refl, refl, refl)
    split true false c is = absurd cc
    split false b c is = absurd cc

module _ (t : List Node) (ls : List TreeEntry) (tree : IsTree t) (fits : Fits ls t) (filed : IsFiled ls) where
  -- a node that the tree has in a directory is filed there
  pub filed_child : (d n : ℕ) (name : List ℕ) → Child t d name n → (tree_entry ls d).child name ≡ Some n
  filed_child d n name child = by_stand (stand_of t ls n fits child.linked)
    where
      by_stand : ((node t n).place ≡ []) ⊎ ((e : ℕ) × (other : List ℕ) × ((tree_entry ls n).stand ≡ In e other)) → (tree_entry ls d).child name ≡ Some n
      by_stand (inl root) =
          let count : 0 ≡ length (node t d).place + 1 = ap length (sym root ∙ child.place) ∙ at_name_length (node t d).place name in
          absurd (omega arith)
      by_stand (inr (e, other, is)) =
          let h = held t ls n e other fits is in
          let same = at_name_same (node t e).place (node t d).place other name (sym h.place ∙ child.place) in
          let number : e ≡ d = tree.apart e d h.holder child.holder same.0 in
          filed.named n d name (is ∙ ap (λ k. In k other) number ∙ ap (In d) same.1)

  -- the child of a name is what the links file under it
  pub child_linked : (d : ℕ) (name : List ℕ) → child_of t d name ≡ (tree_entry ls d).child name
  child_linked d name = by_filed ((tree_entry ls d).child name) refl (child_of t d name) refl
    where
      by_filed : (o : Option ℕ) → (tree_entry ls d).child name ≡ o → (u : Option ℕ) → child_of t d name ≡ u → child_of t d name ≡ (tree_entry ls d).child name
      by_filed (Some n) is u found =
          let h = held t ls n d name fits (filed.holds d name n is) in
          child_by_place t d name h.holder ∙ ap (node_at t) (sym h.place) ∙ node_at_its_place t n tree h.linked ∙ sym is
      by_filed None is None found = found ∙ sym is
      by_filed None is (Some n) found = let no : None ≡ Some n = sym is ∙ filed_child d n name (child_is t d name n found) in cc

  -- so is what holds a node
  pub parent_linked : (n : ℕ) → n < length t → parent_of t n ≡ holder (tree_entry ls n).stand
  unfolding parent_of
  parent_linked n there = by_stand (tree_entry ls n).stand refl (fits.each n there).stand
    where
      by_stand : (s : Standing) → (tree_entry ls n).stand ≡ s → StandFits t s (node t n) → parent_of t n ≡ holder s
      by_stand Root is h = rw (h.0, h.1) refl
      by_stand (In d name) is h =
          let count : length (node t n).place ≡ length (node t d).place + 1 = ap length h.2 ∙ at_name_length (node t d).place name in
          parent_above t n h.0 (omega arith) ∙ ap (λ p. node_at t (above p)) h.2 ∙ ap (node_at t) (above_at_name (node t d).place name) ∙ node_at_its_place t d tree h.1
      by_stand (Out p) is h = rw h.0 refl

  -- a node in a directory lies below it
  pub child_below : (n d : ℕ) (name : List ℕ) → (tree_entry ls n).stand ≡ In d name → has_below t (node t d).place ≡ true
  child_below n d name is =
      let h = held t ls n d name fits is in
      let count : length (node t n).place ≡ length (node t d).place + 1 = ap length h.place ∙ at_name_length (node t d).place name in
      let up : (node t d).place ≡ above (node t n).place = sym (ap above h.place ∙ above_at_name (node t d).place name) in
      any_at (lies_below (node t d).place) t n refl (lies_in (node t d).place (node t n) h.linked (omega arith) up)

  -- where something lies below a node, some node has a name in it
  child_on_way : (d : ℕ) → (node t d).linked ≡ true → (most n : ℕ) → (node t n).linked ≡ true → begins (node t d).place (node t n).place ≡ true → same_place (node t d).place (node t n).place ≡ false
      → length (node t n).place ≤ most → (k : ℕ) × (name : List ℕ) × ((tree_entry ls k).stand ≡ In d name)
  child_on_way d linked zero n is front other less = let longer : length (node t d).place < length (node t n).place = begins_longer _ _ front other in absurd (omega arith)
  child_on_way d linked (suc most) n is front other less = by_stand (stand_of t ls n fits is) (child_on_way d linked most)
    where
      by_stand : ((node t n).place ≡ []) ⊎ ((e : ℕ) × (name : List ℕ) × ((tree_entry ls n).stand ≡ In e name))
          → ((m : ℕ) → (node t m).linked ≡ true → begins (node t d).place (node t m).place ≡ true →
          same_place (node t d).place (node t m).place ≡ false → length (node t m).place ≤ most →
          (k : ℕ) × (name : List ℕ) × ((tree_entry ls k).stand ≡ In d name))
          → (k : ℕ) × (name : List ℕ) × ((tree_entry ls k).stand ≡ In d name)
      by_stand (inl root) up =
          let longer : length (node t d).place < length (node t n).place = begins_longer _ _ front other in
          let none : length (node t n).place ≡ 0 = ap length root in absurd (omega arith)
      by_stand (inr (e, name, stand)) up = by_place (cases_Bool (same_place (node t d).place (node t e).place))
        where
          h : Held t n e name
          h = held t ls n e name fits stand

          by_place : (same_place (node t d).place (node t e).place ≡ true) ⊎ (same_place (node t d).place (node t e).place ≡ false) → (k : ℕ) × (name : List ℕ) × ((tree_entry ls k).stand ≡ In d name)
          by_place (inl same) =
              let number : e ≡ d = tree.apart e d h.holder linked (sym (same_place_is _ _ same)) in
              (n, name, stand ∙ ap (λ k. In k name) number)
          by_place (inr apart) =
              let higher : begins (node t d).place (node t e).place ≡ true = rw (← above_at_name (node t e).place name, ← h.place) (begins_above_other (node t d).place (node t n).place front other) in
              let count : length (node t n).place ≡ length (node t e).place + 1 = ap length h.place ∙ at_name_length (node t e).place name in
              up e h.holder higher apart (omega arith)

  -- below a linked node that holds nothing lies nothing
  pub bare_below : (d : ℕ) → (node t d).linked ≡ true → ((name : List ℕ) → (tree_entry ls d).child name ≡ None) → has_below t (node t d).place ≡ false
  bare_below d linked bare = by_below (has_below t (node t d).place) refl
    where
      by_below : (b : Bool) → has_below t (node t d).place ≡ b → b ≡ false
      by_below false is = refl
      by_below true is =
          let found = any_found (lies_below (node t d).place) t is in
          let parts = lies_parts (node t d).place (node t found.0) found.1 in
          let child = child_on_way d linked (length (node t found.0).place) found.0 parts.0 parts.1 parts.2 (omega arith) in
          absurd (no_child_here child.0 child.1 child.2)
        where
          no_child_here : (k : ℕ) (name : List ℕ) → (tree_entry ls k).stand ≡ In d name → ⊥
          no_child_here k name is = let none : None ≡ Some k = sym (bare name) ∙ filed.named k d name is in cc

-- a node lies at or above another one exactly if it is that one, or lies at or above what holds it
pub above_holder : (t : List Node) (ls : List TreeEntry) (n d e : ℕ) (name : List ℕ) → IsTree t → Fits ls t → (node t n).linked ≡ true → n ≢ d → (tree_entry ls d).stand ≡ In e name
    → begins (node t n).place (node t e).place ≡ begins (node t n).place (node t d).place
above_holder t ls n d e name tree fits linked apart is = by_cases (cases_Bool (begins (node t n).place (node t e).place)) (cases_Bool (begins (node t n).place (node t d).place))
  where
    h : Held t d e name
    h = held t ls d e name fits is

    up : begins (node t n).place (node t d).place ≡ true → begins (node t n).place (node t e).place ≡ true
    up front =
        let other : same_place (node t n).place (node t d).place ≡ false = false_from_ne_true _ (λ at. apart (tree.apart n d linked h.linked (same_place_is _ _ at))) in
        rw (← above_at_name (node t e).place name, ← h.place) (begins_above_other (node t n).place (node t d).place front other)

    down : begins (node t n).place (node t e).place ≡ true → begins (node t n).place (node t d).place ≡ true
    down front = rw h.place (begins_trans (node t n).place (node t e).place (at_name (node t e).place name) front (begins_append (node t e).place (name ∷ [])))

    by_cases : (begins (node t n).place (node t e).place ≡ true) ⊎ (begins (node t n).place (node t e).place ≡ false)
        → (begins (node t n).place (node t d).place ≡ true) ⊎ (begins (node t n).place (node t d).place ≡ false) → begins (node t n).place (node t e).place ≡ begins (node t n).place (node t d).place
    by_cases (inl a) b = a ∙ sym (down a)
    by_cases (inr a) (inl b) = up b ∙ sym b
    by_cases (inr a) (inr b) = a ∙ sym b
