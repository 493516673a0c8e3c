-- A list that is a tree stays one when a node is renamed. This is of the lists alone.
use Rattle.std.proofs.Common.{◌≡◌, ℕ, ◌<◌, ◌⊎◌, inl, inr, List, [], ◌∷◌, ◌++◌, Bool, true, false, Option, Some, None, length, drop, map, ap, sym, ◌∙◌, refl, arith, cond}
use Rattle.std.proofs.Common.{length-drop, subst, append-nil}
use Rattle.std.specs.Prelude.{not, ◌&&◌}
use Rattle.std.specs.List.{list_all}
use Rattle.std.specs.Cmp.Derive.{both_true}
use Rattle.std.proofs.lemmas.List.{length-map}
use Rattle.std.proofs.Math.ListN.{get_or-map}
use Rattle.std.proofs.Math.Seq.{drop-append_seam, drop-length}
use Rattle.std.proofs.lemmas.Bool.{and_parts, both_ways, not-false, cases_Bool, cond_both, false_from_ne_true}
use Rattle.file_tree.specs.Places.{is_file_name, same_place, begins, at_name, above}
use Rattle.file_tree.specs.Nodes.{Dir, Node, node, nowhere, stands_at, lies_below, has_below}
use Rattle.file_tree.specs.Changes.{unlinked, moved, replaced_at, renamed}
use Rattle.file_tree.specs.Refusals.{ChangeFault, NotEmpty, IntoItself, Gone, rename_fault}
use Rattle.file_tree.specs.WellFormed.{IsTree, has_parent, is_within_limits}
use Rattle.file_tree.proofs.PlaceLaws.{same_place_is, begins_is, begins_from, begins_trans, begins_above, begins_above_other, begins_append, begins_longer, rest_same, above_append}
use Rattle.file_tree.proofs.PlaceLaws.{above_at_name, at_name_length}
use Rattle.file_tree.proofs.NodeLaws.{none_at, Directory, held_above, held_from, passed}
use Rattle.file_tree.proofs.KeptByCreate.{Limits, limits_of, limits_from, same_directory, all_of_both, all_after, names_kept}

-- what may be renamed: a linked node into a linked directory, to its own place, or to one that isn't below it
-- and below which there is nothing
pub record MayMove (t : List Node) (n d : ℕ) (to : List (List ℕ)) : Type 0 where
  pub linked : (node t n).linked ≡ true
  pub dir_linked : (node t d).linked ≡ true
  pub apart : begins (node t n).place to ≡ false
  pub empty : has_below t to ≡ false

pub both_or : (a b : Bool) → not (a && b) ≡ false → (a ≡ true) × (b ≡ true)
both_or a b h = and_parts a b (not-false (a && b) h)

skipped : (b : Bool) (rest : Option ChangeFault) → b ≡ false → cond b None rest ≡ None → rest ≡ None
skipped true rest h g = cc
skipped false rest h g = g

pub may_rename : (t : List Node) (n d : ℕ) (name : List ℕ) → rename_fault t n d name ≡ None →
    same_place (at_name (node t d).place name) (node t n).place ≡ false → MayMove t n d (at_name (node t d).place name)
unfolding rename_fault
may_rename t n d name h other =
    let to = at_name (node t d).place name in
    let over : Option ChangeFault = cond (has_below t to) (Some NotEmpty) None in
    let into : Option ChangeFault = cond (begins (node t n).place to) (Some IntoItself) over in
    let elsewhere : Option ChangeFault = cond (same_place to (node t n).place) None into in
    let first = passed (not ((node t n).linked && (node t d).linked)) Gone elsewhere h in
    let linked = both_or (node t n).linked (node t d).linked first.0 in
    let second = passed (begins (node t n).place to) IntoItself over (skipped (same_place to (node t n).place) into other first.1) in
    let third = passed (has_below t to) NotEmpty None second.1 in
    record { linked = linked.0; dir_linked = linked.1; apart = second.0; empty = third.0 }

pub and_no : (a : Bool) {b : Bool} → b ≡ false → (a && b) ≡ false
and_no true h = h
and_no false h = refl

-- what becomes of one node
module _ (p q : List (List ℕ)) (m : Node) where
  pub replaced : stands_at q m ≡ true → moved p q (replaced_at q m) ≡ unlinked m
  replaced at = rw at refl

  pub not_replaced : stands_at q m ≡ false → replaced_at q m ≡ m
  not_replaced off = rw off refl

  pub is_moved : stands_at q m ≡ false → (m.linked && begins p m.place) ≡ true →
      moved p q (replaced_at q m) ≡ record { kind = m.kind; place = q ++ drop (length p) m.place; linked = m.linked; content = m.content }
  is_moved off front = ap (moved p q) (not_replaced off) ∙ (rw front refl)

  pub is_kept : stands_at q m ≡ false → (m.linked && begins p m.place) ≡ false → moved p q (replaced_at q m) ≡ m
  is_kept off back = ap (moved p q) (not_replaced off) ∙ (rw back refl)

  pub unaffected : same_place q m.place ≡ false → begins p m.place ≡ false → moved p q (replaced_at q m) ≡ m
  unaffected off back = is_kept (and_no m.linked off) (and_no m.linked back)

-- a linked node after a rename from p to q: the node before was linked and not at q, and it was moved or stayed
record Still (p q : List (List ℕ)) (before after : Node) : Type 0 where
  linked : before.linked ≡ true
  elsewhere : same_place q before.place ≡ false
  place : ((begins p before.place ≡ true) × (after.place ≡ q ++ drop (length p) before.place)) ⊎ ((begins p before.place ≡ false) × (after.place ≡ before.place))

still : (p q : List (List ℕ)) (m : Node) → (moved p q (replaced_at q m)).linked ≡ true → Still p q m (moved p q (replaced_at q m))
still p q m linked = by_cases (cases_Bool m.linked) (cases_Bool (same_place q m.place)) (cases_Bool (begins p m.place))
  where
    unlink : {x : Node} → moved p q (replaced_at q m) ≡ x → x.linked ≡ false → ⊥
    unlink is gone = both_ways (moved p q (replaced_at q m)).linked (ap (λ (y : Node). y.linked) is ∙ gone) linked

    by_cases : (m.linked ≡ true) ⊎ (m.linked ≡ false) → (same_place q m.place ≡ true) ⊎ (same_place q m.place ≡ false) →
        (begins p m.place ≡ true) ⊎ (begins p m.place ≡ false) → Still p q m (moved p q (replaced_at q m))
    by_cases (inr gone) at front = absurd (unlink (is_kept p q m (rw gone refl) (rw gone refl)) gone)
    by_cases (inl there) (inl at) front = absurd (unlink (replaced p q m (both_true there at)) refl)
    by_cases (inl there) (inr off) (inl front) = record {
      linked = there;
      elsewhere = off;
      place = inl (front, ap (λ (x : Node). x.place) (is_moved p q m (and_no m.linked off) (both_true there front)));
    }
    by_cases (inl there) (inr off) (inr back) = record {
      linked = there;
      elsewhere = off;
      place = inr (back, ap (λ (x : Node). x.place) (unaffected p q m off back));
    }

-- a node keeps its limits
moved_limits : (p q : List (List ℕ)) (m : Node) → list_all is_file_name q ≡ true → is_within_limits m ≡ true → is_within_limits (moved p q (replaced_at q m)) ≡ true
moved_limits p q m names h = by_cases (cases_Bool (stands_at q m)) (cases_Bool (m.linked && begins p m.place))
  where
    old : Limits m
    old = limits_of m h

    by_cases : (stands_at q m ≡ true) ⊎ (stands_at q m ≡ false) → ((m.linked && begins p m.place) ≡ true) ⊎ ((m.linked && begins p m.place) ≡ false) →
        is_within_limits (moved p q (replaced_at q m)) ≡ true
    by_cases (inl at) front = ap is_within_limits (replaced p q m at) ∙ limits_from (unlinked m) (record { names = old.names; content = old.content; bytes = old.bytes })
    by_cases (inr off) (inl front) =
        let there : Node = record { kind = m.kind; place = q ++ drop (length p) m.place; linked = m.linked; content = m.content } in
        ap is_within_limits (is_moved p q m off front)
        ∙ limits_from there (record {
          names = all_of_both is_file_name q (drop (length p) m.place) names
              (all_after is_file_name (length p) m.place old.names);
          content = old.content;
          bytes = old.bytes;
        })
    by_cases (inr off) (inr back) = ap is_within_limits (is_kept p q m off back) ∙ h

-- the tree after a rename, node by node
after : List Node → List (List ℕ) → List (List ℕ) → List Node
after t p q = map (λ m. moved p q (replaced_at q m)) t

after_node : (t : List Node) (p q : List (List ℕ)) (k : ℕ) → node (after t p q) k ≡ moved p q (replaced_at q (node t k))
unfolding after
after_node t p q k = get_or-map (λ m. moved p q (replaced_at q m)) t k nowhere

after_length : (t : List Node) (p q : List (List ℕ)) → length (after t p q) ≡ length t
unfolding after
after_length t p q = length-map t (λ m. moved p q (replaced_at q m))

still_at : (t : List Node) (p q : List (List ℕ)) (k : ℕ) → (node (after t p q) k).linked ≡ true → Still p q (node t k) (node (after t p q) k)
still_at t p q k linked =
    let P : Node → Type 0 = λ x. x.linked ≡ true → Still p q (node t k) x in
    subst P (sym (after_node t p q k)) (still p q (node t k)) linked

unaffected_at : (t : List Node) (p q : List (List ℕ)) (k : ℕ) → same_place q (node t k).place ≡ false → begins p (node t k).place ≡ false → node (after t p q) k ≡ node t k
unaffected_at t p q k off back = after_node t p q k ∙ unaffected p q (node t k) off back

-- the directory that stays, and the one that moves
directory_stays : (t : List Node) (p q s : List (List ℕ)) → Directory t s → same_place q s ≡ false → begins p s ≡ false → Directory (after t p q) s
directory_stays t p q s d off back =
    same_directory t (after t p q) s d (unaffected_at t p q d.number (rw d.place off) (rw d.place back))

directory_moves : (t : List Node) (p q s : List (List ℕ)) → Directory t s → same_place q s ≡ false → begins p s ≡ true → Directory (after t p q) (q ++ drop (length p) s)
directory_moves t p q s d off front =
    let place_off : stands_at q (node t d.number) ≡ false = and_no (node t d.number).linked (rw d.place off) in
    let moves : ((node t d.number).linked && begins p (node t d.number).place) ≡ true = both_true d.linked (rw d.place front) in
    let is = after_node t p q d.number ∙ is_moved p q (node t d.number) place_off moves in
    record {
      number = d.number;
      linked = ap (λ (x : Node). x.linked) is ∙ d.linked;
      kind = ap (λ (x : Node). x.kind) is ∙ d.kind;
      place = ap (λ (x : Node). x.place) is ∙ ap (λ r. q ++ drop (length p) r) d.place;
    }

-- With nothing below q, no linked node that isn't at q begins with q.
pub nothing_in : (t : List Node) (q : List (List ℕ)) → has_below t q ≡ false → (k : ℕ) → (node t k).linked ≡ true → same_place q (node t k).place ≡ false → begins q (node t k).place ≡ true → ⊥
nothing_in t q empty k linked off front =
    let below : lies_below q (node t k) ≡ true = both_true (both_true linked front) (rw off refl) in
    both_ways (lies_below q (node t k)) (none_at (lies_below q) t k refl empty) below

-- what is behind the front of a place that moves and isn't the place itself
rest_above : (p s : List (List ℕ)) → begins p s ≡ true → same_place p s ≡ false → (0 < length (drop (length p) s)) × (drop (length p) (above s) ≡ above (drop (length p) s))
rest_above p s front other =
    let some : 0 < length (drop (length p) s) = omega (arith, length-drop (length p) s, begins_longer p s front other) in
    let is : above s ≡ p ++ above (drop (length p) s) = ap above (begins_is p s front) ∙ above_append p (drop (length p) s) some in
    (some, ap (drop (length p)) is ∙ drop-append_seam p (above (drop (length p) s)))

module _ (t : List Node) (n d : ℕ) (name : List ℕ) (tree : IsTree t) (directory : (node t d).kind ≡ Dir) (may : MayMove t n d (at_name (node t d).place name)) where
  -- the root and the directory stay
  pub below_root : begins (node t n).place [] ≡ false
  below_root = false_from_ne_true _ (λ h. both_ways _ may.apart (begins_trans (node t n).place [] (at_name (node t d).place name) h refl))

  root_stays : node (after t (node t n).place (at_name (node t d).place name)) 0 ≡ node t 0
  root_stays =
      let off : same_place (at_name (node t d).place name) [] ≡ false = false_from_ne_true _ (λ h.
      let same : at_name (node t d).place name ≡ [] = same_place_is _ _ h in
      let none : length (at_name (node t d).place name) ≡ 0 = ap length same in
      absurd (omega (arith, at_name_length (node t d).place name)))
      in unaffected_at t (node t n).place (at_name (node t d).place name) 0 (rw tree.root_place off) (rw tree.root_place below_root)

  target_stays : Directory (after t (node t n).place (at_name (node t d).place name)) (node t d).place
  target_stays =
      let it : Directory t (node t d).place = record { number = d; linked = may.dir_linked; kind = directory; place = refl } in
      let off : same_place (at_name (node t d).place name) (node t d).place ≡ false = false_from_ne_true _ (λ h.
      let same : length (at_name (node t d).place name) ≡ length (node t d).place = ap length (same_place_is _ _ h) in
      absurd (omega (arith, at_name_length (node t d).place name)))
      in
      let back : begins (node t n).place (node t d).place ≡ false = false_from_ne_true _ (λ h.
      both_ways _ may.apart (begins_trans (node t n).place (node t d).place (at_name (node t d).place name) h (begins_append (node t d).place (name ∷ []))))
      in directory_stays t (node t n).place (at_name (node t d).place name) (node t d).place it off back

module _ (t : List Node) (p q : List (List ℕ)) (tree : IsTree t) (apart : begins p q ≡ false) (empty : has_below t q ≡ false) where
  -- what moved stands nowhere where something stays
  not_met : (i j : ℕ) → Still p q (node t j) (node (after t p q) j) → (node t j).place ≡ q ++ drop (length p) (node t i).place → ⊥
  not_met i j still_j same = nothing_in t q empty j still_j.linked still_j.elsewhere (begins_from q (node t j).place (drop (length p) (node t i).place) same)

  apart_after : (i j : ℕ) → (node (after t p q) i).linked ≡ true → (node (after t p q) j).linked ≡ true → (node (after t p q) i).place ≡ (node (after t p q) j).place → i ≡ j
  apart_after i j linked_i linked_j same = by_cases (still_at t p q i linked_i).place (still_at t p q j linked_j).place
    where
      by_cases : ((begins p (node t i).place ≡ true) × ((node (after t p q) i).place ≡ q ++ drop (length p) (node t i).place))
          ⊎ ((begins p (node t i).place ≡ false) × ((node (after t p q) i).place ≡ (node t i).place)) →
          ((begins p (node t j).place ≡ true) × ((node (after t p q) j).place ≡ q ++ drop (length p) (node t j).place))
          ⊎ ((begins p (node t j).place ≡ false) × ((node (after t p q) j).place ≡ (node t j).place)) → i ≡ j
      by_cases (inl a) (inl b) =
          let rest : drop (length p) (node t i).place ≡ drop (length p) (node t j).place = rest_same q _ _ (sym a.1 ∙ same ∙ b.1) in
          let place : (node t i).place ≡ (node t j).place = begins_is p _ a.0 ∙ ap (λ r. p ++ r) rest ∙ sym (begins_is p _ b.0) in
          tree.apart i j (still_at t p q i linked_i).linked (still_at t p q j linked_j).linked place
      by_cases (inl a) (inr b) = absurd (not_met i j (still_at t p q j linked_j) (sym b.1 ∙ sym same ∙ a.1))
      by_cases (inr a) (inl b) = absurd (not_met j i (still_at t p q i linked_i) (sym a.1 ∙ same ∙ b.1))
      by_cases (inr a) (inr b) = tree.apart i j (still_at t p q i linked_i).linked (still_at t p q j linked_j).linked (sym a.1 ∙ same ∙ b.1)

  -- a node that stays is held by the directory that held it
  held_staying : (k : ℕ) → Still p q (node t k) (node (after t p q) k) → begins p (node t k).place ≡ false → 0 < length (node t k).place → Directory (after t p q) (above (node t k).place)
  held_staying k was back low =
      let d = held_above t (node t k).place (tree.held k was.linked) low in
      let off : same_place q (above (node t k).place) ≡ false = false_from_ne_true _ (λ h.
      let at : q ≡ above (node t k).place = same_place_is _ _ h in
      nothing_in t q empty k was.linked was.elsewhere (rw at (begins_above (node t k).place)))
      in
      let above_back : begins p (above (node t k).place) ≡ false = false_from_ne_true _ (λ h.
      both_ways _ back (begins_trans p (above (node t k).place) (node t k).place h (begins_above (node t k).place)))
      in directory_stays t p q (above (node t k).place) d off above_back

  -- a node that moves, but for the one at the top, is held by the moved directory
  held_moving : (k : ℕ) → Still p q (node t k) (node (after t p q) k) → begins p (node t k).place ≡ true → same_place p (node t k).place ≡ false →
      Directory (after t p q) (above (q ++ drop (length p) (node t k).place))
  held_moving k was front other =
      let longer : length p < length (node t k).place = begins_longer p (node t k).place front other in
      let low : 0 < length (node t k).place = omega arith in
      let d = held_above t (node t k).place (tree.held k was.linked) low in
      let front_above : begins p (above (node t k).place) ≡ true = begins_above_other p (node t k).place front other in
      let off : same_place q (above (node t k).place) ≡ false = false_from_ne_true _ (λ h.
      both_ways _ apart (rw (same_place_is q (above (node t k).place) h) front_above))
      in
      let rest = rest_above p (node t k).place front other in
      let place : above (q ++ drop (length p) (node t k).place) ≡ q ++ drop (length p) (above (node t k).place) = above_append q _ rest.0 ∙ ap (λ r. q ++ r) (sym rest.1) in
      rw place (directory_moves t p q (above (node t k).place) d off front_above)

  held_after : Directory (after t p q) (above q) → (k : ℕ) → (node (after t p q) k).linked ≡ true → has_parent (after t p q) (node (after t p q) k).place ≡ true
  held_after top k linked = by_cases (still_at t p q k linked).place (cases_Bool (same_place p (node t k).place))
    where
      was : Still p q (node t k) (node (after t p q) k)
      was = still_at t p q k linked

      by_cases : ((begins p (node t k).place ≡ true) × ((node (after t p q) k).place ≡ q ++ drop (length p) (node t k).place))
          ⊎ ((begins p (node t k).place ≡ false) × ((node (after t p q) k).place ≡ (node t k).place)) →
          (same_place p (node t k).place ≡ true) ⊎ (same_place p (node t k).place ≡ false) →
          has_parent (after t p q) (node (after t p q) k).place ≡ true
      by_cases (inl a) (inl at) = rw (a.1, ← same_place_is p (node t k).place at, drop-length p, append-nil q) (held_from (after t p q) q (λ _. top))
      by_cases (inl a) (inr other) = rw a.1 (held_from (after t p q) (q ++ drop (length p) (node t k).place) (λ _. held_moving k was a.0 other))
      by_cases (inr a) at = rw a.1 (held_from (after t p q) (node t k).place (λ low. held_staying k was a.0 low))

moved_is_tree : (t : List Node) (n d : ℕ) (name : List ℕ) → IsTree t → (node t d).kind ≡ Dir → is_file_name name ≡ true →
    MayMove t n d (at_name (node t d).place name) → IsTree (after t (node t n).place (at_name (node t d).place name))
moved_is_tree t n d name tree directory named may =
    let from = (node t n).place in
    let to = at_name (node t d).place name in
    let root = root_stays t n d name tree directory may in
    let top : Directory (after t from to) (above to) = rw (above_at_name (node t d).place name) (target_stays t n d name tree directory may) in
    let names : list_all is_file_name to ≡ true = all_of_both is_file_name (node t d).place (name ∷ []) (names_kept t tree d may.dir_linked) (both_true named refl) in
    record {
      root_linked = ap (λ (x : Node). x.linked) root ∙ tree.root_linked;
      root_kind = ap (λ (x : Node). x.kind) root ∙ tree.root_kind;
      root_place = ap (λ (x : Node). x.place) root ∙ tree.root_place;
      apart = apart_after t from to tree may.apart may.empty;
      held = held_after t from to tree may.apart may.empty top;
      few = omega (arith, after_length t from to, tree.few);
      limits = λ k there. ap is_within_limits (after_node t from to k) ∙ moved_limits from to (node t k) names (tree.limits k (omega (arith, after_length t from to)));
    }

pub renamed_is_tree : (t : List Node) (n d : ℕ) (name : List ℕ) → IsTree t → (node t d).kind ≡ Dir → is_file_name name ≡ true →
    rename_fault t n d name ≡ None → IsTree (renamed t n (at_name (node t d).place name))
unfolding after
renamed_is_tree t n d name tree directory named allowed =
    cond_both (same_place (at_name (node t d).place name) (node t n).place) t (after t (node t n).place (at_name (node t d).place name)) IsTree
    (λ own. tree)
    (λ other. moved_is_tree t n d name tree directory named (may_rename t n d name allowed other))
