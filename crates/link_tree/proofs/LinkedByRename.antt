-- Links that fit a tree fit it after a node is renamed: one stand changes, and that of a node which stood there.
use Rattle.std.proofs.Common.{◌≡◌, ℕ, ◌<◌, ◌⊎◌, inl, inr, List, [], ◌∷◌, ◌++◌, true, false, Option, Some, None, length, drop, ap, sym, ◌∙◌, refl, arith, eqb, append_assoc, append-nil}
use Rattle.std.specs.Prelude.{◌≢◌, ◌&&◌}
use Rattle.std.specs.Cmp.Derive.{both_true}
use Rattle.std.proofs.lemmas.Bool.{both_ways, cases_Bool, false_from_ne_true}
use Rattle.std.proofs.lemmas.Bool.Decides.{eqb_tells}
use Rattle.std.proofs.lemmas.List.{drop-append-le}
use Rattle.std.proofs.Math.Seq.{drop-length}
use Rattle.file_tree.specs.Places.{at_name, begins, same_place}
use Rattle.file_tree.specs.Nodes.{Node, node, stands_at}
use Rattle.file_tree.specs.Changes.{moved, replaced_at, renamed}
use Rattle.file_tree.specs.WellFormed.{IsTree}
use Rattle.file_tree.proofs.NodeLaws.{linked_there}
use Rattle.file_tree.proofs.PlaceLaws.{same_place_is, same_place_from, begins_refl, begins_append, begins_trans, begins_length, begins_above_other, above_at_name, at_name_length}
use Rattle.file_tree.proofs.TreeLaws.{Child, renamed_length, renamed_node}
use Rattle.file_tree.proofs.KeptByRename.{MayMove, replaced, is_moved, is_kept, unaffected, and_no}
use Rattle.link_tree.specs.Links.{Standing, Root, In, Out, TreeEntry, tree_entry, StandFits, EntryFits, Fits, Filed, IsFiled}
use Rattle.link_tree.proofs.FiledLaws.{put, put2, slot_cases, filed_out, filed_same, filed_moved}
use Rattle.link_tree.proofs.LinkReads.{child_below, filed_child, held}
use Rattle.link_tree.proofs.LinkChanges.{Shows, put_other}

-- what a rename from p to q leaves of a node's kind and content
kind_stays : (p q : List (List ℕ)) (m : Node) → ((moved p q (replaced_at q m)).kind ≡ m.kind) × ((moved p q (replaced_at q m)).content ≡ m.content)
kind_stays p q m = by_cases (cases_Bool (stands_at q m)) (cases_Bool (m.linked && begins p m.place))
  where
    by_cases : (stands_at q m ≡ true) ⊎ (stands_at q m ≡ false) → ((m.linked && begins p m.place) ≡ true) ⊎ ((m.linked && begins p m.place) ≡ false)
        → ((moved p q (replaced_at q m)).kind ≡ m.kind) × ((moved p q (replaced_at q m)).content ≡ m.content)
    by_cases (inl at) front = let is = replaced p q m at in (ap (λ (x : Node). x.kind) is, ap (λ (x : Node). x.content) is)
    by_cases (inr off) (inl front) = let is = is_moved p q m off front in (ap (λ (x : Node). x.kind) is, ap (λ (x : Node). x.content) is)
    by_cases (inr off) (inr back) = let is = is_kept p q m off back in (ap (λ (x : Node). x.kind) is, ap (λ (x : Node). x.content) is)

module _ (t : List Node) (ls : List TreeEntry) (n d : ℕ) (name : List ℕ) (tree : IsTree t) (fits : Fits ls t) (is_filed : IsFiled ls) (may : MayMove t n d (at_name (node t d).place name))
    (elsewhere : same_place (at_name (node t d).place name) (node t n).place ≡ false) where
  p : List (List ℕ)
  p = (node t n).place

  q : List (List ℕ)
  q = at_name (node t d).place name

  after : (k : ℕ) → node (renamed t n q) k ≡ moved p q (replaced_at q (node t k))
  unfolding p q
  after k = renamed_node t n d name k elsewhere

  -- a linked node that isn't at the new place, and lies not below the old one, stays
  node_stays : (k : ℕ) → same_place q (node t k).place ≡ false → begins p (node t k).place ≡ false → node (renamed t n q) k ≡ node t k
  node_stays k off back = after k ∙ unaffected p q (node t k) off back

  -- and one that lies below the old one moves
  place_moves : (k : ℕ) → (node t k).linked ≡ true → same_place q (node t k).place ≡ false → begins p (node t k).place ≡ true
      → ((node (renamed t n q) k).linked ≡ true) × ((node (renamed t n q) k).place ≡ q ++ drop (length p) (node t k).place)
  place_moves k linked off front =
      let is = after k ∙ is_moved p q (node t k) (and_no (node t k).linked off) (both_true linked front) in
      (ap (λ (x : Node). x.linked) is ∙ linked, ap (λ (x : Node). x.place) is)

  -- what holds a node is not at the new place: nothing is below that
  holder_off : (k e : ℕ) (x : List ℕ) → (tree_entry ls k).stand ≡ In e x → same_place q (node t e).place ≡ false
  unfolding q
  holder_off k e x is = false_from_ne_true _ (λ at.
      let place : (node t e).place ≡ at_name (node t d).place name = sym (same_place_is _ _ at) in
      both_ways _ may.empty (rw (← place) (child_below t ls tree fits is_filed k e x is)))

  dir_off : same_place q (node t d).place ≡ false
  unfolding q
  dir_off = false_from_ne_true _ (λ at.
      let same : length (at_name (node t d).place name) ≡ length (node t d).place = ap length (same_place_is _ _ at) in
      absurd (omega (arith, at_name_length (node t d).place name)))

  dir_back : begins p (node t d).place ≡ false
  unfolding p
  dir_back = false_from_ne_true _ (λ h. both_ways _ may.apart (begins_trans (node t n).place (node t d).place (at_name (node t d).place name) h (begins_append (node t d).place (name ∷ []))))

  dir_stays : node (renamed t n q) d ≡ node t d
  dir_stays = node_stays d dir_off dir_back

  -- the node itself stands at the new place
  itself_fits : StandFits (renamed t n q) (In d name) (node (renamed t n q) n)
  unfolding p q
  itself_fits =
      let moves = place_moves n may.linked elsewhere (begins_refl (node t n).place) in
      let whole : at_name (node t d).place name ++ drop (length (node t n).place) (node t n).place ≡ at_name (node t d).place name = ap
      (λ r. at_name (node t d).place name ++ r) (drop-length (node t n).place) ∙ append-nil _ in
      (moves.0, ap (λ (x : Node). x.linked) dir_stays ∙ may.dir_linked, moves.1 ∙ whole ∙ ap (λ (x : Node). at_name x.place name) (sym dir_stays))

  -- what stood there keeps the place
  replaced_fits : (r : ℕ) → (node t r).linked ≡ true → (node t r).place ≡ q → StandFits (renamed t n q) (Out q) (node (renamed t n q) r)
  replaced_fits r linked place =
      let is = after r ∙ replaced p q (node t r) (both_true linked (same_place_from q (node t r).place (sym place))) in
      (ap (λ (x : Node). x.linked) is, ap (λ (x : Node). x.place) is ∙ place)

  back_root : begins p [] ≡ false
  unfolding p
  back_root = false_from_ne_true _ (λ h. both_ways _ may.apart (begins_trans (node t n).place [] (at_name (node t d).place name) h refl))

  -- a node in a directory that moves moves along, and one in a directory that stays is left
  along : (k e : ℕ) (x : List ℕ) → n ≢ k → same_place q (node t e).place ≡ false → StandFits t (In e x) (node t k) → same_place q (node t k).place ≡ false → begins p (node t k).place ≡ true
      → StandFits (renamed t n q) (In e x) (node (renamed t n q) k)
  unfolding p
  along k e x apart holder_at h off front =
      let other : same_place p (node t k).place ≡ false = false_from_ne_true _ (λ at. apart (tree.apart n k may.linked h.0 (same_place_is _ _ at))) in
      let higher : begins p (node t e).place ≡ true = rw (← above_at_name (node t e).place x, ← h.2) (begins_above_other p (node t k).place front other) in
      let mine = place_moves k h.0 off front in
      let its = place_moves e h.1 holder_at higher in
      let rest : drop (length p) (at_name (node t e).place x) ≡ at_name (drop (length p) (node t e).place) x = drop-append-le (length p)
      (node t e).place (x ∷ []) (begins_length p (node t e).place higher) in
      let place : (node (renamed t n q) k).place ≡ at_name (node (renamed t n q) e).place x =
      mine.1 ∙ ap (λ r. q ++ drop (length p) r) h.2 ∙ ap (λ r. q ++ r) rest ∙ sym (append_assoc q (drop (length p) (node t e).place) (x ∷ [])) ∙ ap (λ r. at_name r x) (sym its.1) in
      (mine.0, its.0, place)

  left : (k e : ℕ) (x : List ℕ) → same_place q (node t e).place ≡ false → StandFits t (In e x) (node t k) → same_place q (node t k).place ≡ false → begins p (node t k).place ≡ false
      → StandFits (renamed t n q) (In e x) (node (renamed t n q) k)
  left k e x holder_at h off back =
      let front : begins (node t e).place (node t k).place ≡ true = rw h.2 (begins_append (node t e).place (x ∷ [])) in
      let higher : begins p (node t e).place ≡ false = false_from_ne_true _ (λ yes. both_ways _ back (begins_trans p (node t e).place (node t k).place yes front)) in
      let mine = node_stays k off back in
      let its = node_stays e holder_at higher in
      (ap (λ (y : Node). y.linked) mine ∙ h.0, ap (λ (y : Node). y.linked) its ∙ h.1, ap (λ (y : Node). y.place) mine ∙ h.2 ∙ ap (λ (y : Node). at_name y.place x) (sym its))

  -- and all others stand where they stood
  other_fits : (k : ℕ) → n ≢ k → (s : Standing) → (tree_entry ls k).stand ≡ s → StandFits t s (node t k) →
      ((node t k).linked ≡ true → same_place q (node t k).place ≡ false) → StandFits (renamed t n q) s (node (renamed t n q) k)
  other_fits k apart Root is h off =
      let back : begins p (node t k).place ≡ false = rw h.1 back_root in
      let same = node_stays k (off h.0) back in
      (ap (λ (x : Node). x.linked) same ∙ h.0, ap (λ (x : Node). x.place) same ∙ h.1)
  other_fits k apart (In e x) is h off = elim (cases_Bool (begins p (node t k).place)) [
    | inl front ↦ along k e x apart (holder_off k e x is) h (off h.0) front
    | inr back ↦ left k e x (holder_off k e x is) h (off h.0) back
  ]
  other_fits k apart (Out y) is h off =
      let same = after k ∙ is_kept p q (node t k) (rw h.0 refl) (rw h.0 refl) in
      (ap (λ (x : Node). x.linked) same ∙ h.0, ap (λ (x : Node). x.place) same ∙ h.1)

-- what was in the way is out
abbrev pub with_out : (ℕ → Standing) → Option ℕ → List (List ℕ) → ℕ → Standing
with_out S None q k = S k
with_out S (Some r) q k = put S r (Out q) k

module _ (t : List Node) (ls : List TreeEntry) (n d e : ℕ) (name x : List ℕ) (gone : Option ℕ) (tree : IsTree t) (fits : Fits ls t) (is_filed : IsFiled ls)
    (may : MayMove t n d (at_name (node t d).place name)) (elsewhere : same_place (at_name (node t d).place name) (node t n).place ≡ false) (stand : (tree_entry ls n).stand ≡ In e x)
    (child : (tree_entry ls d).child name ≡ gone) where
  -- a node at the new place is what was in the way
  in_the_way : (k : ℕ) → (node t k).linked ≡ true → same_place (at_name (node t d).place name) (node t k).place ≡ true → gone ≡ Some k
  in_the_way k linked at =
      let is : Child t d name k = record { holder = may.dir_linked; there = linked_there t k linked; linked = linked; place = sym (same_place_is _ _ at) } in
      sym child ∙ filed_child t ls tree fits is_filed d k name is

  apart : d ≡ e → name ≡ x → ⊥
  apart number names =
      let h = held t ls n e x fits stand in
      let place : at_name (node t d).place name ≡ (node t n).place = ap (λ i. at_name (node t i).place name) number ∙ ap (at_name (node t e).place) names ∙ sym h.place in
      both_ways _ elsewhere (same_place_from _ _ place)

  -- names stay filed when what was in the way is out
  pub cleared : Filed (with_out (λ k. (tree_entry ls k).stand) gone (at_name (node t d).place name)) (put2 (λ k. (tree_entry ls k).child) d name None)
      × (with_out (λ k. (tree_entry ls k).stand) gone (at_name (node t d).place name) n ≡ In e x)
  cleared = by_gone gone refl
    where
      none : gone ≡ None → (i : ℕ) (q : List ℕ) → put2 (λ k. (tree_entry ls k).child) d name None i q ≡ (tree_entry ls i).child q
      none is i q = elim (slot_cases d i name q) [
        | inl same ↦ rw same.0 (sym is ∙ sym child ∙ ap (λ k. (tree_entry ls k).child name) same.1
            ∙ ap (λ r. (tree_entry ls i).child r) same.2)
        | inr other ↦ rw other.0 refl
      ]

      by_gone : (o : Option ℕ) → gone ≡ o
          → Filed (with_out (λ k. (tree_entry ls k).stand) o (at_name (node t d).place name)) (put2 (λ k. (tree_entry ls k).child) d name None)
          × (with_out (λ k. (tree_entry ls k).stand) o (at_name (node t d).place name) n ≡ In e x)
      by_gone None is = (filed_same (λ k. (tree_entry ls k).stand) _ (λ k. (tree_entry ls k).child) _ is_filed (λ k. refl) (none is), stand)
      by_gone (Some r) is =
          let stood = is_filed.holds d name r (child ∙ is) in
          let h = held t ls r d name fits stood in
          let different : r ≢ n = λ same. both_ways _ elsewhere (same_place_from _ _ (sym h.place ∙ ap (λ k. (node t k).place) same)) in (
            filed_out (λ k. (tree_entry ls k).stand) (λ k. (tree_entry ls k).child) is_filed r d name (at_name (node t d).place name) stood,
            put_other
                (λ k. (tree_entry ls k).stand) r n (Out (at_name (node t d).place name)) different ∙ stand,
          )

module _ (t : List Node) (ls us : List TreeEntry) (n d e : ℕ) (name x : List ℕ) (gone : Option ℕ) (tree : IsTree t) (fits : Fits ls t) (is_filed : IsFiled ls)
    (may : MayMove t n d (at_name (node t d).place name)) (elsewhere : same_place (at_name (node t d).place name) (node t n).place ≡ false) (stand : (tree_entry ls n).stand ≡ In e x)
    (child : (tree_entry ls d).child name ≡ gone)
    (shows : Shows us (length ls) (λ k. (tree_entry ls k).kind) (λ k. (tree_entry ls k).content)
    (put (with_out (λ k. (tree_entry ls k).stand) gone (at_name (node t d).place name)) n (In d name))
    (put2 (put2 (λ k. (tree_entry ls k).child) d name (Some n)) e x None)) where
  other_stand : (k : ℕ) → n ≢ k → k < length t
      → StandFits (renamed t n (at_name (node t d).place name)) (with_out (λ i. (tree_entry ls i).stand) gone (at_name (node t d).place name) k) (node (renamed t n (at_name (node t d).place name)) k)
  unfolding q
  other_stand k different there = by_gone gone refl
    where
      stays : ((node t k).linked ≡ true → same_place (at_name (node t d).place name) (node t k).place ≡ false)
          → StandFits (renamed t n (at_name (node t d).place name)) (tree_entry ls k).stand (node (renamed t n (at_name (node t d).place name)) k)
      stays off = other_fits t ls n d name tree fits is_filed may elsewhere k different (tree_entry ls k).stand refl (fits.each k there).stand off

      by_gone : (o : Option ℕ) → gone ≡ o
          → StandFits (renamed t n (at_name (node t d).place name)) (with_out (λ i. (tree_entry ls i).stand) o (at_name (node t d).place name) k) (node (renamed t n (at_name (node t d).place name)) k)
      by_gone None is = stays (λ linked. false_from_ne_true _
          (λ at. let no : None ≡ Some k = sym is ∙ in_the_way t ls n d e name x gone tree fits is_filed may elsewhere stand child k linked at in cc))
      by_gone (Some r) is = elim (eqb_tells r k) [
        | inl same ↦ let h = held t ls r d name fits (is_filed.holds d name r (child ∙ is)) in
            rw (same.0, ← same.1) (replaced_fits t ls n d name tree fits is_filed may elsewhere r h.linked h.place)
        | inr other ↦ rw other.0 (stays (λ linked. false_from_ne_true _
            (λ at. let it : Some r ≡ Some k = sym is ∙ in_the_way t ls n d e name x gone tree fits is_filed may elsewhere stand child k linked at in
            let same : r ≡ k = cc in other.1 same)))
      ]

  each : (k : ℕ) → k < length t → ((eqb n k ≡ true) × (n ≡ k)) ⊎ ((eqb n k ≡ false) × (n ≢ k)) →
      EntryFits (renamed t n (at_name (node t d).place name)) (tree_entry us k) (node (renamed t n (at_name (node t d).place name)) k)
  unfolding q
  each k there number =
      let after = renamed_node t n d name k elsewhere in
      let keeps = kind_stays (node t n).place (at_name (node t d).place name) (node t k) in
      record {
        kind = shows.kind k ∙ (fits.each k there).kind ∙ sym (ap (λ (m : Node). m.kind) after ∙ keeps.0);
        content = shows.content k ∙ (fits.each k there).content ∙ sym (ap (λ (m : Node). m.content) after ∙ keeps.1);
        stand = rw (shows.stand k) (by_number number);
      }
    where
      by_number : ((eqb n k ≡ true) × (n ≡ k)) ⊎ ((eqb n k ≡ false) × (n ≢ k))
          → StandFits (renamed t n (at_name (node t d).place name))
          (put (with_out (λ i. (tree_entry ls i).stand) gone (at_name (node t d).place name)) n (In d name) k)
          (node (renamed t n (at_name (node t d).place name)) k)
      by_number (inl same) = rw (same.0, ← same.1) (itself_fits t ls n d name tree fits is_filed may elsewhere)
      by_number (inr other) = rw other.0 (other_stand k other.1 there)

  pub renamed_fits : Fits us (renamed t n (at_name (node t d).place name))
  renamed_fits = record {
    count = shows.count_is ∙ fits.count ∙ sym (renamed_length t n d name);
    each = λ k h. let less : k < length t = omega (arith, renamed_length t n d name) in each k less (eqb_tells n k);
  }

  pub renamed_filed : IsFiled us
  renamed_filed =
      let c = cleared t ls n d e name x gone tree fits is_filed may elsewhere stand child in
      filed_moved (λ k. (tree_entry us k).stand) (with_out (λ k. (tree_entry ls k).stand) gone (at_name (node t d).place name)) (λ k. (tree_entry ls k).child)
      (λ k. (tree_entry us k).child) n d e name x c.0 c.1
      (apart t ls n d e name x gone tree fits is_filed may elsewhere stand child) shows.stand shows.child
