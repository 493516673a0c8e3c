-- What a rename tests in a tree by links, what it refuses, and what it makes of the links.
use Rattle.std.proofs.Common.{◌≡◌, ℕ, ◌<◌, ◌⊎◌, inl, inr, List, [], ◌∷◌, true, false, Option, Some, None, length, ap, sym, ◌∙◌, refl, arith}
use Rattle.std.specs.Prelude.{◌≢◌}
use Rattle.std.specs.Str.{bytes_eq}
use Rattle.std.proofs.lemmas.Bool.{both_ways, cases_Bool, false_from_ne_true}
use Rattle.std.proofs.lemmas.Slice.Eq.{bytes_eq-Decides}
use Rattle.file_tree.specs.Places.{at_name, begins, same_place, is_file_name}
use Rattle.file_tree.specs.Nodes.{Dir, Node, node, child_of, has_below}
use Rattle.file_tree.specs.Changes.{renamed}
use Rattle.file_tree.specs.Refusals.{IntoItself, NotEmpty, rename_fault}
use Rattle.file_tree.specs.WellFormed.{IsTree}
use Rattle.link_tree.specs.Links.{In, Out, TreeEntry, tree_entry, linked_nodes, stood, filed, way_made, Relinked, IsLinkedTree}
use Rattle.file_tree.proofs.PlaceLaws.{same_place_is, same_place_from, begins_trans, begins_append, begins_above_other, above_at_name}
use Rattle.file_tree.proofs.NodeLaws.{linked_there}
use Rattle.file_tree.proofs.TreeLaws.{child_is, child_there, child_by_place}
use Rattle.file_tree.proofs.BelowLaws.{free_empty}
use Rattle.file_tree.proofs.KeptByRename.{MayMove, may_rename, renamed_is_tree}
use Rattle.link_tree.proofs.FiledLaws.{put2}
use Rattle.link_tree.proofs.LinkLaws.{is_linked}
use Rattle.link_tree.proofs.LinkReads.{at_name_same, stand_of, child_linked, held, Held}
use Rattle.link_tree.proofs.LinkChanges.{Shows, shows_itself, shows_stood, shows_filed}
use Rattle.link_tree.proofs.LinkedByRename.{with_out, cleared, renamed_fits, renamed_filed}

-- whether a node has a name in a directory
module _ (t : List Node) (n e d : ℕ) (x name : List ℕ) (tree : IsTree t) (h : Held t n e x) (linked : (node t d).linked ≡ true) where
  pub same_dir : e ≡ d → bytes_eq x name ≡ same_place (at_name (node t d).place name) (node t n).place
  same_dir number = by_name (cases_Bool (bytes_eq x name))
    where
      by_name : (bytes_eq x name ≡ true) ⊎ (bytes_eq x name ≡ false) → bytes_eq x name ≡ same_place (at_name (node t d).place name) (node t n).place
      by_name (inl same) =
          let names : x ≡ name = (bytes_eq-Decides x name).0 same in
          let place : at_name (node t d).place name ≡ (node t n).place = ap (at_name (node t d).place) (sym names) ∙ ap (λ k. at_name (node t k).place x) (sym number) ∙ sym h.place in
          same ∙ sym (same_place_from _ _ place)
      by_name (inr other) = other ∙ sym (false_from_ne_true _ (λ at.
          let names = at_name_same (node t d).place (node t e).place name x (same_place_is _ _ at ∙ h.place) in
          both_ways _ other ((bytes_eq-Decides x name).1 (sym names.1))))

  pub other_dir : e ≢ d → same_place (at_name (node t d).place name) (node t n).place ≡ false
  other_dir apart = false_from_ne_true _ (λ at.
      let names = at_name_same (node t d).place (node t e).place name x (same_place_is _ _ at ∙ h.place) in
      apart (tree.apart e d h.holder linked (sym names.0)))

-- whether something lies below a name in a directory
pub blocked_some : (t : List Node) (d n : ℕ) (name : List ℕ) → Some n ≡ child_of t d name → ((node t n).linked ≡ true) × ((node t n).place ≡ at_name (node t d).place name)
blocked_some t d n name is = let child = child_is t d name n (sym is) in (child.linked, child.place)

pub blocked_none : (t : List Node) (d : ℕ) (name : List ℕ) → IsTree t → (node t d).linked ≡ true → None ≡ child_of t d name → has_below t (at_name (node t d).place name) ≡ false
blocked_none t d name tree linked is = free_empty t tree (at_name (node t d).place name) (sym (child_by_place t d name linked) ∙ sym is)

-- a place in a directory begins with another place as the directory does, unless it is that place
begins_in : (p q : List (List ℕ)) (name : List ℕ) → same_place (at_name p name) q ≡ false → begins q (at_name p name) ≡ begins q p
begins_in p q name other = by_cases (cases_Bool (begins q (at_name p name))) (cases_Bool (begins q p))
  where
    up : begins q (at_name p name) ≡ true → begins q p ≡ true
    up front =
        let apart : same_place q (at_name p name) ≡ false = false_from_ne_true (same_place q (at_name p name))
        (λ at. both_ways (same_place (at_name p name) q) other
        (same_place_from (at_name p name) q (sym (same_place_is q (at_name p name) at)))) in
        rw (← above_at_name p name) (begins_above_other q (at_name p name) front apart)

    by_cases : (begins q (at_name p name) ≡ true) ⊎ (begins q (at_name p name) ≡ false) → (begins q p ≡ true) ⊎ (begins q p ≡ false) → begins q (at_name p name) ≡ begins q p
    by_cases (inl a) b = a ∙ sym (up a)
    by_cases (inr a) (inl b) = absurd (both_ways _ a (begins_trans q p (at_name p name) b (begins_append p (name ∷ []))))
    by_cases (inr a) (inr b) = a ∙ sym b

-- what the code has tested when it asks whether a node may come to another place
pub record Tested (t : List Node) (n d : ℕ) (name : List ℕ) : Type 0 where
  pub linked : (node t n).linked ≡ true
  pub dir_linked : (node t d).linked ≡ true
  pub other : same_place (at_name (node t d).place name) (node t n).place ≡ false

module _ (t : List Node) (n d : ℕ) (name : List ℕ) (tested : Tested t n d name) where
  pub refused_above : begins (node t n).place (node t d).place ≡ true → rename_fault t n d name ≡ Some IntoItself
  unfolding rename_fault
  refused_above front =
      let into : begins (node t n).place (at_name (node t d).place name) ≡ true = begins_in (node t d).place (node t n).place name tested.other ∙ front in
      rw (tested.linked, tested.dir_linked, tested.other, into) refl

  pub refused_blocked : begins (node t n).place (node t d).place ≡ false → has_below t (at_name (node t d).place name) ≡ true → rename_fault t n d name ≡ Some NotEmpty
  unfolding rename_fault
  refused_blocked back full =
      let into : begins (node t n).place (at_name (node t d).place name) ≡ false = begins_in (node t d).place (node t n).place name tested.other ∙ back in
      rw (tested.linked, tested.dir_linked, tested.other, into, full) refl

  pub rename_allowed : begins (node t n).place (node t d).place ≡ false → has_below t (at_name (node t d).place name) ≡ false → rename_fault t n d name ≡ None
  unfolding rename_fault
  rename_allowed back empty =
      let into : begins (node t n).place (at_name (node t d).place name) ≡ false = begins_in (node t d).place (node t n).place name tested.other ∙ back in
      rw (tested.linked, tested.dir_linked, tested.other, into, empty) refl

-- the links once the way is clear
pub way_some : (ls vs us : List TreeEntry) (o : Option ℕ) (old : ℕ) (place q : List (List ℕ)) (d : ℕ) (name key : List ℕ) (n : ℕ) → Some old ≡ o → vs ≡ filed ls d key (Some n) → key ≡ name
    → us ≡ stood vs old (Out place) → place ≡ q → us ≡ way_made ls o q d name n
way_some ls vs us o old place q d name key n is first same then there =
    then ∙ ap (λ ws. stood ws old (Out place)) (first ∙ ap (λ k. filed ls d k (Some n)) same) ∙ ap (λ p. stood (filed ls d name (Some n)) old (Out p)) there ∙ ap (λ r. way_made ls r q d name n) is

way_shows : (ls : List TreeEntry) (o : Option ℕ) (q : List (List ℕ)) (d : ℕ) (name : List ℕ) (n : ℕ) → d < length ls → ((r : ℕ) → o ≡ Some r → r < length ls)
    → Shows (way_made ls o q d name n) (length ls) (λ k. (tree_entry ls k).kind) (λ k. (tree_entry ls k).content)
    (with_out (λ k. (tree_entry ls k).stand) o q) (put2 (λ k. (tree_entry ls k).child) d name (Some n))
way_shows ls None q d name n there way = shows_filed ls (length ls) _ _ _ _ (shows_itself ls) d there name (Some n)
way_shows ls (Some r) q d name n there way =
    let first = shows_filed ls (length ls) _ _ _ _ (shows_itself ls) d there name (Some n) in
    let known : r < length (filed ls d name (Some n)) = omega (arith, first.count_is, way r refl) in
    shows_stood (filed ls d name (Some n)) (length ls) _ _ _ _ first r known (Out q)

-- a node that may be renamed, and isn't to its own place, has a name in a directory
module _ (ls vs : List TreeEntry) (n d : ℕ) (name : List ℕ) (linked : IsLinkedTree ls) (tested : Tested (linked_nodes ls) n d name) (allowed : rename_fault (linked_nodes ls) n d name ≡ None)
    (way : vs ≡ way_made ls (child_of (linked_nodes ls) d name) (at_name (node (linked_nodes ls) d).place name) d name n) where
  may : MayMove (linked_nodes ls) n d (at_name (node (linked_nodes ls) d).place name)
  may = may_rename (linked_nodes ls) n d name allowed tested.other

  stands : (e : ℕ) × (x : List ℕ) × ((tree_entry ls n).stand ≡ In e x)
  stands = elim (stand_of (linked_nodes ls) ls n linked.fits may.linked) [
    | inl root ↦ absurd (both_ways _ may.apart (rw root refl))
    | inr it ↦ it
  ]

  filed_there : (tree_entry ls d).child name ≡ child_of (linked_nodes ls) d name
  filed_there = sym (child_linked (linked_nodes ls) ls linked.tree linked.fits linked.filed d name)

  d_there : d < length ls
  d_there = omega (arith, linked_there (linked_nodes ls) d may.dir_linked, linked.fits.count)

  shows_way : Shows vs (length ls) (λ k. (tree_entry ls k).kind) (λ k. (tree_entry ls k).content)
      (with_out (λ k. (tree_entry ls k).stand) (child_of (linked_nodes ls) d name) (at_name (node (linked_nodes ls) d).place name))
      (put2 (λ k. (tree_entry ls k).child) d name (Some n))
  shows_way = rw way (way_shows ls (child_of (linked_nodes ls) d name) (at_name (node (linked_nodes ls) d).place name) d name n d_there
      (λ r is. omega (arith, child_there (linked_nodes ls) d name r is, linked.fits.count)))

  stands_still : (tree_entry vs n).stand ≡ In stands.0 stands.1
  stands_still = shows_way.stand n ∙ (cleared (linked_nodes ls) ls n d stands.0 name stands.1
      (child_of (linked_nodes ls) d name) linked.tree linked.fits linked.filed may tested.other stands.2 filed_there).1

  pub way_length : length vs ≡ length ls
  way_length = shows_way.count_is

  pub way_holder : (e : ℕ) (x : List ℕ) → (tree_entry vs n).stand ≡ In e x → e < length ls
  way_holder e x is =
      let same : In e x ≡ In stands.0 stands.1 = sym is ∙ stands_still in
      let number : e ≡ stands.0 = cc in
      let h = held (linked_nodes ls) ls n stands.0 stands.1 linked.fits stands.2 in
      omega (arith, linked_there (linked_nodes ls) stands.0 h.holder, linked.fits.count)

  -- and it is then linked as the renamed tree
  pub renamed_linked : (us : List TreeEntry) → (node (linked_nodes ls) d).kind ≡ Dir → is_file_name name ≡ true → Relinked vs us n d name
      → IsLinkedTree us × (linked_nodes us ≡ renamed (linked_nodes ls) n (at_name (node (linked_nodes ls) d).place name))
  renamed_linked us directory named relinked =
      let t = linked_nodes ls in
      let n_there : n < length vs = omega (arith, linked_there (linked_nodes ls) n may.linked, linked.fits.count, way_length) in
      let first = shows_stood vs (length ls) _ _ _ _ shows_way n n_there (In d name) in
      let e_there : stands.0 < length (stood vs n (In d name)) = omega (arith, way_holder stands.0 stands.1 stands_still, first.count_is) in
      let last = shows_filed (stood vs n (In d name)) (length ls) _ _ _ _ first stands.0 e_there stands.1 None in
      let shows = rw (← relinked.from stands.0 stands.1 stands_still) at last in
      is_linked (renamed t n (at_name (node t d).place name)) us (renamed_is_tree t n d name linked.tree directory named allowed)
      (renamed_fits t ls us n d stands.0 name stands.1 (child_of t d name) linked.tree linked.fits linked.filed may tested.other stands.2 filed_there shows)
      (renamed_filed t ls us n d stands.0 name stands.1 (child_of t d name) linked.tree linked.fits linked.filed may tested.other stands.2 filed_there shows)
