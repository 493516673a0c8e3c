-- Links stay linked after each change that is allowed, and are then the tree that the change makes.
use Rattle.std.proofs.Common.{◌≡◌, ℕ, ◌<◌, ◌⊎◌, inl, inr, List, [], ◌∷◌, ◌++◌, true, false, Some, None, length, ap, sym, ◌∙◌, refl, subst, arith}
use Rattle.std.specs.Prelude.{◌≢◌, is_some}
use Rattle.std.specs.List.{list_all}
use Rattle.std.proofs.lemmas.Bool.{both_ways, false_from_ne_true, lt-ltb}
use Rattle.rights.specs.Limits.{most_nodes}
use Rattle.file_tree.specs.Places.{is_file_name, at_name}
use Rattle.file_tree.specs.Nodes.{Kind, Dir, Node, node, node_at, child_of, has_below}
use Rattle.file_tree.specs.Changes.{filled, removed}
use Rattle.file_tree.specs.Refusals.{created, create_fault, remove_fault, is_root}
use Rattle.file_tree.specs.WellFormed.{is_content, is_byte, IsTree}
use Rattle.link_tree.specs.Links.{In, Out, TreeEntry, tree_entry, linked_nodes, stood, filed, refilled, IsLinkedTree, IsNewLink, TakenOut}
use Rattle.file_tree.proofs.PlaceLaws.{same_place_is, same_place_from}
use Rattle.file_tree.proofs.NodeLaws.{linked_there}
use Rattle.file_tree.proofs.KeptByCreate.{may_create, created_is_tree}
use Rattle.file_tree.proofs.KeptByRemove.{MayRemove, may_remove, removed_is_tree}
use Rattle.link_tree.proofs.FiledLaws.{put, put2}
use Rattle.link_tree.proofs.LinkLaws.{is_linked}
use Rattle.link_tree.proofs.LinkReads.{stand_of, held}
use Rattle.link_tree.proofs.LinkChanges.{Shows, shows_itself, shows_stood, shows_filed}
use Rattle.link_tree.proofs.LinkedByCreate.{created_fits, created_filed}
use Rattle.link_tree.proofs.LinkedByFill.{filled_fits, filled_filed}
use Rattle.link_tree.proofs.LinkedByRemove.{removed_fits, removed_filed}

-- a node is made
pub created_linked : (ls : List TreeEntry) (d : ℕ) (name : List ℕ) (l : TreeEntry) → IsLinkedTree ls → (node (linked_nodes ls) d).kind ≡ Dir →
    is_file_name name ≡ true → is_content l.kind l.content ≡ true
    → list_all is_byte l.content ≡ true → create_fault (linked_nodes ls) d name ≡ None → l.stand ≡ In d name → ((q : List ℕ) → l.child q ≡ None)
    → IsLinkedTree (filed (ls ++ l ∷ []) d name (Some (length ls))) × (linked_nodes (filed (ls ++ l ∷ []) d name (Some (length ls))) ≡ created (linked_nodes ls) d name l.kind l.content)
created_linked ls d name l linked directory named content bytes allowed stand bare =
    let t = linked_nodes ls in
    let may = may_create t d name allowed in
    is_linked (created t d name l.kind l.content) (filed (ls ++ l ∷ []) d name (Some (length ls)))
    (created_is_tree t d name l.kind l.content linked.tree directory named content bytes allowed)
    (created_fits t ls d name l linked.tree linked.fits linked.filed may stand bare)
    (created_filed t ls d name l linked.tree linked.fits linked.filed may stand bare)

-- a content is another one
pub filled_linked : (ls : List TreeEntry) (n : ℕ) (content : List ℕ) → IsLinkedTree ls → n < length (linked_nodes ls) → IsTree (filled (linked_nodes ls) n content)
    → IsLinkedTree (refilled ls n content) × (linked_nodes (refilled ls n content) ≡ filled (linked_nodes ls) n content)
filled_linked ls n content linked there tree =
    is_linked (filled (linked_nodes ls) n content) (refilled ls n content) tree (filled_fits (linked_nodes ls) ls n content linked.fits there)
    (filled_filed (linked_nodes ls) ls n content linked.fits there linked.filed)

-- the content of an entry is that of its node
pub same_content : (ls : List TreeEntry) (n : ℕ) → IsLinkedTree ls → n < length (linked_nodes ls) → (tree_entry ls n).content ≡ (node (linked_nodes ls) n).content
same_content ls n linked there = (linked.fits.each n there).content

pub made_linked : (ls us : List TreeEntry) (d : ℕ) (name key : List ℕ) (l : TreeEntry) (kind : Kind) (content : List ℕ) → IsLinkedTree ls →
    (node (linked_nodes ls) d).kind ≡ Dir → is_file_name name ≡ true
    → is_content kind content ≡ true → list_all is_byte content ≡ true → create_fault (linked_nodes ls) d name ≡ None → IsNewLink l d name kind content → key ≡ name
    → us ≡ filed (ls ++ l ∷ []) d key (Some (length ls))
    → IsLinkedTree us × (linked_nodes us ≡ created (linked_nodes ls) d name kind content)
made_linked ls us d name key l kind content linked directory named fits bytes allowed made same is =
    let after = created_linked ls d name l linked directory named (rw (made.kind_is, made.content_is) fits) (rw made.content_is bytes) allowed made.stand made.bare in
    let here : us ≡ filed (ls ++ l ∷ []) d name (Some (length ls)) = is ∙ ap (λ k. filed (ls ++ l ∷ []) d k (Some (length ls))) same in
    rw here (after.0, after.1 ∙ ap (λ k. created (linked_nodes ls) d name k l.content) made.kind_is ∙ ap (created (linked_nodes ls) d name kind) made.content_is)

pub refilled_linked : (ls us : List TreeEntry) (n : ℕ) (f : List ℕ → List ℕ) → IsLinkedTree ls → n < length (linked_nodes ls) →
    IsTree (filled (linked_nodes ls) n (f (node (linked_nodes ls) n).content))
    → us ≡ refilled ls n (f (tree_entry ls n).content)
    → IsLinkedTree us × (linked_nodes us ≡ filled (linked_nodes ls) n (f (node (linked_nodes ls) n).content))
refilled_linked ls us n f linked there tree is =
    let here : us ≡ refilled ls n (f (node (linked_nodes ls) n).content) = is ∙ ap (λ content. refilled ls n (f content)) (same_content ls n linked there) in
    rw here (filled_linked ls n (f (node (linked_nodes ls) n).content) linked there tree)

-- what the code has tested before it makes or removes a node
pub create_allowed : (t : List Node) (d : ℕ) (name : List ℕ) → (node t d).linked ≡ true → is_some (child_of t d name) ≡ false → length t < most_nodes → create_fault t d name ≡ None
unfolding create_fault child_of
create_allowed t d name linked free room =
    let none : is_some (node_at t (at_name (node t d).place name)) ≡ false = rw linked at free in
    rw (linked, none, lt-ltb (length t) most_nodes room) refl

pub remove_allowed : (t : List Node) (n : ℕ) → IsTree t → (node t n).linked ≡ true → n ≢ 0 → has_below t (node t n).place ≡ false → remove_fault t n ≡ None
unfolding remove_fault
remove_allowed t n tree linked low empty =
    let other : is_root (node t n).place ≡ false = false_from_ne_true _ (λ at. low (tree.apart n 0 linked tree.root_linked (sym (same_place_is [] (node t n).place at) ∙ sym tree.root_place))) in
    rw (linked, other, empty) refl

-- a node is removed
pub removed_linked : (ls us : List TreeEntry) (n : ℕ) (p : List (List ℕ)) → IsLinkedTree ls → remove_fault (linked_nodes ls) n ≡ None → p ≡ (node (linked_nodes ls) n).place → TakenOut ls us n p
    → IsLinkedTree us × (linked_nodes us ≡ removed (linked_nodes ls) n)
removed_linked ls us n p linked allowed place out = by_stand (stand_of t ls n linked.fits may.linked)
  where
    t : List Node
    t = linked_nodes ls

    may : MayRemove t n
    may = may_remove t n allowed

    by_stand : ((node t n).place ≡ []) ⊎ ((d : ℕ) × (name : List ℕ) × ((tree_entry ls n).stand ≡ In d name)) → IsLinkedTree us × (linked_nodes us ≡ removed t n)
    by_stand (inl root) = absurd (both_ways (is_root (node t n).place) may.below_root (same_place_from [] (node t n).place (sym root)))
    by_stand (inr (d, name, stand)) =
        let h = held t ls n d name linked.fits stand in
        let count : length ls ≡ length t = linked.fits.count in
        let there : n < length ls = omega (arith, h.there) in
        let d_there : d < length ls = omega (arith, linked_there t d h.holder) in
        let first = shows_stood ls (length ls) _ _ _ _ (shows_itself ls) n there (Out p) in
        let d_first : d < length (stood ls n (Out p)) = omega (arith, first.count_is) in
        let shows = shows_filed (stood ls n (Out p)) (length ls) _ _ _ _ first d d_first name None in
        let P : List TreeEntry → List (List ℕ) → Type 0 = λ vs q. Shows vs (length ls) (λ k. (tree_entry ls k).kind) (λ k. (tree_entry ls k).content)
        (put (λ k. (tree_entry ls k).stand) n (Out q)) (put2 (λ k. (tree_entry ls k).child) d name None) in
        let here : P us (node t n).place = subst (P us) place (subst (λ vs. P vs p) (sym (out.from d name stand)) shows) in
        is_linked (removed t n) us (removed_is_tree t n linked.tree allowed)
        (removed_fits t ls us n d name linked.tree linked.fits linked.filed may stand here)
        (removed_filed t ls us n d name linked.tree linked.fits linked.filed may stand here)

-- the same of what the code has tested and then done
pub record Removed (ls us : List TreeEntry) (n : ℕ) : Type 0 where
  pub allowed : remove_fault (linked_nodes ls) n ≡ None
  pub linked : IsLinkedTree us
  pub tree : linked_nodes us ≡ removed (linked_nodes ls) n

pub removed_tested : (ls us : List TreeEntry) (n : ℕ) (p : List (List ℕ)) → IsLinkedTree ls → (node (linked_nodes ls) n).linked ≡ true → n ≢ 0
    → has_below (linked_nodes ls) (node (linked_nodes ls) n).place ≡ false → p ≡ (node (linked_nodes ls) n).place → TakenOut ls us n p → Removed ls us n
removed_tested ls us n p linked in_tree low empty place out =
    let allowed = remove_allowed (linked_nodes ls) n linked.tree in_tree low empty in
    let after = removed_linked ls us n p linked allowed place out in
    record { allowed = allowed; linked = after.0; tree = after.1 }
