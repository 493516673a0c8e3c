-- Whether a directory of a tree by links holds something.
use Rattle.std.proofs.Common.{◌≡◌, ℕ, ◌<◌, List, [], ◌∷◌, Bool, true, false, Some, None, Vec, length, get_or, ap, sym, ◌∙◌, refl, arith}
use Rattle.std.specs.Prelude.{◌≢◌, ◌↔◌, IsTrue, not}
use Rattle.std.specs.BTreeMap.{btree_map_len, is_at}
use Rattle.std.specs.Map.{lookup}
use Rattle.std.specs.Cmp.Lexicographic.{slice_cmp}
use Rattle.std.specs.Ordering.{nat_cmp}
use Rattle.std.proofs.lemmas.Slice.Eq.{bytes_eq-Decides}
use Rattle.std.proofs.lemmas.Map.Text.{is_eq-slice_cmp}
use Rattle.file_tree.specs.Nodes.{node, has_below}
use Rattle.link_tree.specs.Links.{TreeEntry, tree_entry, linked_nodes, IsLinkedTree}
use Rattle.link_tree.specs.LinkViews.{links_of}
use Rattle.link_tree.specs.declared.links.Entry.{Entry as EntryCode}
use Rattle.link_tree.proofs.LinkReads.{child_below, bare_below}
use Rattle.link_tree.proofs.LinkEntryLaws.{entry_link}

-- an empty map has nothing under any name, and another one has something under some name
none_named : {A : Type 0} (es : List (Vec ℕ A × ℕ)) → length es ≡ 0 → (name : List ℕ) → lookup (is_at (λ key. slice_cmp nat_cmp name key.items)) es ≡ None
none_named [] h name = refl
none_named (e ∷ es) h name = absurd (omega arith)

some_named : {A : Type 0} (es : List (Vec ℕ A × ℕ)) → length es ≢ 0 → (name : List ℕ) × (k : ℕ) × (lookup (is_at (λ key. slice_cmp nat_cmp name key.items)) es ≡ Some k)
some_named [] h = absurd (h refl)
some_named (e ∷ es) h = (e.0.items, e.1, rw (is_eq-slice_cmp e.0.items e.0.items ∙ (bytes_eq-Decides e.0.items e.0.items).1 refl) refl)

pub has_children_is : (es : List EntryCode) (n : ℕ) (e : EntryCode) (b : Bool) → IsLinkedTree (links_of es) → n < length es → e ≡ get_or es n e → (node (linked_nodes (links_of es)) n).linked ≡ true
    → (IsTrue b ↔ (btree_map_len e.children ≡ 0)) → not b ≡ has_below (linked_nodes (links_of es)) (node (linked_nodes (links_of es)) n).place
has_children_is es n e true linked there is in_tree test =
    sym (bare_below (linked_nodes (links_of es)) (links_of es) linked.tree linked.fits linked.filed n in_tree
    (λ name. ap (λ (l : TreeEntry). l.child name) (entry_link es n e there is) ∙ none_named e.children.entries (test.0 refl) name))
has_children_is es n e false linked there is in_tree test =
    let some = some_named e.children.entries (λ none. let wrong : false ≡ true = test.1 none in cc) in
    let filed : (tree_entry (links_of es) n).child some.0 ≡ Some some.1 = ap (λ (l : TreeEntry). l.child some.0) (entry_link es n e there is) ∙ some.2 in
    sym (child_below (linked_nodes (links_of es)) (links_of es) linked.tree linked.fits linked.filed some.1 n some.0 (linked.filed.holds n some.0 some.1 filed))
