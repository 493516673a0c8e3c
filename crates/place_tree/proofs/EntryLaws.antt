-- What an entry of the plain list says of its node.
use Rattle.std.proofs.Common.{◌≡◌, ℕ, ◌<◌, List, [], ◌∷◌, true, false, Vec, Global, slice_set, length, get_or, ap, sym, ◌∙◌, arith}
use Rattle.std.proofs.lemmas.List.{get_or-map, map-set}
use Rattle.std.proofs.Math.Seq.{map-set_same}
use Rattle.file_tree.specs.Places.{above, same_place}
use Rattle.file_tree.specs.Nodes.{Node, node, nowhere, node_at, parent_of}
use Rattle.file_tree.proofs.TreeLaws.{parent_above}
use Rattle.file_tree.specs.Changes.{unlinked, removed, filled}
use Rattle.place_tree.specs.EntryViews.{node_of, nodes_of}
use Rattle.place_tree.specs.declared.entries.Entry.{Entry}

pub entry_node : (es : List Entry) (n : ℕ) (e : Entry) → n < length es → e ≡ get_or es n e → node (nodes_of es) n ≡ node_of e
entry_node es n e there is = get_or-map node_of es n e nowhere there ∙ ap node_of (sym is)

-- what holds the node of an entry
pub parent_in_entries : (es : List Entry) (n : ℕ) (e : Entry) → n < length es → e ≡ get_or es n e → e.linked ≡ true → same_place e.place [] ≡ false →
    parent_of (nodes_of es) n ≡ node_at (nodes_of es) (above e.place)
parent_in_entries es n e there is linked other =
    let at = entry_node es n e there is in
    let same : (node (nodes_of es) n).place ≡ e.place = ap (λ (m : Node). m.place) at in
    let low : 0 < length (node (nodes_of es) n).place = rw same (has_names e.place other) in
    parent_above (nodes_of es) n (ap (λ (m : Node). m.linked) at ∙ linked) low ∙ ap (λ place. node_at (nodes_of es) (above place)) same
  where
    has_names : (p : List (List ℕ)) → same_place p [] ≡ false → 0 < length p
    has_names [] other = absurd cc
    has_names (x ∷ p) other = omega arith

-- An entry is replaced: by one of the same node, by the same one removed, by the same one with another content.
pub entry_kept : (es : List Entry) (n : ℕ) (e f : Entry) → n < length es → e ≡ get_or es n e → node_of f ≡ node_of e → nodes_of (slice_set es n f) ≡ nodes_of es
entry_kept es n e f there is same = map-set_same node_of es n f e (same ∙ ap node_of is)

pub entry_removed : (es : List Entry) (n : ℕ) (e f : Entry) → n < length es → e ≡ get_or es n e → node_of f ≡ unlinked (node_of e) → nodes_of (slice_set es n f) ≡ removed (nodes_of es) n
unfolding removed
entry_removed es n e f there is same = map-set node_of es n f ∙ ap (slice_set (nodes_of es) n) (same ∙ ap unlinked (sym (entry_node es n e there is)))

with_content : List ℕ → Node → Node
with_content content m = record { kind = m.kind; place = m.place; linked = m.linked; content = content }

pub entry_filled : (es : List Entry) (n : ℕ) (e : Entry) (v : Vec ℕ Global) (content : List ℕ) → n < length es → e ≡ get_or es n e →
    v.items ≡ content → nodes_of (slice_set es n (record { kind = e.kind; linked = e.linked; place = e.place; content = v })) ≡ filled
    (nodes_of es) n content
unfolding filled with_content
entry_filled es n e v content there is same =
    map-set node_of es n _ ∙ ap (slice_set (nodes_of es) n) (ap (λ (c : List ℕ). with_content c (node_of e)) same ∙ ap (with_content content) (sym (entry_node es n e there is)))

-- a vector of the same bytes makes the same node
pub same_content : (e : Entry) (v : Vec ℕ Global) → v.items ≡ e.content.items → node_of (record { kind = e.kind; linked = e.linked; place = e.place; content = v }) ≡ node_of e
unfolding with_content
same_content e v same = ap (λ (c : List ℕ). with_content c (node_of e)) same
