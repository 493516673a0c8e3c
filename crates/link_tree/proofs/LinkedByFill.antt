-- Links that fit a tree fit it after a node gets another content, and names stay filed.
use Rattle.std.proofs.Common.{◌≡◌, ℕ, ◌<◌, inl, inr, List, length, ap, sym, ◌∙◌, arith}
use Rattle.std.proofs.lemmas.Bool.Decides.{eqb_tells}
use Rattle.file_tree.specs.Places.{at_name}
use Rattle.file_tree.specs.Nodes.{Node, node}
use Rattle.file_tree.specs.Changes.{filled}
use Rattle.file_tree.proofs.TreeLaws.{filled_length, filled_same, filled_other}
use Rattle.link_tree.specs.Links.{Standing, Root, In, Out, TreeEntry, tree_entry, StandFits, EntryFits, Fits, IsFiled, refilled}
use Rattle.link_tree.proofs.FiledLaws.{filed_same}
use Rattle.link_tree.proofs.LinkChanges.{Replaced, replaced_link}

module _ (t : List Node) (ls : List TreeEntry) (n : ℕ) (content : List ℕ) (fits : Fits ls t) (there : n < length t) where
  filled_link : TreeEntry
  filled_link = record { kind = (tree_entry ls n).kind; stand = (tree_entry ls n).stand; child = (tree_entry ls n).child; content = content }

  filled_node : Node
  filled_node = record { kind = (node t n).kind; place = (node t n).place; linked = (node t n).linked; content = content }

  replaced : Replaced ls (refilled ls n content) n filled_link
  unfolding refilled filled_link
  replaced = replaced_link ls n filled_link (let count = fits.count in omega arith)

  -- a node keeps its place and whether it is linked
  frame : (k : ℕ) → ((node (filled t n content) k).kind ≡ (node t k).kind) × ((node (filled t n content) k).place ≡ (node t k).place) × ((node (filled t n content) k).linked ≡ (node t k).linked)
  frame k = elim (eqb_tells n k) [
    | inl same ↦ let it = filled_same t n content there in rw (← same.1) (ap (λ (m : Node). m.kind) it, ap (λ (m : Node). m.place) it, ap (λ (m : Node). m.linked) it)
    | inr other ↦ let it = filled_other t n content k (λ same. other.1 (sym same)) in (ap (λ (m : Node). m.kind) it, ap (λ (m : Node). m.place) it, ap (λ (m : Node). m.linked) it)
  ]

  stand_fits : (s : Standing) (k : ℕ) → StandFits t s (node t k) → StandFits (filled t n content) s (node (filled t n content) k)
  stand_fits Root k h = let f = frame k in (f.2 ∙ h.0, f.1 ∙ h.1)
  stand_fits (In d name) k h = let f = frame k in let g = frame d in (f.2 ∙ h.0, g.2 ∙ h.1, f.1 ∙ h.2 ∙ ap (λ p. at_name p name) (sym g.1))
  stand_fits (Out p) k h = let f = frame k in (f.2 ∙ h.0, f.1 ∙ h.1)

  each : (k : ℕ) → k < length t → EntryFits (filled t n content) (tree_entry (refilled ls n content) k) (node (filled t n content) k)
  unfolding filled_link
  each k k_there = elim (eqb_tells n k) [
    | inl same ↦ rw (← same.1, replaced.here) (record {
      kind = (fits.each n there).kind ∙ sym (frame n).0;
      content = sym (ap (λ (m : Node). m.content) (filled_same t n content there));
      stand = stand_fits (tree_entry ls n).stand n (fits.each n there).stand;
    })
    | inr other ↦ rw (replaced.other k other.1) (record {
      kind = (fits.each k k_there).kind ∙ sym (frame k).0;
      content = (fits.each k k_there).content ∙ sym (ap (λ (m : Node). m.content) (filled_other t n content k (λ same. other.1 (sym same))));
      stand = stand_fits (tree_entry ls k).stand k (fits.each k k_there).stand;
    })
  ]

  pub filled_fits : Fits (refilled ls n content) (filled t n content)
  filled_fits = record {
    count = replaced.count ∙ fits.count ∙ sym (filled_length t n content);
    each = λ k h. let less : k < length t = omega (arith, filled_length t n content) in each k less;
  }

  pub filled_filed : IsFiled ls → IsFiled (refilled ls n content)
  unfolding filled_link
  filled_filed filed = filed_same _ _ _ _ filed
      (λ k. elim (eqb_tells n k) [ inl same ↦ rw (← same.1) (ap (λ (l : TreeEntry). l.stand) replaced.here) | inr other ↦ ap (λ (l : TreeEntry). l.stand) (replaced.other k other.1) ])
      (λ k name. elim (eqb_tells n k) [ inl same ↦ rw (← same.1) (ap (λ (l : TreeEntry). l.child name) replaced.here) | inr other ↦ ap (λ (l : TreeEntry). l.child name) (replaced.other k other.1) ])
