-- Links that fit a tree fit it after a node is removed, and its name is filed no more.
use Rattle.std.proofs.Common.{◌≡◌, ℕ, ◌<◌, ◌⊎◌, inl, inr, List, true, false, None, length, ap, sym, ◌∙◌, arith, eqb}
use Rattle.std.specs.Prelude.{◌≢◌}
use Rattle.std.proofs.lemmas.Bool.{both_ways}
use Rattle.std.proofs.lemmas.Bool.Decides.{eqb_tells}
use Rattle.file_tree.specs.Nodes.{Node, node}
use Rattle.file_tree.specs.Changes.{unlinked, removed}
use Rattle.file_tree.specs.WellFormed.{IsTree}
use Rattle.file_tree.proofs.NodeLaws.{linked_there}
use Rattle.file_tree.proofs.TreeLaws.{removed_length, removed_same, removed_other}
use Rattle.file_tree.proofs.KeptByRemove.{MayRemove}
use Rattle.link_tree.specs.Links.{In, Out, TreeEntry, tree_entry, EntryFits, Fits, IsFiled}
use Rattle.link_tree.proofs.FiledLaws.{put, put2, filed_out, filed_same}
use Rattle.link_tree.proofs.LinkReads.{child_below}
use Rattle.link_tree.proofs.LinkChanges.{Shows, put_here, put_other}
use Rattle.link_tree.proofs.LinkedByCreate.{stand_stays}

module _ (t : List Node) (ls us : List TreeEntry) (n d : ℕ) (name : List ℕ) (tree : IsTree t) (fits : Fits ls t) (is_filed : IsFiled ls)
    (may : MayRemove t n) (stand : (tree_entry ls n).stand ≡ In d name)
    (shows : Shows us (length ls) (λ k. (tree_entry ls k).kind) (λ k. (tree_entry ls k).content)
    (put (λ k. (tree_entry ls k).stand) n (Out (node t n).place)) (put2 (λ k. (tree_entry ls k).child) d name None)) where
  -- what holds a node stays: nothing is in the node that goes
  holder_stays : (k e : ℕ) (q : List ℕ) → (tree_entry ls k).stand ≡ In e q → node (removed t n) e ≡ node t e
  holder_stays k e q is = removed_other t n e (λ same.
      both_ways _ may.empty (child_below t ls tree fits is_filed k n q (is ∙ ap (λ i. In i q) same)))

  each : (k : ℕ) → k < length t → ((eqb n k ≡ true) × (n ≡ k)) ⊎ ((eqb n k ≡ false) × (n ≢ k)) → EntryFits (removed t n) (tree_entry us k) (node (removed t n) k)
  each k there (inl same) =
      let it : node (removed t n) k ≡ unlinked (node t n) = ap (node (removed t n)) (sym same.1) ∙ removed_same t n (linked_there t n may.linked) in
      let was : node t n ≡ node t k = ap (node t) same.1 in
      let out : (tree_entry us k).stand ≡ Out (node t n).place = shows.stand k ∙ ap (put (λ i. (tree_entry ls i).stand) n (Out (node t n).place)) (sym same.1)
      ∙ put_here (λ i. (tree_entry ls i).stand) n (Out (node t n).place) in
      record {
        kind = shows.kind k ∙ (fits.each k there).kind ∙ sym (ap (λ (m : Node). m.kind) it ∙ ap (λ (m : Node). m.kind) was);
        content = shows.content k ∙ (fits.each k there).content ∙ sym (ap (λ (m : Node). m.content) it ∙ ap (λ (m : Node). m.content) was);
        stand = rw out (ap (λ (m : Node). m.linked) it, ap (λ (m : Node). m.place) it);
      }
  each k there (inr other) =
      let it : node (removed t n) k ≡ node t k = removed_other t n k (λ same. other.1 (sym same)) in
      record {
        kind = shows.kind k ∙ (fits.each k there).kind ∙ sym (ap (λ (m : Node). m.kind) it);
        content = shows.content k ∙ (fits.each k there).content ∙ sym (ap (λ (m : Node). m.content) it);
        stand = rw (shows.stand k ∙ put_other (λ i. (tree_entry ls i).stand) n k (Out (node t n).place) other.1)
            (stand_stays t (removed t n) (tree_entry ls k).stand (node t k) (node (removed t n) k) (fits.each k there).stand
            (ap (λ (m : Node). m.linked) it) (ap (λ (m : Node). m.place) it) (λ e q is _. holder_stays k e q is));
      }

  pub removed_fits : Fits us (removed t n)
  removed_fits = record {
    count = shows.count_is ∙ fits.count ∙ sym (removed_length t n);
    each = λ k h. let less : k < length t = omega (arith, removed_length t n) in each k less (eqb_tells n k);
  }

  pub removed_filed : IsFiled us
  removed_filed = filed_same _ _ _ _ (filed_out (λ k. (tree_entry ls k).stand) (λ k. (tree_entry ls k).child) is_filed n d name (node t n).place stand) shows.stand shows.child
