-- Links that fit a tree fit it after a node is made, and its name is filed.
use Rattle.std.proofs.Common.{◌≡◌, ℕ, ◌<◌, ◌+◌, ◌⊎◌, inl, inr, List, [], ◌∷◌, ◌++◌, true, Option, Some, None, length, ap, sym, ◌∙◌, refl, subst, arith}
use Rattle.std.specs.Prelude.{◌≢◌}
use Rattle.std.proofs.lemmas.List.{get_or_past}
use Rattle.file_tree.specs.Places.{at_name}
use Rattle.file_tree.specs.Nodes.{Node, node}
use Rattle.file_tree.specs.Refusals.{created}
use Rattle.file_tree.specs.WellFormed.{IsTree}
use Rattle.file_tree.proofs.NodeLaws.{linked_there}
use Rattle.file_tree.proofs.TreeLaws.{created_length, created_new, created_old, child_by_place}
use Rattle.file_tree.proofs.KeptByCreate.{MayCreate}
use Rattle.link_tree.specs.Links.{Standing, Root, In, Out, TreeEntry, tree_entry, no_tree_entry, StandFits, EntryFits, Fits, IsFiled, filed}
use Rattle.link_tree.proofs.FiledLaws.{put, put2, filed_in, filed_same}
use Rattle.link_tree.proofs.LinkReads.{child_linked}
use Rattle.link_tree.proofs.LinkChanges.{Shows, shows_more, shows_filed, more_link, put_here, put_other}

-- a stand fits a node in another tree if the node is alike and what holds it stays
pub stand_stays : (t u : List Node) (s : Standing) (m m' : Node) → StandFits t s m → m'.linked ≡ m.linked → m'.place ≡ m.place
    → ((d : ℕ) (name : List ℕ) → s ≡ In d name → (node t d).linked ≡ true → node u d ≡ node t d) → StandFits u s m'
stand_stays t u Root m m' h linked place stays = (linked ∙ h.0, place ∙ h.1)
stand_stays t u (In d name) m m' h linked place stays =
    let same : node u d ≡ node t d = stays d name refl h.1 in
    (linked ∙ h.0, ap (λ (x : Node). x.linked) same ∙ h.1, place ∙ h.2 ∙ ap (λ (x : Node). at_name x.place name) (sym same))
stand_stays t u (Out p) m m' h linked place stays = (linked ∙ h.0, place ∙ h.1)

module _ (t : List Node) (ls : List TreeEntry) (d : ℕ) (name : List ℕ) (l : TreeEntry) (tree : IsTree t) (fits : Fits ls t) (is_filed : IsFiled ls)
    (may : MayCreate t d name) (stand : l.stand ≡ In d name)
    (bare : (q : List ℕ) → l.child q ≡ None) where
  -- the directory is one of the links
  d_there : d < length (ls ++ l ∷ [])
  d_there = omega (arith, linked_there t d may.linked, fits.count, (shows_more ls l bare).count_is)

  shows : Shows (filed (ls ++ l ∷ []) d name (Some (length ls))) (length ls + 1) (λ k. (tree_entry (ls ++ l ∷ []) k).kind)
      (λ k. (tree_entry (ls ++ l ∷ []) k).content) (put (λ k. (tree_entry ls k).stand) (length ls) l.stand)
      (put2 (λ k. (tree_entry ls k).child) d name (Some (length ls)))
  shows = shows_filed (ls ++ l ∷ []) _ _ _ _ _ (shows_more ls l bare) d d_there name (Some (length ls))

  old_holder : (e : ℕ) → (node t e).linked ≡ true → node (created t d name l.kind l.content) e ≡ node t e
  old_holder e linked = created_old t d name l.kind l.content e (linked_there t e linked)

  new_fits : EntryFits (created t d name l.kind l.content) (tree_entry (filed (ls ++ l ∷ []) d name (Some (length ls))) (length ls)) (node (created t d name l.kind l.content) (length t))
  new_fits = by_link (more_link ls l (length ls))
    where
      new : node (created t d name l.kind l.content) (length t) ≡ record { kind = l.kind; place = at_name (node t d).place name; linked = true; content = l.content }
      new = created_new t d name l.kind l.content

      stands : StandFits (created t d name l.kind l.content) (In d name) (node (created t d name l.kind l.content) (length t))
      stands =
          let holder = old_holder d may.linked in
          (ap (λ (x : Node). x.linked) new, ap (λ (x : Node). x.linked) holder ∙ may.linked, ap (λ (x : Node). x.place) new ∙ ap (λ (x : Node). at_name x.place name) (sym holder))

      by_link : ((length ls ≡ length ls) × (tree_entry (ls ++ l ∷ []) (length ls) ≡ l)) ⊎ ((length ls ≢ length ls) × (tree_entry (ls ++ l ∷ []) (length ls) ≡ tree_entry ls (length ls)))
          → EntryFits (created t d name l.kind l.content) (tree_entry (filed (ls ++ l ∷ []) d name (Some (length ls))) (length ls)) (node (created t d name l.kind l.content) (length t))
      by_link (inr other) = absurd (other.0 refl)
      by_link (inl same) = record {
        kind = shows.kind (length ls) ∙ ap (λ (x : TreeEntry). x.kind) same.1 ∙ sym (ap (λ (x : Node). x.kind) new);
        content = shows.content (length ls) ∙ ap (λ (x : TreeEntry). x.content) same.1 ∙ sym (ap (λ (x : Node). x.content) new);
        stand = rw (shows.stand (length ls) ∙ put_here (λ k. (tree_entry ls k).stand) (length ls) l.stand ∙ stand) stands;
      }

  old_fits : (k : ℕ) → k < length t → EntryFits (created t d name l.kind l.content) (tree_entry (filed (ls ++ l ∷ []) d name (Some (length ls))) k) (node (created t d name l.kind l.content) k)
  old_fits k there = by_link (more_link ls l k)
    where
      old : node (created t d name l.kind l.content) k ≡ node t k
      old = created_old t d name l.kind l.content k there

      fit : EntryFits t (tree_entry ls k) (node t k)
      fit = fits.each k there

      count : length ls ≡ length t
      count = fits.count

      by_link : ((length ls ≡ k) × (tree_entry (ls ++ l ∷ []) k ≡ l)) ⊎ ((length ls ≢ k) × (tree_entry (ls ++ l ∷ []) k ≡ tree_entry ls k))
          → EntryFits (created t d name l.kind l.content) (tree_entry (filed (ls ++ l ∷ []) d name (Some (length ls))) k) (node (created t d name l.kind l.content) k)
      by_link (inl same) = let number : length ls ≡ k = same.0 in absurd (omega arith)
      by_link (inr other) = record {
        kind = shows.kind k ∙ ap (λ (x : TreeEntry). x.kind) other.1 ∙ fit.kind ∙ sym (ap (λ (x : Node). x.kind) old);
        content = shows.content k ∙ ap (λ (x : TreeEntry). x.content) other.1 ∙ fit.content ∙ sym (ap (λ (x : Node). x.content) old);
        stand = rw (shows.stand k ∙ put_other (λ i. (tree_entry ls i).stand) (length ls) k l.stand other.0)
            (stand_stays t (created t d name l.kind l.content) (tree_entry ls k).stand (node t k) (node (created t d name l.kind l.content) k) fit.stand
            (ap (λ (x : Node). x.linked) old) (ap (λ (x : Node). x.place) old) (λ e q _ linked. old_holder e linked));
      }

  pub created_fits : Fits (filed (ls ++ l ∷ []) d name (Some (length ls))) (created t d name l.kind l.content)
  created_fits = record {
    count = shows.count_is ∙ ap (λ n. n + 1) fits.count ∙ sym (created_length t d name l.kind l.content);
    each = λ k there. by_number k there (more_link ls l k);
  }
    where
      by_number : (k : ℕ) → k < length (created t d name l.kind l.content) → ((length ls ≡ k) × (tree_entry (ls ++ l ∷ []) k ≡ l)) ⊎ ((length ls ≢ k) × (tree_entry (ls ++ l ∷ []) k ≡ tree_entry ls k))
          → EntryFits (created t d name l.kind l.content) (tree_entry (filed (ls ++ l ∷ []) d name (Some (length ls))) k) (node (created t d name l.kind l.content) k)
      by_number k there (inl same) =
          let P : ℕ → ℕ → Type 0 = λ i j. EntryFits (created t d name l.kind l.content) (tree_entry (filed (ls ++ l ∷ []) d name (Some (length ls))) i) (node (created t d name l.kind l.content) j) in
          subst (λ i. P i k) same.0 (subst (λ j. P (length ls) j) (sym fits.count ∙ same.0) new_fits)
      by_number k there (inr other) =
          let apart : length ls ≢ k = other.0 in
          let count : length ls ≡ length t = fits.count in
          let less : k < length t = omega (arith, created_length t d name l.kind l.content) in old_fits k less

  pub created_filed : IsFiled (filed (ls ++ l ∷ []) d name (Some (length ls)))
  created_filed =
      let S : ℕ → Standing = λ k. (tree_entry ls k).stand in
      let C : ℕ → List ℕ → Option ℕ = λ k. (tree_entry ls k).child in
      let out : (tree_entry ls (length ls)).stand ≡ Out [] = ap (λ (x : TreeEntry). x.stand) (get_or_past ls (length ls) no_tree_entry (omega arith)) in
      let free : (tree_entry ls d).child name ≡ None = sym (child_linked t ls tree fits is_filed d name) ∙ child_by_place t d name may.linked ∙ may.free in
      filed_same (put S (length ls) (In d name)) _ (put2 C d name (Some (length ls))) _ (filed_in S C is_filed (length ls) d name [] out free)
      (λ n. shows.stand n ∙ ap (λ s. put S (length ls) s n) stand)
      (λ e q. shows.child e q)
