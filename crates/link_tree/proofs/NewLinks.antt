-- The root alone is linked, and is the new tree.
use Rattle.std.proofs.Common.{◌≡◌, ℕ, zero, suc, ◌<◌, List, [], ◌∷◌, Some, None, sym, ◌∙◌, refl, arith}
use Rattle.file_tree.specs.Nodes.{Dir, node}
use Rattle.file_tree.specs.Refusals.{new_tree}
use Rattle.link_tree.specs.Links.{Root, In, TreeEntry, tree_entry, linked_nodes, EntryFits, Fits, IsFiled, IsLinkedTree}
use Rattle.file_tree.proofs.NewTree.{new_is_tree}
use Rattle.link_tree.proofs.LinkLaws.{is_linked}

module _ (l : TreeEntry) (kind : l.kind ≡ Dir) (stand : l.stand ≡ Root) (bare : (name : List ℕ) → l.child name ≡ None) (content : l.content ≡ []) where
  root_fits : Fits (l ∷ []) new_tree
  root_fits = record { count = refl; each = each }
    where
      each : (n : ℕ) → n < 1 → EntryFits new_tree (tree_entry (l ∷ []) n) (node new_tree n)
      each zero h = record { kind = kind; content = content; stand = rw stand (refl, refl) }
      each (suc n) h = absurd (omega arith)

  root_filed : IsFiled (l ∷ [])
  root_filed = record { named = named; holds = holds }
    where
      named : (n d : ℕ) (name : List ℕ) → (tree_entry (l ∷ []) n).stand ≡ In d name → (tree_entry (l ∷ []) d).child name ≡ Some n
      named zero d name h = let no : Root ≡ In d name = sym stand ∙ h in cc
      named (suc n) d name h = cc

      holds : (d : ℕ) (name : List ℕ) (n : ℕ) → (tree_entry (l ∷ []) d).child name ≡ Some n → (tree_entry (l ∷ []) n).stand ≡ In d name
      holds zero name n h = let no : None ≡ Some n = sym (bare name) ∙ h in cc
      holds (suc d) name n h = cc

  pub root_linked : IsLinkedTree (l ∷ []) × (linked_nodes (l ∷ []) ≡ new_tree)
  root_linked = is_linked new_tree (l ∷ []) new_is_tree root_fits root_filed
