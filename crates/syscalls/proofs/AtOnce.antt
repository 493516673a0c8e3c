-- What one name leads to at once, for the calls of the model.
use Rattle.std.proofs.Common.{◌≡◌, ℕ, List, [], ◌∷◌, true, false, ap, ◌∙◌, refl}
use Rattle.std.specs.Prelude.{Option, Some, None, Ok}
use Rattle.rights.specs.Values.{PathText}
use Rattle.file_tree.specs.Nodes.{Node}
use Rattle.file_tree.specs.Places.{path_components}
use Rattle.lookup.specs.Answers.{Way, Beneath, Last, Keep, LookupFault, Found_node}
use Rattle.lookup.specs.Looks.{lookup_fault}
use Rattle.lookup.specs.Walks.{Done, begun, first_handled, handled, unless_faulty}
use Rattle.lookup.specs.Views.{found_of}
use Rattle.lookup.specs.declared.ways.Found.{Found}
use Rattle.lookup.specs.declared.ways.Found.TheVariants as found
use Rattle.process.specs.State.{ProcessState}
use Rattle.kernel.specs.World.{World}
use Rattle.kernel.specs.Answers.{Answer, Event}
use Rattle.fd_table.specs.OpenFiles.{OpenFiles}
use Rattle.file_tree.specs.Nodes.{is_link, node}
use Rattle.file_tree.specs.WellFormed.{IsTree}
use Rattle.lookup.proofs.UnderWay.{begun_under_way}
use Rattle.kernel.specs.Calls.{found_last, is_at_last, existing}
use Rattle.lookup.specs.Answers as lookups
use Rattle.syscalls.specs.declared.lookups.Both.{Both}
use Rattle.syscalls.specs.AnswerViews.{AreFound}
use Rattle.syscalls.specs.Views.{world_with}
use Rattle.syscalls.proofs.Walked.{are_found, both_first, last_is}

-- A first event that finds something: nothing is wrong before it.
pub found_first : (t : List Node) (start : ℕ) (path : PathText) (way : Way) (last : Last) (code : Found) → first_handled t start path way last ≡ Done (found_of code) →
    (lookup_fault t start path way last ≡ None) × (handled t (begun start path way last) ≡ Done (found_of code))
unfolding first_handled
found_first t start path way last code is = by_fault (lookup_fault t start path way last) refl is
  where
    by_fault : (o : Option LookupFault) → lookup_fault t start path way last ≡ o → unless_faulty o (handled t (begun start path way last)) ≡ Done (found_of code) →
        (lookup_fault t start path way last ≡ None) × (handled t (begun start path way last) ≡ Done (found_of code))
    by_fault None none is = (none, is)
    by_fault (Some fault) some is = absurd (by_code code is)
      where
        by_code : (code : Found) → Done (lookups.Not_found fault) ≡ Done (found_of code) → ⊥
        by_code (found.Node n) is = cc
        by_code (found.Free d) is = cc

at_last : (start : ℕ) (path : PathText) → path_components path ≡ path ∷ [] → is_at_last (begun start path Beneath Keep) ≡ true
at_last start path is = rw is refl

last_found : (t : List Node) (start : ℕ) (path : PathText) (code : Found) → first_handled t start path Beneath Keep ≡ Done (found_of code) →
    found_last (handled t (begun start path Beneath Keep)) ≡ found_of code
last_found t start path code is = rw (found_first t start path Beneath Keep code is).1 refl

module _ (w : World) (p : ℕ) (s : ProcessState) (e : Event) (n : ℕ) (from : PathText) (m : ℕ) (to : PathText) where
  pub both_at_once : (k : ℕ) (place : Found) (rest : ℕ → lookups.Finding → Answer) → path_components from ≡ from ∷ [] → path_components to ≡ to ∷ [] →
      first_handled w.tree n from Beneath Keep ≡ Done (Found_node k) → first_handled w.tree m to Beneath Keep ≡ Done (found_of place) →
      both_first w p s e n from m to (λ source place. existing source (λ k. rest k place)) ≡ rest k (found_of place)
  both_at_once k place rest one other source target =
      rw ((found_first w.tree n from Beneath Keep (found.Node k) source).0, (found_first w.tree m to Beneath Keep place target).0)
      (last_is w p s e (begun n from Beneath Keep) (begun m to Beneath Keep) (λ source place. existing source (λ k. rest k place)) (at_last n from one) (at_last m to other)
      ∙ rw (last_found w.tree n from (found.Node k) source, last_found w.tree m to place target) refl)

-- what both paths lead to, in the words of a rename
module _ (t : List Node) (n : ℕ) (from : PathText) (m : ℕ) (to : PathText) (both : Both) (source : Found) (is : source ≡ found.Node both.node)
    (one : first_handled t n from Beneath Keep ≡ Done (found_of source)) (other : first_handled t m to Beneath Keep ≡ Done (found_of both.place)) where
  abbrev node_first : first_handled t n from Beneath Keep ≡ Done (Found_node both.node)
  node_first = one ∙ ap (λ code. Done (found_of code)) is

  pub leads_at_once : path_components from ≡ from ∷ [] → path_components to ≡ to ∷ [] → (s : ProcessState) (f : OpenFiles) (processes : List ProcessState) (p : ℕ) (e : Event)
      (rest : ℕ → lookups.Finding → Answer) →
      both_first (world_with t f processes) p s e n from m to (λ place other. existing place (λ k. rest k other)) ≡ rest both.node (found_of both.place)
  leads_at_once alone also s f processes p e rest = both_at_once (world_with t f processes) p s e n from m to both.node both.place rest alone also node_first other

  pub found_at_once : IsTree t → is_link (node t n).kind ≡ false → is_link (node t m).kind ≡ false → AreFound t from to both
  found_at_once tree opened also =
      are_found t from to (begun n from Beneath Keep) (begun m to Beneath Keep) (Ok both) tree
      (begun_under_way t from Beneath Keep tree n opened refl (found_first t n from Beneath Keep (found.Node both.node) node_first).0)
      (begun_under_way t to Beneath Keep tree m also refl (found_first t m to Beneath Keep both.place other).0)
      (last_found t n from (found.Node both.node) node_first) (last_found t m to both.place other)
