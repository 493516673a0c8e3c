-- What a walk that goes on, or ends, says of the whole.
use Rattle.std.proofs.Common.{◌≡◌, ℕ, List, [], ◌∷◌, Option, Some, None, ap, subst, sym, ◌∙◌, refl, arith}
use Rattle.std.specs.Prelude.{IfSome}
use Rattle.file_tree.specs.Places.{path_components}
use Rattle.file_tree.specs.Nodes.{Node}
use Rattle.lookup.specs.Answers.{Way, Last, LookupFault, Finding, Found_node, Not_found}
use Rattle.rights.specs.Limits.{most_links}
use Rattle.file_tree.specs.WellFormed.{IsTree}
use Rattle.lookup.specs.Leads.{Stand, Next, Goes, Ends, next, Leads, here, there}
use Rattle.lookup.specs.Steps.{looked}
use Rattle.lookup.specs.ByNodes.{Walked, from_node, by_nodes}
use Rattle.lookup.specs.Walks.{WalkState, Done, More, begun, settled_at, settled, handled, Arrives, in_one, in_more}
use Rattle.lookup.specs.Looks.{first_stand, start_node, lookup_fault, unless_lost, find_of, walk_of}
use Rattle.lookup.specs.Views.{fault_of, not_found}
use Rattle.lookup.specs.declared.faults.PathFault.{PathFault}
use Rattle.lookup.proofs.StepLaws.{rest_of, rest_goes, rest_ends, leads_rest, leads_only}
use Rattle.lookup.proofs.Alike.{walk_is_find}

-- what is left of a walk leads to
abbrev pub rest_of_walk : List Node → WalkState → Finding
rest_of_walk t walk = rest_of (by_nodes t walk.way walk.last) walk.stand

-- where nothing is wrong, all is left before the first name
walk_is_rest : (t : List Node) (start : ℕ) (path : List ℕ) (way : Way) (last : Last) → lookup_fault t start path way last ≡ None →
    rest_of (by_nodes t way last) (first_stand (from_node (start_node start way)) path) ≡ walk_of t start path way last
unfolding walk_of
walk_is_rest t start path way last none = rw none refl

pub begun_rest : (t : List Node) (start : ℕ) (path : List ℕ) (way : Way) (last : Last) (walk : WalkState) → lookup_fault t start path way last ≡ None →
    walk ≡ begun start path way last → rest_of_walk t walk ≡ walk_of t start path way last
begun_rest t start path way last walk none is = rw is (walk_is_rest t start path way last none)

-- where something is wrong, that is the answer
pub fault_is_walk : (t : List Node) (start : ℕ) (path : List ℕ) (way : Way) (last : Last) (error : PathFault) →
    lookup_fault t start path way last ≡ fault_of error → IfSome (not_found (fault_of error)) (λ answer. answer ≡ walk_of t start path way last)
unfolding walk_of
fault_is_walk t start path way last error same = by_fault (fault_of error) same
  where
    by_fault : (o : Option LookupFault) → lookup_fault t start path way last ≡ o →
        IfSome (not_found o) (λ answer. answer ≡ unless_lost (lookup_fault t start path way last)
        (looked (by_nodes t way last) most_links (path_components path) (from_node (start_node start way))))
    by_fault None e = tt
    by_fault (Some fault) e = rw e refl

-- where no name is left, what is left leads to where the walk stands
arrived_rest : (t : List Node) (way : Way) (last : Last) (stand : Stand Walked) → stand.left ≡ [] → rest_of (by_nodes t way last) stand ≡ Found_node stand.cursor.current
unfolding by_nodes
arrived_rest t way last stand none = rest_ends (by_nodes t way last) stand (Found_node stand.cursor.current) (rw none refl)

module _ (t : List Node) (walk : WalkState) where
  -- a walk that goes on leaves what it had left before
  pub handled_more : (after : WalkState) → handled t walk ≡ More after → rest_of_walk t after ≡ rest_of_walk t walk
  unfolding handled
  handled_more after event = by_next (next (by_nodes t walk.way walk.last) walk.stand) refl event
    where
      by_left : (stand : Stand Walked) (left : List (List ℕ)) → next (by_nodes t walk.way walk.last) walk.stand ≡ Goes stand →
          settled_at walk stand left ≡ More after → rest_of_walk t after ≡ rest_of_walk t walk
      by_left stand [] goes e = cc
      by_left stand (name ∷ left) goes e =
          let same : record walk { stand = stand } ≡ after = cc in
          subst (λ (w : WalkState). rest_of_walk t w ≡ rest_of_walk t walk) same (sym (rest_goes (by_nodes t walk.way walk.last) walk.stand stand goes))

      by_next : (after_it : Next Walked) → next (by_nodes t walk.way walk.last) walk.stand ≡ after_it → settled walk after_it ≡ More after → rest_of_walk t after ≡ rest_of_walk t walk
      by_next (Goes stand) is e = by_left stand stand.left is e
      by_next (Ends finding) is e = cc

  -- one that ends gives what it had left
  pub handled_done : (finding : Finding) → handled t walk ≡ Done finding → rest_of_walk t walk ≡ finding
  unfolding handled
  handled_done finding event = by_next (next (by_nodes t walk.way walk.last) walk.stand) refl event
    where
      by_left : (stand : Stand Walked) (left : List (List ℕ)) → stand.left ≡ left → next (by_nodes t walk.way walk.last) walk.stand ≡ Goes stand →
          settled_at walk stand left ≡ Done finding → rest_of_walk t walk ≡ finding
      by_left stand [] none goes e =
          let same : Found_node stand.cursor.current ≡ finding = cc in
          rest_goes (by_nodes t walk.way walk.last) walk.stand stand goes ∙ arrived_rest t walk.way walk.last stand none ∙ same
      by_left stand (name ∷ left) some goes e = cc

      by_next : (after : Next Walked) → next (by_nodes t walk.way walk.last) walk.stand ≡ after → settled walk after ≡ Done finding → rest_of_walk t walk ≡ finding
      by_next (Goes stand) is e = by_left stand stand.left refl is e
      by_next (Ends other) is e =
          let same : other ≡ finding = cc in rest_ends (by_nodes t walk.way walk.last) walk.stand other is ∙ same

  -- so what it gives is the answer of the whole
  pub ends_with : (finding answer : Finding) → handled t walk ≡ Done finding → rest_of_walk t walk ≡ answer → finding ≡ answer
  ends_with finding answer event rest = sym (handled_done finding event) ∙ rest

  pub ends_lost : (o : Option LookupFault) (answer : Finding) → IfSome o (λ fault. handled t walk ≡ Done (Not_found fault)) → rest_of_walk t walk ≡ answer →
      IfSome (not_found o) (λ a. a ≡ answer)
  ends_lost None answer event rest = tt
  ends_lost (Some fault) answer event rest = ends_with (Not_found fault) answer event rest

-- On one tree a walk comes to what it has left.
arrives_rest : (t : List Node) (walk : WalkState) (finding : Finding) → Arrives t walk finding → rest_of_walk t walk ≡ finding
arrives_rest t walk finding (in_one event) = handled_done t walk finding event
arrives_rest t walk finding (in_more {after = after} event rest) = sym (handled_more t walk after event) ∙ arrives_rest t after finding rest

abbrev walk_at : Way → Last → Stand Walked → WalkState
walk_at way last stand = record { way = way; last = last; stand = stand }

leads_arrives : (t : List Node) (way : Way) (last : Last) (stand : Stand Walked) (finding : Finding) → Leads (by_nodes t way last) stand finding →
    Arrives t (walk_at way last stand) finding
unfolding handled
leads_arrives t way last stand finding (here ends) = in_one (ap (settled (walk_at way last stand)) ends)
leads_arrives t way last stand finding (there {after = after} goes led) =
    by_left after.left refl (ap (settled (walk_at way last stand)) goes) (leads_arrives t way last after finding led)
  where
    by_left : (left : List (List ℕ)) → after.left ≡ left → handled t (walk_at way last stand) ≡ settled_at (walk_at way last stand) after after.left →
        Arrives t (walk_at way last after) finding → Arrives t (walk_at way last stand) finding
    by_left [] none event rest =
        let is : finding ≡ Found_node after.cursor.current = leads_only (by_nodes t way last) after finding led ∙ arrived_rest t way last after none in
        in_one (event ∙ ap (settled_at (walk_at way last stand) after) none ∙ sym (ap Done is))
    by_left (name ∷ left) some event rest = in_more (event ∙ ap (settled_at (walk_at way last stand) after) some) rest

-- So it comes to what the path leads to.
module _ (t : List Node) (start : ℕ) (path : List ℕ) (way : Way) (last : Last) (finding : Finding) (tree : IsTree t) (none : lookup_fault t start path way last ≡ None) where
  rest_is_find : rest_of_walk t (begun start path way last) ≡ find_of t start path way last
  rest_is_find = walk_is_rest t start path way last none ∙ walk_is_find t start path way last tree

  pub arrives_at_find : Arrives t (begun start path way last) finding → find_of t start path way last ≡ finding
  arrives_at_find arrives = sym rest_is_find ∙ arrives_rest t (begun start path way last) finding arrives

  pub find_arrives : find_of t start path way last ≡ finding → Arrives t (begun start path way last) finding
  find_arrives found =
      let stand = first_stand (from_node (start_node start way)) path in
      subst (λ (a : Finding). Arrives t (begun start path way last) a) (rest_is_find ∙ found)
      (leads_arrives t way last stand _ (leads_rest (by_nodes t way last) stand (omega arith)))
