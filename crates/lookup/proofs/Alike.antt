-- On one tree a lookup by nodes is the lookup by places.
use Rattle.std.proofs.Common.{◌≡◌, ℕ, ◌<◌, ◌+◌, List, [], ◌∷◌, Bool, true, false, Option, Some, None, length, ap, sym, ◌∙◌, refl, arith, cond}
use Rattle.std.specs.Prelude.{not, ◌&&◌, nat_eq}
use Rattle.std.proofs.lemmas.Bool.Decides.{nat_tests}
use Rattle.file_tree.specs.Places.{above, at_name, path_components}
use Rattle.file_tree.specs.Nodes.{Node, node, node_at, child_of, parent_of, is_dir, is_link}
use Rattle.file_tree.proofs.PlaceLaws.{at_name_length, above_at_name}
use Rattle.file_tree.specs.WellFormed.{IsTree}
use Rattle.file_tree.proofs.NodeLaws.{linked_there}
use Rattle.file_tree.proofs.TreeLaws.{Found, at_place, node_at_its_place, child_by_place, parent_above, root_there}
use Rattle.lookup.specs.Answers.{Way, Beneath, Global, Last, is_kept, LookupFault, No_entry}
use Rattle.lookup.specs.Paths.{is_dot, is_dot_dot, path_fault}
use Rattle.rights.specs.Limits.{most_links}
use Rattle.lookup.specs.Steps.{Move, Moves, Meets, looked}
use Rattle.lookup.specs.ByPlaces.{place_below, upwards, downwards, in_place, standing, restart_below, by_places}
use Rattle.lookup.specs.ByNodes.{Walked, from_node, back, into, in_node, restart_node, by_nodes}
use Rattle.lookup.specs.Looks.{start_place, start_node, start_fault, is_start_gone, lookup_fault, or_else, unless_lost, find_of, walk_of}
use Rattle.lookup.proofs.StepLaws.{SameMove, SameCursor, Together, looked_alike}

-- A node stands at the names below a start, and the directories walked before stand above it, one by one.
abbrev pub OnWay : List Node → List (List ℕ) → List (List ℕ) → ℕ → List ℕ → Type 0
OnWay t start [] n [] = Found t start n
OnWay t start [] n (d ∷ before) = ⊥
OnWay t start (name ∷ below) n [] = ⊥
OnWay t start (name ∷ below) n (d ∷ before) = Found t (place_below start (name ∷ below)) n × OnWay t start below d before

abbrev pub Goes_with : List Node → List (List ℕ) → List (List ℕ) → Walked → Type 0
Goes_with t start below walked = OnWay t start below walked.current walked.before

pub stands_there : (t : List Node) (start below : List (List ℕ)) (n : ℕ) (before : List ℕ) → OnWay t start below n before → Found t (place_below start below) n
stands_there t start [] n [] h = h
stands_there t start [] n (d ∷ before) h = absurd h
stands_there t start (name ∷ below) n [] h = absurd h
stands_there t start (name ∷ below) n (d ∷ before) h = h.0

pub found_at : (t : List Node) (p : List (List ℕ)) (n : ℕ) → IsTree t → Found t p n → node_at t p ≡ Some n
found_at t p n tree found = ap (node_at t) (sym found.place) ∙ node_at_its_place t n tree found.linked

-- where the directory walked before holds the node, `..` goes back to it
goes_back : (t : List Node) (way : Way) (n d : ℕ) (before : List ℕ) → parent_of t n ≡ Some d →
    back t way n (d ∷ before) ≡ Moves (record { current = d; before = before })
goes_back t way n d before held = rw (held, same_number d) refl
  where
    same_number : (d : ℕ) → nat_eq d d ≡ true
    same_number d = grind (arith, nat_tests)

-- three tests, one after the other
chain_alike : {P Q : Type 0} (R : P → Q → Type 0) (a b c : Bool) (x u v w : Move P) (x' u' v' w' : Move Q) → SameMove R x x' → SameMove R u u' →
    SameMove R v v' → SameMove R w w' → SameMove R (cond a x (cond b u (cond c v w))) (cond a x' (cond b u' (cond c v' w')))
chain_alike R true b c x u v w x' u' v' w' hx hu hv hw = hx
chain_alike R false true c x u v w x' u' v' w' hx hu hv hw = hu
chain_alike R false false true x u v w x' u' v' w' hx hu hv hw = hv
chain_alike R false false false x u v w x' u' v' w' hx hu hv hw = hw

module _ (t : List Node) (way : Way) (last : Last) (start : List (List ℕ)) (tree : IsTree t) where
  -- the directory walked before holds the node
  held_by : (below : List (List ℕ)) (name : List ℕ) (n d : ℕ) → Found t (place_below start (name ∷ below)) n → Found t (place_below start below) d → parent_of t n ≡ Some d
  held_by below name n d here above_it =
      let longer : length (node t n).place ≡ length (place_below start below) + 1 = ap length here.place ∙ at_name_length (place_below start below) name in
      let low : 0 < length (node t n).place = omega arith in
      parent_above t n here.linked low ∙ ap (λ (p : List (List ℕ)). node_at t (above p)) here.place
      ∙ ap (node_at t) (above_at_name (place_below start below) name) ∙ found_at t (place_below start below) d tree above_it

  up_alike : (way : Way) (below : List (List ℕ)) (n : ℕ) (before : List ℕ) → OnWay t start below n before → SameMove (Goes_with t start) (upwards way below) (back t way n before)
  up_alike Beneath [] n [] h = refl
  up_alike Global [] n [] h = h
  up_alike way [] n (d ∷ before) h = absurd h
  up_alike way (name ∷ below) n [] h = absurd h
  up_alike way (name ∷ below) n (d ∷ before) h =
      rw (goes_back t way n d before (held_by below name n d h.0 (stands_there t start below d before h.1))) h.1

  down_alike : (below : List (List ℕ)) (d : ℕ) (before : List ℕ) (name : List ℕ) (left : List (List ℕ)) (o : Option ℕ) →
      OnWay t start below d before → node_at t (at_name (place_below start below) name) ≡ o →
      SameMove (Goes_with t start) (downwards t last below name left d o) (into t last d before left o)
  down_alike below d before name left None h e = refl
  down_alike below d before name left (Some n) h e = by_kind (is_link (node t n).kind && not (is_kept last left))
    where
      by_kind : (b : Bool) → SameMove (Goes_with t start) (cond b (Meets (node t n).content) (Moves (name ∷ below)))
          (cond b (Meets (node t n).content) (Moves (record { current = n; before = d ∷ before })))
      by_kind true = refl
      by_kind false = (at_place t (at_name (place_below start below) name) n e, h)

  component_alike : (below : List (List ℕ)) (d : ℕ) (before : List ℕ) (name : List ℕ) (left : List (List ℕ)) → OnWay t start below d before →
      SameMove (Goes_with t start) (in_place t way last start below name left (node_at t (place_below start below)))
      (in_node t way last d before name left)
  component_alike below d before name left h =
      let found = stands_there t start below d before h in
      let there : node_at t (place_below start below) ≡ Some d = found_at t (place_below start below) d tree found in
      let child : child_of t d name ≡ node_at t (at_name (place_below start below) name) = child_by_place t d name found.linked ∙ ap (λ (p : List (List ℕ)). node_at t (at_name p name)) found.place in
      rw (there, child, found.linked) (chain_alike (Goes_with t start) (not (is_dir (node t d).kind)) (is_dot name) (is_dot_dot name) _ _ _ _ _ _ _ _ refl h
      (up_alike way below d before h) (down_alike below d before name left _ h refl))

  pub together : SameCursor (Goes_with t start) (restart_below way) (restart_node way) → Together (by_places t way last start) (by_nodes t way last) (Goes_with t start)
  unfolding by_places by_nodes
  together restart = record {
    arrived = λ below walked h. ap standing (found_at t (place_below start below) walked.current tree (stands_there t start below walked.current walked.before h));
    component = λ below walked name left h. component_alike below walked.current walked.before name left h;
    restart = restart;
  }

root_found : (t : List Node) → IsTree t → Found t [] 0
root_found t tree = record { there = root_there t tree; linked = tree.root_linked; place = tree.root_place }

restart_alike : (t : List Node) (start : ℕ) (way : Way) → IsTree t → SameCursor (Goes_with t (start_place t start way)) (restart_below way) (restart_node way)
restart_alike t start Beneath tree = tt
restart_alike t start Global tree = root_found t tree

-- where nothing is wrong, the start stands where the lookup starts
pub start_found : (t : List Node) (start : ℕ) (way : Way) → IsTree t → is_start_gone t start way ≡ false → Found t (start_place t start way) (start_node start way)
start_found t start Beneath tree there = let linked = not_gone (node t start).linked there in record { there = linked_there t start linked; linked = linked; place = refl }
  where
    not_gone : (b : Bool) → not b ≡ false → b ≡ true
    not_gone true h = refl
    not_gone false h = cc
start_found t start Global tree there = root_found t tree

-- nothing is wrong: neither with the text nor with the start
pub no_fault : (t : List Node) (start : ℕ) (path : List ℕ) (way : Way) (last : Last) → lookup_fault t start path way last ≡ None →
    (path_fault path way last ≡ None) × (is_start_gone t start way ≡ false)
unfolding lookup_fault
no_fault t start path way last h = by_text (path_fault path way last) refl h
  where
    by_start : (b : Bool) → cond b (Some No_entry) None ≡ None → b ≡ false
    by_start true e = cc
    by_start false e = refl

    by_text : (o : Option LookupFault) → path_fault path way last ≡ o → or_else o (start_fault t start way) ≡ None → (path_fault path way last ≡ None) × (is_start_gone t start way ≡ false)
    by_text None is e = (is, by_start (is_start_gone t start way) e)
    by_text (Some f) is e = cc

-- The walk gives what the path leads to.
pub walk_is_find : (t : List Node) (start : ℕ) (path : List ℕ) (way : Way) (last : Last) → IsTree t → walk_of t start path way last ≡ find_of t start path way last
unfolding walk_of find_of
walk_is_find t start path way last tree = by_fault (lookup_fault t start path way last) refl
  where
    by_fault : (o : Option LookupFault) → lookup_fault t start path way last ≡ o →
        unless_lost o (looked (by_nodes t way last) most_links (path_components path) (from_node (start_node start way))) ≡ unless_lost o
        (looked (by_places t way last (start_place t start way)) most_links (path_components path) [])
    by_fault None e =
        sym (looked_alike (by_places t way last (start_place t start way)) (by_nodes t way last) (Goes_with t (start_place t start way))
        (together t way last (start_place t start way) tree (restart_alike t start way tree)) most_links (path_components path) []
        (from_node (start_node start way))
        (start_found t start way tree (no_fault t start path way last e).1))
    by_fault (Some f) e = refl
