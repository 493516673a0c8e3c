-- A path along directories leads to the place that it spells.
use Rattle.std.proofs.Common.{◌≡◌, ℕ, ◌<◌, List, [], ◌∷◌, ◌++◌, Bool, true, false, Option, Some, None, length, ap, sym, ◌∙◌, refl, append_assoc}
use Rattle.std.specs.Prelude.{not, ◌&&◌, ◌||◌}
use Rattle.std.specs.List.{list_all}
use Rattle.std.proofs.lemmas.Bool.{and_parts}
use Rattle.std.proofs.lemmas.List.{append-nil}
use Rattle.std.proofs.lemmas.List.Folds.{list_all-append}
use Rattle.file_tree.specs.Places.{at_name, is_dots, is_file_name, path_components}
use Rattle.file_tree.specs.Nodes.{Node, node, node_at, is_link}
use Rattle.file_tree.specs.WellFormed.{IsTree, is_within_limits, is_content, is_byte}
use Rattle.file_tree.proofs.NodeLaws.{Directory, linked_there}
use Rattle.file_tree.proofs.TreeLaws.{Found}
use Rattle.lookup.specs.Answers.{Way, Last, Found_node}
use Rattle.lookup.specs.Paths.{is_dot, is_dot_dot}
use Rattle.lookup.specs.Leads.{Ends, Leads, onward, here, there}
use Rattle.lookup.specs.Steps.{Moves}
use Rattle.lookup.specs.ByPlaces.{place_below, in_place, standing, by_places}
use Rattle.lookup.specs.Looks.{start_place, lookup_fault, Looks}
use Rattle.lookup.specs.Promises.{Spells}
use Rattle.lookup.proofs.Alike.{found_at}
use Rattle.lookup.proofs.PlaceLaws.{directory_above, no_directory_link}

stands : (t : List Node) (p : List (List ℕ)) (d : Directory t p) → Found t p d.number
stands t p d = record { there = linked_there t d.number d.linked; linked = d.linked; place = d.place }

more_found : (t : List Node) (p : List (List ℕ)) (x : List ℕ) (r : List (List ℕ)) (n : ℕ) → Found t (p ++ x ∷ r) n → Found t (at_name p x ++ r) n
more_found t p x r n found = record { there = found.there; linked = found.linked; place = found.place ∙ sym (append_assoc p (x ∷ []) r) }

-- what is above a node is a directory
pub front_directory : (t : List Node) (p : List (List ℕ)) (x : List ℕ) (r : List (List ℕ)) (n : ℕ) → IsTree t → Found t (p ++ x ∷ r) n → Directory t p
front_directory t p x [] n tree found = directory_above t p x n tree found
front_directory t p x (y ∷ r) n tree found =
    let d = front_directory t (at_name p x) y r n tree (more_found t p x (y ∷ r) n found) in
    directory_above t p x d.number tree (stands t (at_name p x) d)

pub no_dots : (name : List ℕ) → is_file_name name ≡ true → (is_dot name ≡ false) × (is_dot_dot name ≡ false)
unfolding is_file_name
no_dots name h = by_parts (is_dot name) (is_dot_dot name) (and_parts _ (not (is_dots name)) h).1
  where
    by_parts : (x y : Bool) → not (x || y) ≡ true → (x ≡ false) × (y ≡ false)
    by_parts true y h = cc
    by_parts false true h = cc
    by_parts false false h = (refl, refl)

-- the node under the next name is no link
record Next_node (t : List Node) (p : List (List ℕ)) : Type 0 where
  number : ℕ
  at : node_at t p ≡ Some number
  opened : is_link (node t number).kind ≡ false

next_node : (t : List Node) (p : List (List ℕ)) (name : List ℕ) (left : List (List ℕ)) (n : ℕ) → IsTree t → is_link (node t n).kind ≡ false →
    Found t (p ++ name ∷ left) n → Next_node t (at_name p name)
next_node t p name [] n tree opened found = record { number = n; at = found_at t (at_name p name) n tree found; opened = opened }
next_node t p name (x ∷ left) n tree opened found =
    let d = front_directory t (at_name p name) x left n tree (more_found t p name (x ∷ left) n found) in
    record { number = d.number; at = found_at t (at_name p name) d.number tree (stands t (at_name p name) d); opened = no_directory_link (node t d.number).kind d.kind }

module _ (t : List Node) (way : Way) (last : Last) (start : List (List ℕ)) (tree : IsTree t) (n : ℕ) (opened : is_link (node t n).kind ≡ false) where
  goes_down : (below : List (List ℕ)) (name : List ℕ) (left : List (List ℕ)) → is_file_name name ≡ true →
      Found t (place_below start below ++ name ∷ left) n →
      in_place t way last start below name left (node_at t (place_below start below)) ≡ Moves (name ∷ below)
  goes_down below name left valid found =
      let d = front_directory t (place_below start below) name left n tree found in
      let at = found_at t (place_below start below) d.number tree (stands t (place_below start below) d) in
      let m = next_node t (place_below start below) name left n tree opened found in
      let dots = no_dots name valid in
      rw (at, d.kind, dots.0, dots.1, m.at, m.opened) refl

  leads_along : (names below : List (List ℕ)) (followed : ℕ) → list_all is_file_name names ≡ true → Found t (place_below start below ++ names) n →
      Leads (by_places t way last start) (record { cursor = below; left = names; followed = followed }) (Found_node n)
  unfolding by_places
  leads_along [] below followed valid found =
      let ends : (node t n).place ≡ place_below start below = found.place ∙ append-nil (place_below start below) in
      here (ap (λ (o : Option ℕ). Ends (standing o)) (found_at t (place_below start below) n tree (record { there = found.there; linked = found.linked; place = ends })))
  leads_along (name ∷ names) below followed valid found =
      let parts = and_parts (is_file_name name) (list_all is_file_name names) valid in
      there (ap (onward (by_places t way last start) below names followed) (goes_down below name names parts.0 found))
      (leads_along names (name ∷ below) followed parts.1 (more_found t (place_below start below) name names n found))

-- the names of a tree's places are names of nodes
place_names : (t : List Node) (n : ℕ) → IsTree t → n < length t → list_all is_file_name (node t n).place ≡ true
unfolding is_within_limits
place_names t n tree in_tree =
    (and_parts _ _ (and_parts (list_all is_file_name (node t n).place && is_content (node t n).kind (node t n).content) (list_all is_byte (node t n).content) (tree.limits n in_tree)).0).0

back_names : (p q : List (List ℕ)) → list_all is_file_name (p ++ q) ≡ true → list_all is_file_name q ≡ true
back_names p q h = (and_parts (list_all is_file_name p) (list_all is_file_name q) (sym (list_all-append is_file_name p q) ∙ h)).1

-- The path leads to the node that it spells.
pub looks_along : (t : List Node) (start : ℕ) (path : List ℕ) (way : Way) (last : Last) (n : ℕ) → IsTree t →
    lookup_fault t start path way last ≡ None → Spells t (start_place t start way) path n → Looks t start path way last (Found_node n)
unfolding Looks
looks_along t start path way last n tree none spells =
    let in_tree = linked_there t n spells.linked in
    let all : list_all is_file_name (start_place t start way ++ path_components path) ≡ true = ap (list_all is_file_name) (sym spells.place) ∙ place_names t n tree in_tree in
    rw none (leads_along t way last (start_place t start way) tree n spells.opened (path_components path) [] 0
    (back_names (start_place t start way) (path_components path) all)
    (record { there = in_tree; linked = spells.linked; place = spells.place }))
