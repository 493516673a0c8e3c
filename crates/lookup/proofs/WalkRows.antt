-- Rows of lookups under way: what an event comes to in a tree that has changed since the one before.
use Rattle.std.specs.Prelude.{◌≡◌, ℕ, zero, suc, List, [], ◌∷◌, codes, refl}
use Rattle.file_tree.specs.Places.{path_components}
use Rattle.file_tree.specs.Nodes.{File, Dir, Link, Node, node_at, child_of, parent_of}
use Rattle.file_tree.specs.Changes.{removed, renamed}
use Rattle.file_tree.specs.Refusals.{new_tree, created}
use Rattle.lookup.specs.Answers.{Way, Beneath, Global, Last, Follow, Keep, Escape, No_entry, Not_dir, Found_node, Not_found}
use Rattle.lookup.specs.ByNodes.{by_nodes}
use Rattle.lookup.specs.Walks.{WalkState, Progress, Done, More, begun, handled}

-- Directories `/work` with `out` and `alt`, in `out` the directory `d` with the file `g`, the file `f`, and in `/work` a link to the root.
base : List Node
base =
    let a = created new_tree 0 (codes "work") Dir [] in
    let b = created a 1 (codes "out") Dir [] in
    let c = created b 1 (codes "alt") Dir [] in
    let d = created c 2 (codes "d") Dir [] in
    let e = created d 4 (codes "g") File (codes "Z") in
    let f = created e 2 (codes "f") File [] in
    created f 1 (codes "root") Link (codes "/")

-- `d` is in `alt`, or was removed with the file in it
moved : List Node
moved = renamed base 4 (codes "work" ∷ codes "alt" ∷ codes "d" ∷ [])

emptied : List Node
emptied = removed (removed base 5) 4

-- a lookup from `/work`, and what is left of it after some events on a tree
abbrev lookup : List ℕ → Way → Last → WalkState
lookup path way last = begun 1 path way last

abbrev then_on : List Node → Progress → Progress
then_on t (Done finding) = Done finding
then_on t (More walk) = handled t walk

abbrev after : ℕ → List Node → WalkState → Progress
after zero t walk = More walk
after (suc events) t walk = then_on t (after events t walk)

-- the directory walked before doesn't hold it any more
moved_beneath : then_on moved (after 2 base (lookup (codes "out/d/../f") Beneath Follow)) ≡ Done (Not_found Escape)
unfolding base created moved handled by_nodes path_components node_at child_of parent_of
moved_beneath = refl

moved_global : then_on moved (after 3 base (lookup (codes "/work/out/d/../f") Global Follow)) ≡ Done (Not_found No_entry)
unfolding base created moved handled by_nodes path_components node_at child_of parent_of
moved_global = refl

-- on the tree as it was, and in what was moved
as_it_was : after 4 base (lookup (codes "out/d/../f") Beneath Follow) ≡ Done (Found_node 6)
unfolding base created handled by_nodes path_components node_at child_of parent_of
as_it_was = refl

goes_along : then_on moved (after 2 base (lookup (codes "out/d/g") Beneath Follow)) ≡ Done (Found_node 5)
unfolding base created moved handled by_nodes path_components node_at child_of parent_of
goes_along = refl

-- nothing is looked up in a directory that was removed, not even the directory itself
nothing_in_removed : then_on emptied (after 2 base (lookup (codes "out/d/g") Beneath Follow)) ≡ Done (Not_found No_entry)
unfolding base created removed emptied handled by_nodes path_components node_at child_of parent_of
nothing_in_removed = refl

dot_in_removed : then_on emptied (after 2 base (lookup (codes "out/d/.") Beneath Follow)) ≡ Done (Not_found No_entry)
unfolding base created removed emptied handled by_nodes path_components node_at child_of parent_of
dot_in_removed = refl

back_from_removed : then_on emptied (after 2 base (lookup (codes "out/d/..") Beneath Follow)) ≡ Done (Not_found No_entry)
unfolding base created removed emptied handled by_nodes path_components node_at child_of parent_of
back_from_removed = refl

free_in_removed : then_on emptied (after 2 base (lookup (codes "out/d/new") Beneath Keep)) ≡ Done (Not_found No_entry)
unfolding base created removed emptied handled by_nodes path_components node_at child_of parent_of
free_in_removed = refl

-- a file is no directory, removed or not
name_in_removed_file : then_on emptied (after 3 base (lookup (codes "out/d/g/x") Beneath Follow)) ≡ Done (Not_found Not_dir)
unfolding base created removed emptied handled by_nodes path_components node_at child_of parent_of
name_in_removed_file = refl

-- one event for a name, and none for the end: a path without names and a link to the root end in the first
one_each : after 3 base (lookup (codes "out/d/g") Beneath Follow) ≡ Done (Found_node 5)
unfolding base created handled by_nodes path_components node_at child_of parent_of
one_each = refl

no_names : after 1 base (lookup (codes "/") Global Follow) ≡ Done (Found_node 0)
unfolding base created handled by_nodes path_components node_at child_of parent_of
no_names = refl

link_to_root : after 2 base (lookup (codes "work/root") Global Follow) ≡ Done (Found_node 0)
unfolding base created handled by_nodes path_components node_at child_of parent_of
link_to_root = refl

-- at its start `..` stays what it is, wherever that was moved
start_moved : handled moved (begun 4 (codes "..") Beneath Follow) ≡ Done (Not_found Escape)
unfolding base created moved handled by_nodes path_components node_at child_of parent_of
start_moved = refl
