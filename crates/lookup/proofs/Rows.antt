-- Rows of the definitions: the values of worked examples, which the definitions compute.
use Rattle.std.specs.Prelude.{◌≡◌, ℕ, zero, suc, ◌+◌, List, [], ◌∷◌, ◌++◌, Some, None, codes, length, nat_eq, nat_le, replicate, refl, true, false}
use Rattle.rights.specs.Limits.{most_path}
use Rattle.file_tree.specs.Places.{is_file_name, names_fit, names_from, path_components, slash}
use Rattle.file_tree.specs.Nodes.{File, Dir, Link, Node, node_at, child_of, parent_of}
use Rattle.file_tree.specs.Changes.{removed}
use Rattle.file_tree.specs.Refusals.{new_tree, created}
use Rattle.lookup.specs.Answers.{Way, Beneath, Global, Last, Follow, Keep, Escape, No_entry, Not_dir, Loop, Too_long, Bad_last, Finding, Found_node, Found_free, Not_found}
use Rattle.lookup.specs.Paths.{last_component, path_fault}
use Rattle.lookup.specs.Steps.{looked}
use Rattle.lookup.specs.ByPlaces.{by_places}
use Rattle.lookup.specs.ByNodes.{by_nodes}
use Rattle.lookup.specs.Looks.{lookup_fault, find_of, walk_of}
use Rattle.lookup.specs.AtOnce.{at_once}

-- Directories `/work` with `in`, `out` and three links, `/workshop` with `x`, `/log`, and `/etc` with
-- `passwd`: eleven nodes after the root.
base : List Node
base =
    let a = created new_tree 0 (codes "work") Dir [] in
    let b = created a 1 (codes "in") File (codes "AB") in
    let c = created b 1 (codes "out") Dir [] in
    let d = created c 1 (codes "same") Link (codes "out/../in") in
    let e = created d 1 (codes "up") Link (codes "../etc/passwd") in
    let f = created e 1 (codes "abs") Link (codes "/etc/passwd") in
    let g = created f 0 (codes "workshop") Dir [] in
    let h = created g 7 (codes "x") File (codes "w") in
    let i = created h 0 (codes "log") Dir [] in
    let j = created i 0 (codes "etc") Dir [] in
    created j 10 (codes "passwd") File (codes "x")

-- A row: by places and by nodes alike, from `/work`.
abbrev Leads_to : List Node → List ℕ → Way → Last → Finding → Type 0
Leads_to t path way last answer = (find_of t 1 path way last ≡ answer) × (walk_of t 1 path way last ≡ answer)

-- beneath `/work`, the last name followed
same_followed : Leads_to base (codes "same") Beneath Follow (Found_node 2)
unfolding base created find_of walk_of lookup_fault path_fault path_components last_component looked by_places by_nodes node_at child_of parent_of
same_followed = (refl, refl)

out_and_back : Leads_to base (codes "out/..") Beneath Follow (Found_node 1)
unfolding base created find_of walk_of lookup_fault path_fault path_components last_component looked by_places by_nodes node_at child_of parent_of
out_and_back = (refl, refl)

dot_alone : Leads_to base (codes ".") Beneath Follow (Found_node 1)
unfolding base created find_of walk_of lookup_fault path_fault path_components last_component looked by_places by_nodes node_at child_of parent_of
dot_alone = (refl, refl)

-- absolute, and without a name that can be kept
slash_kept : Leads_to base (codes "/") Beneath Keep (Not_found Escape)
unfolding base created find_of walk_of lookup_fault path_fault path_components last_component looked by_places by_nodes node_at child_of parent_of
slash_kept = (refl, refl)

dots_above : Leads_to base (codes "..") Beneath Follow (Not_found Escape)
unfolding base created find_of walk_of lookup_fault path_fault path_components last_component looked by_places by_nodes node_at child_of parent_of
dots_above = (refl, refl)

dots_after_out : Leads_to base (codes "out/../..") Beneath Follow (Not_found Escape)
unfolding base created find_of walk_of lookup_fault path_fault path_components last_component looked by_places by_nodes node_at child_of parent_of
dots_after_out = (refl, refl)

dots_in_target : Leads_to base (codes "up") Beneath Follow (Not_found Escape)
unfolding base created find_of walk_of lookup_fault path_fault path_components last_component looked by_places by_nodes node_at child_of parent_of
dots_in_target = (refl, refl)

absolute_target : Leads_to base (codes "abs") Beneath Follow (Not_found Escape)
unfolding base created find_of walk_of lookup_fault path_fault path_components last_component looked by_places by_nodes node_at child_of parent_of
absolute_target = (refl, refl)

absolute_path : Leads_to base (codes "/work/in") Beneath Follow (Not_found Escape)
unfolding base created find_of walk_of lookup_fault path_fault path_components last_component looked by_places by_nodes node_at child_of parent_of
absolute_path = (refl, refl)

name_in_file : Leads_to base (codes "in/x") Beneath Follow (Not_found Not_dir)
unfolding base created find_of walk_of lookup_fault path_fault path_components last_component looked by_places by_nodes node_at child_of parent_of
name_in_file = (refl, refl)

dots_in_file : Leads_to base (codes "in/..") Beneath Follow (Not_found Not_dir)
unfolding base created find_of walk_of lookup_fault path_fault path_components last_component looked by_places by_nodes node_at child_of parent_of
dots_in_file = (refl, refl)

dot_in_file : Leads_to base (codes "in/.") Beneath Follow (Not_found Not_dir)
unfolding base created find_of walk_of lookup_fault path_fault path_components last_component looked by_places by_nodes node_at child_of parent_of
dot_in_file = (refl, refl)

name_behind_link : Leads_to base (codes "same/x") Beneath Follow (Not_found Not_dir)
unfolding base created find_of walk_of lookup_fault path_fault path_components last_component looked by_places by_nodes node_at child_of parent_of
name_behind_link = (refl, refl)

absent_name : Leads_to base (codes "nope") Beneath Follow (Not_found No_entry)
unfolding base created find_of walk_of lookup_fault path_fault path_components last_component looked by_places by_nodes node_at child_of parent_of
absent_name = (refl, refl)

absent_directory : Leads_to base (codes "nope/x") Beneath Follow (Not_found No_entry)
unfolding base created find_of walk_of lookup_fault path_fault path_components last_component looked by_places by_nodes node_at child_of parent_of
absent_directory = (refl, refl)

empty_path : Leads_to base [] Beneath Follow (Not_found No_entry)
unfolding base created find_of walk_of lookup_fault path_fault path_components last_component looked by_places by_nodes node_at child_of parent_of
empty_path = (refl, refl)

-- beneath `/work`, the last name kept
same_kept : Leads_to base (codes "same/") Beneath Keep (Found_node 4)
unfolding base created find_of walk_of lookup_fault path_fault path_components last_component looked by_places by_nodes node_at child_of parent_of
same_kept = (refl, refl)

abs_kept : Leads_to base (codes "abs") Beneath Keep (Found_node 6)
unfolding base created find_of walk_of lookup_fault path_fault path_components last_component looked by_places by_nodes node_at child_of parent_of
abs_kept = (refl, refl)

in_kept : Leads_to base (codes "out/../in") Beneath Keep (Found_node 2)
unfolding base created find_of walk_of lookup_fault path_fault path_components last_component looked by_places by_nodes node_at child_of parent_of
in_kept = (refl, refl)

free_in_work : Leads_to base (codes "nope") Beneath Keep (Found_free 1)
unfolding base created find_of walk_of lookup_fault path_fault path_components last_component looked by_places by_nodes node_at child_of parent_of
free_in_work = (refl, refl)

free_in_out : Leads_to base (codes "out/new") Beneath Keep (Found_free 3)
unfolding base created find_of walk_of lookup_fault path_fault path_components last_component looked by_places by_nodes node_at child_of parent_of
free_in_out = (refl, refl)

absent_directory_kept : Leads_to base (codes "nope/x") Beneath Keep (Not_found No_entry)
unfolding base created find_of walk_of lookup_fault path_fault path_components last_component looked by_places by_nodes node_at child_of parent_of
absent_directory_kept = (refl, refl)

dot_kept : Leads_to base (codes ".") Beneath Keep (Not_found Bad_last)
unfolding base created find_of walk_of lookup_fault path_fault path_components last_component looked by_places by_nodes node_at child_of parent_of
dot_kept = (refl, refl)

dots_kept : Leads_to base (codes "out/..") Beneath Keep (Not_found Bad_last)
unfolding base created find_of walk_of lookup_fault path_fault path_components last_component looked by_places by_nodes node_at child_of parent_of
dots_kept = (refl, refl)

empty_kept : Leads_to base [] Beneath Keep (Not_found No_entry)
unfolding base created find_of walk_of lookup_fault path_fault path_components last_component looked by_places by_nodes node_at child_of parent_of
empty_kept = (refl, refl)

up_then_kept : Leads_to base (codes "up/x") Beneath Keep (Not_found Escape)
unfolding base created find_of walk_of lookup_fault path_fault path_components last_component looked by_places by_nodes node_at child_of parent_of
up_then_kept = (refl, refl)

-- in all of the tree
dots_above_root : Leads_to base (codes "/../work/up") Global Follow (Found_node 11)
unfolding base created find_of walk_of lookup_fault path_fault path_components last_component looked by_places by_nodes node_at child_of parent_of
dots_above_root = (refl, refl)

absolute_target_global : Leads_to base (codes "work/abs") Global Follow (Found_node 11)
unfolding base created find_of walk_of lookup_fault path_fault path_components last_component looked by_places by_nodes node_at child_of parent_of
absolute_target_global = (refl, refl)

root_path : Leads_to base (codes "/") Global Follow (Found_node 0)
unfolding base created find_of walk_of lookup_fault path_fault path_components last_component looked by_places by_nodes node_at child_of parent_of
root_path = (refl, refl)

root_kept : Leads_to base (codes "/") Global Keep (Not_found Bad_last)
unfolding base created find_of walk_of lookup_fault path_fault path_components last_component looked by_places by_nodes node_at child_of parent_of
root_kept = (refl, refl)

free_globally : Leads_to base (codes "work/nope") Global Keep (Found_free 1)
unfolding base created find_of walk_of lookup_fault path_fault path_components last_component looked by_places by_nodes node_at child_of parent_of
free_globally = (refl, refl)

-- a removed start: the text is asked first, and nothing of it is asked of a lookup from the root
gone : List Node
gone = removed base 1

removed_start : Leads_to gone (codes "in") Beneath Follow (Not_found No_entry)
unfolding base created find_of walk_of lookup_fault path_fault path_components last_component looked by_places by_nodes node_at child_of gone removed
removed_start = (refl, refl)

removed_start_absolute : Leads_to gone (codes "/x") Beneath Follow (Not_found Escape)
unfolding base created find_of walk_of lookup_fault path_fault path_components last_component looked by_places by_nodes node_at child_of gone removed
removed_start_absolute = (refl, refl)

removed_start_kept : Leads_to gone (codes ".") Beneath Keep (Not_found Bad_last)
unfolding base created find_of walk_of lookup_fault path_fault path_components last_component looked by_places by_nodes node_at child_of gone removed
removed_start_kept = (refl, refl)

removed_start_global : Leads_to gone (codes "log") Global Follow (Found_node 9)
unfolding base created find_of walk_of lookup_fault path_fault path_components last_component looked by_places by_nodes node_at child_of gone removed
removed_start_global = (refl, refl)

-- a directory that was removed and made again: beneath the first nothing is found
again : List Node
again = created (created (removed base 3) 1 (codes "out") Dir []) 12 (codes "f") File []

removed_directory : find_of again 3 (codes "f") Beneath Follow ≡ Not_found No_entry
unfolding base created find_of walk_of lookup_fault path_fault path_components last_component looked by_places by_nodes node_at child_of again removed
removed_directory = refl

made_again : Leads_to again (codes "out/f") Beneath Follow (Found_node 13)
unfolding base created find_of walk_of lookup_fault path_fault path_components last_component looked by_places by_nodes node_at child_of again removed
made_again = (refl, refl)

-- a link to the link before, and so on down to `/work/end`
link_name : ℕ → List ℕ
link_name zero = codes "end"
link_name (suc k) = 108 ∷ (48 + k) ∷ []

chained : ℕ → List Node
chained zero = created (created new_tree 0 (codes "work") Dir []) 1 (codes "end") File []
chained (suc k) = created (chained k) 1 (link_name (suc k)) Link (link_name k)

links_32 : Leads_to (chained 33) (link_name 32) Beneath Follow (Found_node 2)
unfolding base created find_of walk_of lookup_fault path_fault path_components last_component looked by_places by_nodes node_at child_of chained link_name
links_32 = (refl, refl)

links_33 : Leads_to (chained 33) (link_name 33) Beneath Follow (Not_found Loop)
unfolding base created find_of walk_of lookup_fault path_fault path_components last_component looked by_places by_nodes node_at child_of chained link_name
links_33 = (refl, refl)

-- the last link of a chain of 33 is absolute: it is a loop before it escapes, and of a chain of 32 it escapes
absolute_chain : ℕ → List Node
absolute_chain zero = created (created new_tree 0 (codes "work") Dir []) 1 (codes "end") Link (codes "/work")
absolute_chain (suc k) = created (absolute_chain k) 1 (link_name (suc k)) Link (link_name k)

absolute_33rd_link : Leads_to (absolute_chain 32) (link_name 32) Beneath Follow (Not_found Loop)
unfolding base created find_of walk_of lookup_fault path_fault path_components last_component looked by_places by_nodes node_at child_of absolute_chain link_name
absolute_33rd_link = (refl, refl)

absolute_32nd_link : Leads_to (absolute_chain 32) (link_name 31) Beneath Follow (Not_found Escape)
unfolding base created find_of walk_of lookup_fault path_fault path_components last_component looked by_places by_nodes node_at child_of absolute_chain link_name
absolute_32nd_link = (refl, refl)

links_33_kept : Leads_to (chained 33) (link_name 33) Beneath Keep (Found_node 35)
unfolding base created find_of walk_of lookup_fault path_fault path_components last_component looked by_places by_nodes node_at child_of chained link_name
links_33_kept = (refl, refl)

links_33_behind : Leads_to (chained 33) (link_name 33 ++ codes "/x") Beneath Keep (Not_found Loop)
unfolding base created find_of walk_of lookup_fault path_fault path_components last_component looked by_places by_nodes node_at child_of chained link_name
links_33_behind = (refl, refl)

-- lengths of names and paths
long_path : Leads_to base (replicate 1024 97) Beneath Follow (Not_found Too_long)
unfolding base created find_of walk_of lookup_fault path_fault path_components last_component looked by_places by_nodes node_at child_of parent_of
long_path = (refl, refl)

long_name : Leads_to base (replicate 256 97) Beneath Follow (Not_found Too_long)
unfolding base created find_of walk_of lookup_fault path_fault path_components last_component looked by_places by_nodes node_at child_of parent_of
long_name = (refl, refl)

greatest_name : Leads_to base (replicate 255 97) Beneath Follow (Not_found No_entry)
unfolding base created find_of walk_of lookup_fault path_fault path_components last_component looked by_places by_nodes node_at child_of parent_of
greatest_name = (refl, refl)

-- Any number of slashes behind a name fit, and name nothing.
slashes_fit : (n : ℕ) → names_fit 0 (replicate n slash) ≡ true
slashes_fit zero = refl
slashes_fit (suc n) = slashes_fit n

slashes_name_nothing : (n : ℕ) → names_from [] (replicate n slash) ≡ []
slashes_name_nothing zero = refl
slashes_name_nothing (suc n) = slashes_name_nothing n

in_and_slashes : (n : ℕ) → nat_le (length (codes "in" ++ replicate (suc n) slash)) most_path ≡ true → nat_eq (length (codes "in" ++ replicate (suc n) slash)) 0 ≡ false
    → Leads_to base (codes "in" ++ replicate (suc n) slash) Beneath Follow (Found_node 2)
unfolding base created find_of walk_of lookup_fault path_fault path_components last_component looked by_places by_nodes node_at child_of parent_of
in_and_slashes n short some = (rw (short, some, slashes_fit n, slashes_name_nothing n) refl, rw (short, some, slashes_fit n, slashes_name_nothing n) refl)

greatest_path : Leads_to base (codes "in" ++ replicate 1021 slash) Beneath Follow (Found_node 2)
greatest_path = in_and_slashes 1020 refl refl

long_absolute : Leads_to base (replicate 1024 47) Beneath Keep (Not_found Too_long)
unfolding base created find_of walk_of lookup_fault path_fault path_components last_component looked by_places by_nodes node_at child_of parent_of
long_absolute = (refl, refl)

-- One name that leads somewhere at once, from `/work`: to what has it, or to that it is free if it is kept.
file_at_once : at_once base 1 (codes "in") Follow ≡ Some (Found_node 2)
unfolding base created removed at_once is_file_name node_at child_of parent_of
file_at_once = refl

directory_at_once : at_once base 1 (codes "out") Follow ≡ Some (Found_node 3)
unfolding base created removed at_once is_file_name node_at child_of parent_of
directory_at_once = refl

kept_link_at_once : at_once base 1 (codes "same") Keep ≡ Some (Found_node 4)
unfolding base created removed at_once is_file_name node_at child_of parent_of
kept_link_at_once = refl

free_at_once : at_once base 1 (codes "new") Keep ≡ Some (Found_free 1)
unfolding base created removed at_once is_file_name node_at child_of parent_of
free_at_once = refl

-- and what takes a walk
no_followed_link : at_once base 1 (codes "same") Follow ≡ None
unfolding base created removed at_once is_file_name node_at child_of parent_of
no_followed_link = refl

no_absent_name : at_once base 1 (codes "new") Follow ≡ None
unfolding base created removed at_once is_file_name node_at child_of parent_of
no_absent_name = refl

no_dot_dot : at_once base 1 (codes "..") Keep ≡ None
unfolding base created removed at_once is_file_name node_at child_of parent_of
no_dot_dot = refl

no_path : at_once base 1 (codes "out/new") Keep ≡ None
unfolding base created removed at_once is_file_name node_at child_of parent_of
no_path = refl

no_name : at_once base 1 (codes "") Keep ≡ None
unfolding base created removed at_once is_file_name node_at child_of parent_of
no_name = refl

no_file_above : at_once base 2 (codes "x") Keep ≡ None
unfolding base created removed at_once is_file_name node_at child_of parent_of
no_file_above = refl

no_removed_directory : at_once (removed base 3) 3 (codes "f") Keep ≡ None
unfolding base created removed at_once is_file_name node_at child_of parent_of
no_removed_directory = refl
