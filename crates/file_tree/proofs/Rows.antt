-- Rows of the definitions: the values of worked examples, which the definitions compute.
use Rattle.std.specs.Prelude.{◌≡◌, true, false, List, [], ◌∷◌, ◌++◌, Some, None, codes, replicate, length, refl}
use Rattle.file_tree.specs.Places.{begins, place_text, path_components, is_file_name, is_target}
use Rattle.file_tree.specs.Nodes.{File, Dir, Link, Node, node, nowhere, node_at, child_of, parent_of, link_target, byte_of}
use Rattle.file_tree.specs.Changes.{removed, renamed, written, resized}
use Rattle.file_tree.specs.Refusals.{Exists, NotEmpty, Full, IntoItself, Gone, new_tree, created, create_fault, remove_fault, rename_fault, put_byte_fault, truncate_fault}

-- Directories `/work` with `in`, `out` and three links, `/workshop` with `x`, `/log`, and `/etc` with
-- `passwd`: eleven nodes after the root.
base : List Node
base =
    let a = created new_tree 0 (codes "work") Dir [] in
    let b = created a 1 (codes "in") File (codes "AB") in
    let c = created b 1 (codes "out") Dir [] in
    let d = created c 1 (codes "same") Link (codes "out/../in") in
    let e = created d 1 (codes "up") Link (codes "../etc/passwd") in
    let f = created e 1 (codes "abs") Link (codes "/etc/passwd") in
    let g = created f 0 (codes "workshop") Dir [] in
    let h = created g 7 (codes "x") File (codes "w") in
    let i = created h 0 (codes "log") Dir [] in
    let j = created i 0 (codes "etc") Dir [] in
    created j 10 (codes "passwd") File (codes "x")

base_places : length base ≡ 12
unfolding base created
base_places = refl

same_target : link_target base 4 ≡ Some (codes "out/../in")
unfolding base created link_target
same_target = refl

work_in : child_of base 1 (codes "in") ≡ Some 2
unfolding base created child_of node_at
work_in = refl

in_parent : parent_of base 2 ≡ Some 1
unfolding base created parent_of node_at
in_parent = refl

work_parent : parent_of base 1 ≡ Some 0
unfolding base created parent_of node_at
work_parent = refl

root_parent : parent_of base 0 ≡ None
unfolding base created parent_of
root_parent = refl

in_end : byte_of base 2 2 ≡ None
unfolding base created
in_end = refl

-- `/work/out` is removed and made again: the first keeps its place and is not linked, and nothing is made in it
again : List Node
again = created (removed base 3) 1 (codes "out") Dir []

removed_place : (node again 3).place ≡ codes "work" ∷ codes "out" ∷ []
unfolding again base created removed
removed_place = refl

removed_unlinked : (node again 3).linked ≡ false
unfolding again base created removed
removed_unlinked = refl

made_again : child_of again 1 (codes "out") ≡ Some 12
unfolding again base created removed child_of node_at
made_again = refl

removed_parent : parent_of again 3 ≡ None
unfolding again base created removed parent_of
removed_parent = refl

removed_child : child_of (created again 12 (codes "f") File []) 3 (codes "f") ≡ None
unfolding again base created removed child_of
removed_child = refl

create_in_removed : create_fault again 3 (codes "f") ≡ Some Gone
unfolding again base created removed create_fault
create_in_removed = refl

remove_removed : remove_fault again 3 ≡ Some Gone
unfolding again base created removed remove_fault
remove_removed = refl

rename_removed : rename_fault again 3 0 (codes "f") ≡ Some Gone
unfolding again base created removed rename_fault
rename_removed = refl

rename_into_removed : rename_fault again 2 3 (codes "f") ≡ Some Gone
unfolding again base created removed rename_fault
rename_into_removed = refl

-- what is refused otherwise
taken_name : create_fault base 1 (codes "in") ≡ Some Exists
unfolding base created create_fault node_at
taken_name = refl

into_itself : rename_fault base 1 3 (codes "new") ≡ Some IntoItself
unfolding base created rename_fault
into_itself = refl

root_into_log : rename_fault base 0 9 (codes "r") ≡ Some IntoItself
unfolding base created rename_fault
root_into_log = refl

over_full_directory : rename_fault base 9 0 (codes "work") ≡ Some NotEmpty
unfolding base created rename_fault
over_full_directory = refl

-- of two refusals at once the first is told: a directory that was removed before a name that is taken there and before a full
-- tree, a name that is taken before a full tree, a removed node before what stands below its place now and before its own
-- place, and into itself before what stands there
removed_before_taken : create_fault (created again 12 (codes "f") File []) 3 (codes "f") ≡ Some Gone
unfolding again base created removed create_fault node_at
removed_before_taken = refl

removed_before_full : create_fault (again ++ replicate 1011 nowhere) 3 (codes "f") ≡ Some Gone
unfolding again base created removed create_fault node_at
removed_before_full = refl

taken_before_full : create_fault (base ++ replicate 1012 nowhere) 1 (codes "in") ≡ Some Exists
unfolding base created create_fault node_at
taken_before_full = refl

removed_before_what_is_below : remove_fault (created again 12 (codes "f") File []) 3 ≡ Some Gone
unfolding again base created removed remove_fault
removed_before_what_is_below = refl

removed_before_own_place : rename_fault again 3 1 (codes "out") ≡ Some Gone
unfolding again base created removed rename_fault
removed_before_own_place = refl

own_place_before_into_itself : rename_fault base 1 0 (codes "work") ≡ None
unfolding base created rename_fault
own_place_before_into_itself = refl

into_itself_before_full_directory : rename_fault (created (created base 3 (codes "x") Dir []) 12 (codes "y") File []) 1 3 (codes "x") ≡ Some IntoItself
unfolding base created rename_fault
into_itself_before_full_directory = refl

over_own_directory : rename_fault base 2 0 (codes "work") ≡ Some NotEmpty
unfolding base created rename_fault
over_own_directory = refl

to_own_place : rename_fault base 1 0 (codes "work") ≡ None
unfolding base created rename_fault
to_own_place = refl

remove_root : remove_fault base 0 ≡ Some NotEmpty
unfolding base created remove_fault
remove_root = refl

remove_lone_root : remove_fault new_tree 0 ≡ Some NotEmpty
unfolding remove_fault
remove_lone_root = refl

remove_work : remove_fault base 1 ≡ Some NotEmpty
unfolding base created remove_fault
remove_work = refl

remove_log : remove_fault base 9 ≡ None
unfolding base created remove_fault
remove_log = refl

-- `/work` becomes `/w2`: what is in it moves, `/workshop/x` and what was removed before keep their places
w2 : List Node
w2 = renamed (removed base 3) 1 (codes "w2" ∷ [])

w2_in : place_text (node w2 2).place ≡ codes "/w2/in"
unfolding w2 base created removed
w2_in = refl

w2_shop : place_text (node w2 8).place ≡ codes "/workshop/x"
unfolding w2 base created removed
w2_shop = refl

w2_removed : place_text (node w2 3).place ≡ codes "/work/out"
unfolding w2 base created removed
w2_removed = refl

in_begins_w2 : begins (path_components (codes "/w2")) (node w2 2).place ≡ true
unfolding w2 base created removed path_components
in_begins_w2 = refl

in_begins_work : begins (path_components (codes "/work")) (node w2 2).place ≡ false
unfolding w2 base created removed path_components
in_begins_work = refl

shop_begins_work : begins (path_components (codes "/work")) (node base 8).place ≡ false
unfolding base created path_components
shop_begins_work = refl

-- `/log` takes the place of an empty directory, which is removed then
over_out : List Node
over_out = renamed base 9 (codes "work" ∷ codes "out" ∷ [])

over_out_place : place_text (node over_out 9).place ≡ codes "/work/out"
unfolding over_out base created
over_out_place = refl

over_out_removed : (node over_out 3).linked ≡ false
unfolding over_out base created
over_out_removed = refl

-- 1012 nodes fit beside those of the base tree, and no more
last_fits : create_fault (base ++ replicate 1011 nowhere) 9 (codes "f") ≡ None
unfolding base created create_fault node_at
last_fits = refl

next_is_full : create_fault (base ++ replicate 1012 nowhere) 9 (codes "f") ≡ Some Full
unfolding base created create_fault node_at
next_is_full = refl

-- a file's last byte, and the ones past it
last_byte : put_byte_fault 4095 ≡ None
last_byte = refl

past_last : put_byte_fault 4096 ≡ Some Full
past_last = refl

longest : truncate_fault 4096 ≡ None
longest = refl

too_long : truncate_fault 4097 ≡ Some Full
too_long = refl

gap_of_zeros : written (codes "AB") 4 67 ≡ 65 ∷ 66 ∷ 0 ∷ 0 ∷ 67 ∷ []
gap_of_zeros = refl

written_inside : written (codes "ABC") 1 90 ≡ codes "AZC"
written_inside = refl

cut : resized (codes "ABC") 2 ≡ codes "AB"
cut = refl

longer : resized (codes "A") 3 ≡ 65 ∷ 0 ∷ 0 ∷ []
longer = refl

-- places and paths as text
root_text : place_text [] ≡ codes "/"
root_text = refl

names_of_path : path_components (codes "//work/./in/") ≡ codes "work" ∷ codes "." ∷ codes "in" ∷ []
unfolding path_components
names_of_path = refl

slash_alone : path_components (codes "/") ≡ []
unfolding path_components
slash_alone = refl

longest_name : is_file_name (replicate 255 97) ≡ true
unfolding is_file_name
longest_name = refl

too_long_name : is_file_name (replicate 256 97) ≡ false
unfolding is_file_name
too_long_name = refl

dots_name_nothing : is_file_name (codes "..") ≡ false
unfolding is_file_name
dots_name_nothing = refl

slash_in_name : is_file_name (codes "a/b") ≡ false
unfolding is_file_name
slash_in_name = refl

long_name_in_target : is_target (codes "a/" ++ replicate 256 97) ≡ false
unfolding is_target
long_name_in_target = refl

longest_target : is_target (replicate 255 97 ++ 47 ∷ replicate 255 97 ++ 47 ∷ replicate 255 97 ++ 47 ∷ replicate 255 97) ≡ true
unfolding is_target
longest_target = refl
