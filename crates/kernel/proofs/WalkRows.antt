-- Worked rows of calls whose lookups take several events, with what another process does in between, by computation.
use Rattle.std.proofs.Common.{◌≡◌, [], ℕ, zero, suc, false, List, ◌∷◌, ◌++◌, codes, refl}
use Rattle.std.specs.Prelude.{length, None}
use Rattle.std.proofs.Math.Decide.{ℕ_discrete}
use Rattle.std.specs.Fmt.{decimal, digits}
use Rattle.rights.specs.Maps.{put}
use Rattle.file_tree.specs.Places.{path_components}
use Rattle.file_tree.specs.Nodes.{File, Dir, Link, Node, node_at, child_of, parent_of}
use Rattle.file_tree.specs.Changes.{removed, filled}
use Rattle.file_tree.specs.Refusals.{created}
use Rattle.lookup.specs.Paths.{last_component, path_fault}
use Rattle.lookup.specs.ByNodes.{by_nodes}
use Rattle.lookup.specs.Looks.{lookup_fault}
use Rattle.lookup.specs.Walks.{first_handled, handled}
use Rattle.process.specs.State.{new_process}
use Rattle.instruction_set.specs.Forms.{written_at, syscall_at, register_at, number_at, operand_at, path_at, flags_at, rights_at, commands_at, label_at, directory_at, else_at}
use Rattle.instruction_set.specs.Assembly.{assembly_in, assembly_of, line_read}
use Rattle.fd_table.specs.Descriptions.{Object}
use Rattle.fd_table.specs.OpenFiles.{any_below, lowest_from}
use Rattle.kernel.specs.World.{World}
use Rattle.kernel.specs.Answers.{Event, unless, held, at_object, at_number}
use Rattle.kernel.specs.Calls.{looks, looks_twice, answer}
use Rattle.kernel.specs.Changes.{files_after, changed}
use Rattle.kernel.specs.Steps.{answered, jumped, executed, stepped_at, stepped_by, stepped, step}
use Rattle.kernel.proofs.Samples.{base, reading, entries_from, row_of, world_of, alone, event, refused, times, repeated, trace, trace_by, code_of, programs_of}

-- The base with directories `/work/out/d` (12) and `/work/alt` (13) and a file `/work/out/f` (14), and with `/work/out/d/g` (15) too.
unfoldable deeper : List Node
deeper =
    let a = created base 3 (codes "d") Dir [] in
    let b = created a 1 (codes "alt") Dir [] in
    created b 3 (codes "f") File []

unfoldable deepest : List Node
deepest = created deeper 12 (codes "g") File (codes "Z")

-- Process 0 runs `main`, and process 1 runs `mover`, each with its own files and directories from number 0 on.
abbrev two : List Node → List Object → List Object → World
two tree own other =
    let first = row_of (entries_from 0 own) in
    let second = row_of (entries_from (length own) other) in
    world_of tree (own ++ other) (new_process 0 false ∷ new_process 1 false ∷ []) (put (put (λ p n. None) 0 first) 1 second)

abbrev name_of : ℕ → List ℕ
name_of zero = codes "main"
name_of (suc n) = codes "mover"

-- what is shown where these processes act in turn
abbrev turns : List ℕ → List Event
turns [] = []
turns (p ∷ processes) = event p 0 ∷ turns processes

abbrev shown : List ℕ → List ℕ → World → List ℕ → List ℕ
shown main mover w processes = trace_by name_of (programs_of (code_of (assembly_of main) ∷ code_of (assembly_of mover) ∷ [])) w 0 (turns processes)

-- `/work`, and `/work/out` with `/work/alt`, to which the other process moves what the first one walks
abbrev from_work : List Node → World
from_work tree = two tree (reading 1 ∷ []) (reading 3 ∷ reading 13 ∷ [])

abbrev moves_d : List ℕ
moves_d = codes "renameat 0 \"d\" 1 \"d\" else e\ne: halt\n"

abbrev d_moved : List ℕ
d_moved = codes "1 mover:0 = 0 remove /work/out/d create /work/alt/d\n"

abbrev removes_d : List ℕ
removes_d = codes "unlinkat 0 \"d\" dir else e\ne: halt\n"

abbrev d_removed : List ℕ
d_removed = codes "1 mover:0 = 0 remove /work/out/d\n"

abbrev walks : ℕ → List ℕ
walks n = repeated n (codes "0 main:0 walk\n")

-- One event for each name. (`..` goes back where the lookup came from.)
takes_an_event_for_each_name : shown (codes "openat 0 \"out/d/../f\" read else e\ne: halt\n") moves_d
    (from_work deepest) (0 ∷ 0 ∷ 0 ∷ 0 ∷ []) ≡
    walks 3 ++ codes "0 main:0 = 1\n"
unfolding assembly_in line_read written_at syscall_at register_at number_at operand_at path_at flags_at rights_at commands_at label_at directory_at
    else_at ℕ_discrete digits base created removed filled first_handled handled looks looks_twice lookup_fault path_fault path_components
    last_component by_nodes node_at child_of parent_of unless held at_object at_number any_below lowest_from answer files_after changed answered
    jumped executed stepped_at stepped_by stepped step deeper deepest
takes_an_event_for_each_name = refl

-- what lies above a directory that was moved is no way back
does_not_go_back_from_a_moved_directory : shown (codes "openat 0 \"out/d/../f\" read else e\ne: halt\n") moves_d
    (from_work deepest) (0 ∷ 0 ∷ 1 ∷ 0 ∷ []) ≡
    walks 2 ++ d_moved ++ codes "0 main:0 ! ENOTCAPABLE Escape\n"
unfolding assembly_in line_read written_at syscall_at register_at number_at operand_at path_at flags_at rights_at commands_at label_at directory_at
    else_at ℕ_discrete digits base created removed filled first_handled handled looks looks_twice lookup_fault path_fault path_components
    last_component by_nodes node_at child_of parent_of unless held at_object at_number any_below lowest_from answer files_after changed answered
    jumped executed stepped_at stepped_by stepped step deeper deepest
does_not_go_back_from_a_moved_directory = refl

-- a lookup goes on in a directory that was moved
goes_on_in_a_moved_directory : shown (codes "openat 0 \"out/d/g\" read else e\nread 1 else e\ne: halt\n") moves_d
    (from_work deepest) (0 ∷ 0 ∷ 1 ∷ 0 ∷ 0 ∷ []) ≡
    walks 2 ++ d_moved ++ codes "0 main:0 = 1\n0 main:1 = 90 read /work/alt/d/g\n"
unfolding assembly_in line_read written_at syscall_at register_at number_at operand_at path_at flags_at rights_at commands_at label_at directory_at
    else_at ℕ_discrete digits base created removed filled first_handled handled looks looks_twice lookup_fault path_fault path_components
    last_component by_nodes node_at child_of parent_of unless held at_object at_number any_below lowest_from answer files_after changed answered
    jumped executed stepped_at stepped_by stepped step deeper deepest
goes_on_in_a_moved_directory = refl

-- nothing is looked up in a directory that was removed, neither what lay above it nor the directory itself
does_not_go_back_from_a_removed_directory : shown (codes "openat 0 \"out/d/../f\" read else e\ne: halt\n") removes_d
    (from_work deeper) (0 ∷ 0 ∷ 1 ∷ 0 ∷ []) ≡
    walks 2 ++ d_removed ++ codes "0 main:0 ! ENOENT Path\n"
unfolding assembly_in line_read written_at syscall_at register_at number_at operand_at path_at flags_at rights_at commands_at label_at directory_at
    else_at ℕ_discrete digits base created removed filled first_handled handled looks looks_twice lookup_fault path_fault path_components
    last_component by_nodes node_at child_of parent_of unless held at_object at_number any_below lowest_from answer files_after changed answered
    jumped executed stepped_at stepped_by stepped step deeper deepest
does_not_go_back_from_a_removed_directory = refl

does_not_stay_in_a_removed_directory : shown (codes "openat 0 \"out/d/.\" read else e\ne: halt\n") removes_d
    (from_work deeper) (0 ∷ 0 ∷ 1 ∷ 0 ∷ []) ≡
    walks 2 ++ d_removed ++ codes "0 main:0 ! ENOENT Path\n"
unfolding assembly_in line_read written_at syscall_at register_at number_at operand_at path_at flags_at rights_at commands_at label_at directory_at
    else_at ℕ_discrete digits base created removed filled first_handled handled looks looks_twice lookup_fault path_fault path_components
    last_component by_nodes node_at child_of parent_of unless held at_object at_number any_below lowest_from answer files_after changed answered
    jumped executed stepped_at stepped_by stepped step deeper deepest
does_not_stay_in_a_removed_directory = refl

-- a lookup in all of the tree is lost where one beneath a directory would escape
is_lost_in_a_moved_directory : shown (codes "open \"/work/out/d/../f\" read else e\ne: halt\n") moves_d
    (from_work deepest) (0 ∷ 0 ∷ 0 ∷ 1 ∷ 0 ∷ []) ≡
    walks 3 ++ d_moved ++ codes "0 main:0 ! ENOENT Path\n"
unfolding assembly_in line_read written_at syscall_at register_at number_at operand_at path_at flags_at rights_at commands_at label_at directory_at
    else_at ℕ_discrete digits base created removed filled first_handled handled looks looks_twice lookup_fault path_fault path_components
    last_component by_nodes node_at child_of parent_of unless held at_object at_number any_below lowest_from answer files_after changed answered
    jumped executed stepped_at stepped_by stepped step deeper deepest
is_lost_in_a_moved_directory = refl

-- a file is no directory, removed or not
finds_no_directory_in_a_removed_file : shown (codes "openat 0 \"out/f/x\" read else e\ne: halt\n") (codes "unlinkat 0 \"f\" else e\ne: halt\n")
    (from_work deeper) (0 ∷ 0 ∷ 1 ∷ 0 ∷ []) ≡
    walks 2 ++ codes "1 mover:0 = 0 remove /work/out/f\n0 main:0 ! ENOTDIR Path\n"
unfolding assembly_in line_read written_at syscall_at register_at number_at operand_at path_at flags_at rights_at commands_at label_at directory_at
    else_at ℕ_discrete digits base created removed filled first_handled handled looks looks_twice lookup_fault path_fault path_components
    last_component by_nodes node_at child_of parent_of unless held at_object at_number any_below lowest_from answer files_after changed answered
    jumped executed stepped_at stepped_by stepped step deeper deepest
finds_no_directory_in_a_removed_file = refl

-- each process goes on with its own lookup
walks_beside_another : shown (codes "openat 0 \"out/d/g\" read else e\ne: halt\n") (codes "openat 0 \"d/g\" read else e\ne: halt\n")
    (from_work deepest) (0 ∷ 1 ∷ 0 ∷ 1 ∷ 0 ∷ []) ≡
    codes "0 main:0 walk\n1 mover:0 walk\n0 main:0 walk\n1 mover:0 = 2\n0 main:0 = 1\n"
unfolding assembly_in line_read written_at syscall_at register_at number_at operand_at path_at flags_at rights_at commands_at label_at directory_at
    else_at ℕ_discrete digits base created removed filled first_handled handled looks looks_twice lookup_fault path_fault path_components
    last_component by_nodes node_at child_of parent_of unless held at_object at_number any_below lowest_from answer files_after changed answered
    jumped executed stepped_at stepped_by stepped step deeper deepest
walks_beside_another = refl

-- the other process closes its own copy of the directory
goes_on_where_another_closes : trace (programs_of (code_of (assembly_of (codes "fork else e\njeq r0 0 c\nopenat 0 \"out/f\" read else e\nhalt\nc: close 0 else e\ne: halt\n")) ∷ []))
    (alone deeper []) 0 (turns (0 ∷ 0 ∷ 0 ∷ 1 ∷ 1 ∷ 0 ∷ [])) ≡
    codes "0 main:0 = 1\n0 main:1 ok\n0 main:2 walk\n1 main:1 ok\n1 main:4 = 0\n0 main:2 = 2\n"
unfolding assembly_in line_read written_at syscall_at register_at number_at operand_at path_at flags_at rights_at commands_at label_at directory_at
    else_at ℕ_discrete digits base created removed filled first_handled handled looks looks_twice lookup_fault path_fault path_components
    last_component by_nodes node_at child_of parent_of unless held at_object at_number any_below lowest_from answer files_after changed answered
    jumped executed stepped_at stepped_by stepped step deeper deepest
goes_on_where_another_closes = refl

-- `/work/out` for the first process, and `/work` with `/work/alt`, to which the other one moves it
abbrev from_out : World
from_out = two deeper (reading 3 ∷ []) (reading 1 ∷ reading 13 ∷ [])

abbrev moves_out : List ℕ
moves_out = codes "renameat 0 \"out\" 1 \"out\" else e\ne: halt\n"

abbrev out_moved : List ℕ
out_moved = codes "1 mover:0 = 0 remove /work/out create /work/alt/out\n"

-- a start that was moved is where it is, and still the start
goes_on_from_a_moved_start : shown (codes "openat 0 \"d/../f\" read else e\nread 1 else e\ne: halt\n") moves_out
    from_out (0 ∷ 1 ∷ 0 ∷ 0 ∷ 0 ∷ []) ≡
    walks 1 ++ out_moved ++ walks 1 ++ codes "0 main:0 = 1\n0 main:1 = 256 read /work/alt/out/f\n"
unfolding assembly_in line_read written_at syscall_at register_at number_at operand_at path_at flags_at rights_at commands_at label_at directory_at
    else_at ℕ_discrete digits base created removed filled first_handled handled looks looks_twice lookup_fault path_fault path_components
    last_component by_nodes node_at child_of parent_of unless held at_object at_number any_below lowest_from answer files_after changed answered
    jumped executed stepped_at stepped_by stepped step deeper deepest
goes_on_from_a_moved_start = refl

escapes_from_a_moved_start : shown (codes "openat 0 \"d/../../alt\" read else e\ne: halt\n") moves_out
    from_out (0 ∷ 1 ∷ 0 ∷ 0 ∷ []) ≡
    walks 1 ++ out_moved ++ walks 1 ++ codes "0 main:0 ! ENOTCAPABLE Escape\n"
unfolding assembly_in line_read written_at syscall_at register_at number_at operand_at path_at flags_at rights_at commands_at label_at directory_at
    else_at ℕ_discrete digits base created removed filled first_handled handled looks looks_twice lookup_fault path_fault path_components
    last_component by_nodes node_at child_of parent_of unless held at_object at_number any_below lowest_from answer files_after changed answered
    jumped executed stepped_at stepped_by stepped step deeper deepest
escapes_from_a_moved_start = refl

-- a path without names, and a link to one, take one event
takes_one_event_for_the_root : trace (programs_of (code_of (assembly_of (codes "stat \"/\" else e\nstat \"/root\" else e\ne: halt\n")) ∷ []))
    (alone (created base 0 (codes "root") Link (codes "/")) []) 0 (times 2) ≡
    codes "0 main:0 = 2 look /\n0 main:1 = 2 look /\n"
unfolding assembly_in line_read written_at syscall_at register_at number_at operand_at path_at flags_at rights_at commands_at label_at directory_at
    else_at ℕ_discrete digits base created removed filled first_handled handled looks looks_twice lookup_fault path_fault path_components
    last_component by_nodes node_at child_of parent_of unless held at_object at_number any_below lowest_from answer files_after changed answered
    jumped executed stepped_at stepped_by stepped step deeper deepest
takes_one_event_for_the_root = refl

-- the kernel refuses in the last event of a call alone
is_not_refused_halfway : trace (programs_of (code_of (assembly_of (codes "openat 0 \"out/f\" read else e\ne: halt\n")) ∷ [])) (alone deeper []) 0 (refused ∷ times 1) ≡
    walks 1 ++ codes "0 main:0 = 2\n"
unfolding assembly_in line_read written_at syscall_at register_at number_at operand_at path_at flags_at rights_at commands_at label_at directory_at
    else_at ℕ_discrete digits base created removed filled first_handled handled looks looks_twice lookup_fault path_fault path_components
    last_component by_nodes node_at child_of parent_of unless held at_object at_number any_below lowest_from answer files_after changed answered
    jumped executed stepped_at stepped_by stepped step deeper deepest
is_not_refused_halfway = refl

is_refused_at_the_end : trace (programs_of (code_of (assembly_of (codes "openat 0 \"out/f\" read else e\ne: halt\n")) ∷ [])) (alone deeper []) 0 (times 1 ++ refused ∷ []) ≡
    walks 1 ++ codes "0 main:0 ! ENFILE Refused\n"
unfolding assembly_in line_read written_at syscall_at register_at number_at operand_at path_at flags_at rights_at commands_at label_at directory_at
    else_at ℕ_discrete digits base created removed filled first_handled handled looks looks_twice lookup_fault path_fault path_components
    last_component by_nodes node_at child_of parent_of unless held at_object at_number any_below lowest_from answer files_after changed answered
    jumped executed stepped_at stepped_by stepped step deeper deepest
is_refused_at_the_end = refl

-- links in `/work`: `c1` to `out`, `c2` to `c1`, and so on
abbrev chain_target : ℕ → List ℕ
chain_target zero = codes "out"
chain_target (suc n) = codes "c" ++ decimal (suc n)

unfoldable chained : ℕ → List Node
chained zero = base
chained (suc n) = created (chained n) 1 (codes "c" ++ decimal (suc n)) Link (chain_target n)

-- links count over the whole lookup, 32 of them, also where it goes back between
follows_32_links_there_and_back : trace (programs_of (code_of (assembly_of (codes "openat 0 \"c16/../c16\" read else e\ne: halt\n")) ∷ [])) (alone (chained 17) []) 0 (times 35) ≡
    walks 34 ++ codes "0 main:0 = 2\n"
unfolding assembly_in line_read written_at syscall_at register_at number_at operand_at path_at flags_at rights_at commands_at label_at directory_at
    else_at ℕ_discrete digits base created removed filled first_handled handled looks looks_twice lookup_fault path_fault path_components
    last_component by_nodes node_at child_of parent_of unless held at_object at_number any_below lowest_from answer files_after changed answered
    jumped executed stepped_at stepped_by stepped step deeper deepest chained
follows_32_links_there_and_back = refl

follows_no_33_links_there_and_back : trace (programs_of (code_of (assembly_of (codes "openat 0 \"c17/../c16\" read else e\ne: halt\n")) ∷ [])) (alone (chained 17) []) 0 (times 35) ≡
    walks 34 ++ codes "0 main:0 ! ELOOP Path\n"
unfolding assembly_in line_read written_at syscall_at register_at number_at operand_at path_at flags_at rights_at commands_at label_at directory_at
    else_at ℕ_discrete digits base created removed filled first_handled handled looks looks_twice lookup_fault path_fault path_components
    last_component by_nodes node_at child_of parent_of unless held at_object at_number any_below lowest_from answer files_after changed answered
    jumped executed stepped_at stepped_by stepped step deeper deepest chained
follows_no_33_links_there_and_back = refl

-- A rename takes an event for each name but the last ones, of the old path first, and one for both last names.
renames_by_both_paths : trace (programs_of (code_of (assembly_of (codes "renameat 0 \"out/d/g\" 0 \"alt/h\" else e\ne: halt\n")) ∷ [])) (alone deepest []) 0 (times 4) ≡
    walks 3 ++ codes "0 main:0 = 0 remove /work/out/d/g create /work/alt/h\n"
unfolding assembly_in line_read written_at syscall_at register_at number_at operand_at path_at flags_at rights_at commands_at label_at directory_at
    else_at ℕ_discrete digits base created removed filled first_handled handled looks looks_twice lookup_fault path_fault path_components
    last_component by_nodes node_at child_of parent_of unless held at_object at_number any_below lowest_from answer files_after changed answered
    jumped executed stepped_at stepped_by stepped step deeper deepest
renames_by_both_paths = refl

walks_the_old_path_first : trace (programs_of (code_of (assembly_of (codes "renameat 0 \"in/x/y\" 0 \"nope/z\" else e\ne: halt\n")) ∷ [])) (alone deeper []) 0 (times 2) ≡
    walks 1 ++ codes "0 main:0 ! ENOTDIR Path\n"
unfolding assembly_in line_read written_at syscall_at register_at number_at operand_at path_at flags_at rights_at commands_at label_at directory_at
    else_at ℕ_discrete digits base created removed filled first_handled handled looks looks_twice lookup_fault path_fault path_components
    last_component by_nodes node_at child_of parent_of unless held at_object at_number any_below lowest_from answer files_after changed answered
    jumped executed stepped_at stepped_by stepped step deeper deepest
walks_the_old_path_first = refl

-- what is wrong with either text is told in the first event, before a name that is absent
asks_both_texts_first : trace (programs_of (code_of (assembly_of (codes "renameat 0 \"nope\" 0 \"..\" else e\ne: halt\n")) ∷ [])) (alone deeper []) 0 (times 1) ≡
    codes "0 main:0 ! EINVAL Path\n"
unfolding assembly_in line_read written_at syscall_at register_at number_at operand_at path_at flags_at rights_at commands_at label_at directory_at
    else_at ℕ_discrete digits base created removed filled first_handled handled looks looks_twice lookup_fault path_fault path_components
    last_component by_nodes node_at child_of parent_of unless held at_object at_number any_below lowest_from answer files_after changed answered
    jumped executed stepped_at stepped_by stepped step deeper deepest
asks_both_texts_first = refl

-- `/work` with `/work/alt` for the first process, and `/work` for the other one, which removes `/work/alt`
abbrev to_alt : World
to_alt = two deeper (reading 1 ∷ reading 13 ∷ []) (reading 1 ∷ [])

abbrev removes_alt : List ℕ
removes_alt = codes "unlinkat 0 \"alt\" dir else e\ne: halt\n"

abbrev alt_removed : List ℕ
alt_removed = codes "1 mover:0 = 0 remove /work/alt\n"

-- the directory of the new name was removed meanwhile: that is told in the last event, behind what is wrong with the old name
renames_into_no_removed_directory : shown (codes "renameat 0 \"out/f\" 1 \"y\" else e\ne: halt\n") removes_alt
    to_alt (0 ∷ 1 ∷ 0 ∷ []) ≡
    walks 1 ++ alt_removed ++ codes "0 main:0 ! ENOENT Path\n"
unfolding assembly_in line_read written_at syscall_at register_at number_at operand_at path_at flags_at rights_at commands_at label_at directory_at
    else_at ℕ_discrete digits base created removed filled first_handled handled looks looks_twice lookup_fault path_fault path_components
    last_component by_nodes node_at child_of parent_of unless held at_object at_number any_below lowest_from answer files_after changed answered
    jumped executed stepped_at stepped_by stepped step deeper deepest
renames_into_no_removed_directory = refl

asks_the_old_name_before_the_new_directory : shown (codes "renameat 0 \"in/x\" 1 \"y\" else e\ne: halt\n") removes_alt
    to_alt (0 ∷ 1 ∷ 0 ∷ []) ≡
    walks 1 ++ alt_removed ++ codes "0 main:0 ! ENOTDIR Path\n"
unfolding assembly_in line_read written_at syscall_at register_at number_at operand_at path_at flags_at rights_at commands_at label_at directory_at
    else_at ℕ_discrete digits base created removed filled first_handled handled looks looks_twice lookup_fault path_fault path_components
    last_component by_nodes node_at child_of parent_of unless held at_object at_number any_below lowest_from answer files_after changed answered
    jumped executed stepped_at stepped_by stepped step deeper deepest
asks_the_old_name_before_the_new_directory = refl
