-- Which plans are tasks. (own; that an open directory cannot be written is of open(2))
use Rattle.std.specs.Prelude.{◌==◌, ℕ, Bool, true, false, ◌&&◌, ◌||◌, not, nat_le, nat_lt, nat_eq, List, [], ◌∷◌, ◌++◌, length}
use Rattle.std.specs.List.{list_all, list_any}
use Rattle.std.specs.Str.{bytes_eq}
use Rattle.texts.specs.Names.{is_name}
use Rattle.rights.specs.Sets.{is_within, all_rights, all_commands}
use Rattle.file_tree.specs.Places.{begins, above}
use Rattle.file_tree.specs.Nodes.{Node, node, is_dir, is_link, stands_at}
use Rattle.rights.specs.Limits.{most_nodes, most_processes, most_programs, most_grants, most_descriptors, most_pairs}
use Rattle.file_tree.specs.WellFormed.{has_directory, is_within_limits}
use Rattle.instruction_set.specs.Languages.{are_spoken}
use Rattle.instruction_set.specs.Programs.{is_program}
use Rattle.fd_table.specs.Descriptions.{Access}
use Rattle.task.specs.Plans.{Grant, NamedProgram, FirstObject, On_node, On_end, FirstDescriptor, Start, Plan}

-- each passes the test with those after it
abbrev pub all_apart : {A : Type 0} → (A → A → Bool) → List A → Bool
all_apart apart [] = true
all_apart apart (x ∷ xs) = list_all (apart x) xs && all_apart apart xs

-- The root is a directory at the empty place. Each further node is made in a directory that was made
-- before it, at a place where nothing stands.
abbrev pub is_root_node : Node → Bool
is_root_node m = stands_at [] m && is_dir m.kind && nat_eq (length m.content) 0

abbrev pub can_follow : List Node → Node → Bool
can_follow made m =
    m.linked && is_within_limits m && has_directory made (above m.place) && not (list_any (stands_at m.place) made)

abbrev pub are_made : List Node → List Node → Bool
are_made made [] = true
are_made made (m ∷ nodes) = can_follow made m && are_made (made ++ m ∷ []) nodes

abbrev pub is_tree : List Node → Bool
is_tree [] = false
is_tree (root ∷ nodes) = is_root_node root && nat_lt (length nodes) most_nodes && are_made (root ∷ []) nodes

-- Grants are of directories, and no place is in two of them. Each name is given once.
abbrev pub is_grant : List Node → Grant → Bool
is_grant tree g = is_name g.name && has_directory tree g.path

abbrev pub are_grants_apart : Grant → Grant → Bool
are_grants_apart g h = not (bytes_eq g.name h.name) && not (begins g.path h.path) && not (begins h.path g.path)

abbrev pub are_grants : List Node → List Grant → Bool
are_grants tree grants = nat_le (length grants) most_grants && list_all (is_grant tree) grants && all_apart are_grants_apart grants

-- Each program is valid, and has a name of its own.
abbrev pub is_program_named : NamedProgram → Bool
is_program_named p = is_name p.name && is_program p.code

abbrev pub are_named_apart : NamedProgram → NamedProgram → Bool
are_named_apart p q = not (bytes_eq p.name q.name)

abbrev pub are_programs : List NamedProgram → Bool
are_programs programs = nat_le (length programs) most_programs && list_all is_program_named programs && all_apart are_named_apart programs

-- A first descriptor is of an end of an initial pair; or of a file or directory, and is for reading or writing; a directory is
-- not written.
abbrev pub is_accessed : Node → Access → Bool
is_accessed m access = not (is_link m.kind) && (access.readable || access.writable) && not (is_dir m.kind && access.writable)

abbrev pub is_object : List Node → FirstObject → Bool
is_object tree (On_node n access) = is_accessed (node tree n) access
is_object tree (On_end pair side) = nat_lt pair most_pairs && nat_lt side 2

abbrev pub is_descriptor : List Node → FirstDescriptor → Bool
is_descriptor tree d =
    nat_lt d.number most_descriptors && is_object tree d.object && is_within d.rights all_rights && is_within d.fcntls all_commands

-- each at a number of its own
abbrev pub are_numbered_apart : FirstDescriptor → FirstDescriptor → Bool
are_numbered_apart d e = not (d.number == e.number)

abbrev pub are_descriptors : List Node → List FirstDescriptor → Bool
are_descriptors tree descriptors = list_all (is_descriptor tree) descriptors && all_apart are_numbered_apart descriptors

abbrev pub is_start : List Node → ℕ → Start → Bool
is_start tree programs s = nat_lt s.program programs && are_descriptors tree s.descriptors

abbrev pub are_starts : List Node → ℕ → List Start → Bool
are_starts tree programs starts =
    nat_le 1 (length starts) && nat_le (length starts) most_processes && list_all (is_start tree programs) starts

abbrev pub has_valid_parts : Plan → Bool
has_valid_parts plan =
    is_tree plan.nodes && are_grants plan.nodes plan.grants && are_programs plan.programs
    && are_starts plan.nodes (length plan.programs) plan.starts

-- Each program is of the task's own language.
abbrev pub is_in_language : Bool → NamedProgram → Bool
is_in_language wide p = are_spoken wide p.code

abbrev pub is_plan : Plan → Bool
is_plan plan = has_valid_parts plan && list_all (is_in_language plan.wide) plan.programs
