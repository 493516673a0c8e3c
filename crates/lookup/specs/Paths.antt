-- A path as a text: its last name, and what is wrong with it before anything is looked up.
use Rattle.std.specs.Prelude.{ℕ, Bool, false, ◌&&◌, ◌||◌, not, nat_eq, nat_le, List, [], ◌∷◌, codes, Option, Some, None, length, if◌then◌else◌}
use Rattle.std.specs.List.{list_all}
use Rattle.std.specs.Str.{bytes_eq}
use Rattle.rights.specs.Values.{Name, PathText}
use Rattle.rights.specs.Limits.{most_path}
use Rattle.file_tree.specs.Places.{slash, is_file_name_byte, names_fit, path_components}
use Rattle.lookup.specs.Answers.{Way, Beneath, Global, Last, Follow, Keep, LookupFault, Escape, No_entry, Too_long, Bad_last}

-- whether a path, or a link's target, begins with `/` (open(2))
abbrev pub is_absolute : PathText → Bool
is_absolute [] = false
is_absolute (b ∷ path) = nat_eq b slash

-- the names `.`, the directory itself, and `..`, the one that holds it (open(2))
abbrev pub is_dot : Name → Bool
is_dot name = bytes_eq name (codes ".")

abbrev pub is_dot_dot : Name → Bool
is_dot_dot name = bytes_eq name (codes "..")

-- the last of some names, and another one where there is none
abbrev pub last_or : Name → List Name → Name
last_or other [] = other
last_or other (name ∷ names) = last_or name names

-- The last name of a path, which is empty where the path has none.
unfoldable pub last_component : PathText → Name
last_component path = last_or [] (path_components path)

-- whether it, or one of its names, has too many bytes
abbrev pub is_too_long : PathText → Bool
is_too_long path = not (nat_le (length path) most_path && names_fit 0 path)

-- whether the last name can't be kept: there is none, or it is `.` or `..`
abbrev pub is_bad_last : Name → Bool
is_bad_last name = nat_eq (length name) 0 || is_dot name || is_dot_dot name

abbrev pub is_escape : Way → PathText → Bool
is_escape Beneath path = is_absolute path
is_escape Global path = false

abbrev pub is_unkept : Last → PathText → Bool
is_unkept Follow path = false
is_unkept Keep path = is_bad_last (last_component path)

-- What is wrong with the text, in the order in which it is asked: too long; empty; absolute, though it is
-- to stay beneath its start; a last name that can't be kept. (open(2); the order is own)
unfoldable pub path_fault : PathText → Way → Last → Option LookupFault
path_fault path way last =
    if is_too_long path then Some Too_long
    else (if nat_eq (length path) 0 then Some No_entry
    else (if is_escape way path then Some Escape
    else (if is_unkept last path then Some Bad_last else None)))

-- whether each byte is one of a name or `/`, as in the paths of a program
abbrev pub is_place_byte : ℕ → Bool
is_place_byte b = is_file_name_byte b || nat_eq b slash

abbrev pub has_path_bytes : PathText → Bool
has_path_bytes path = list_all is_place_byte path
