-- Names, and places as lists of names. (own, but for what the manual pages beside it say)
use Rattle.std.specs.Prelude.{ℕ, ◌+◌, ◌-◌, Bool, true, false, ◌&&◌, ◌||◌, not, nat_eq, nat_le, List, [], ◌∷◌, ◌++◌, codes, drop, length, take, if◌then◌else◌}
use Rattle.std.specs.List.{list_all}
use Rattle.std.specs.Str.{bytes_eq}
use Rattle.rights.specs.Values.{Name, Place, PathText}
use Rattle.rights.specs.Limits.{most_name, most_path}

abbrev pub slash : ℕ
slash = 47

-- a name of a place ends where its text ends, or before a `/`
abbrev pub ends_name : PathText → Bool
ends_name [] = true
ends_name (b ∷ text) = nat_eq b slash

-- Whether a path is that of a place, or leads beneath it. The place is written without a slash at its end, so that of the root is empty. (own)
unfoldable pub lies_at : PathText → PathText → Bool
lies_at place path = bytes_eq (take (length place) path) place && ends_name (drop (length place) path)

abbrev pub quote : ℕ
quote = 34

abbrev pub backslash : ℕ
backslash = 92

-- A name: one to 255 bytes from 33 to 126 without `/`, `"` and `\`; `.` and `..` name no node.
abbrev pub is_file_name_byte : ℕ → Bool
is_file_name_byte b = nat_le 33 b && nat_le b 126 && not (nat_eq b quote || nat_eq b slash || nat_eq b backslash)

abbrev pub is_dots : Name → Bool
is_dots name = bytes_eq name (codes ".") || bytes_eq name (codes "..")

-- A name of a path is a node's name of any length.
abbrev pub is_path_name : Name → Bool
is_path_name name = not (nat_eq (length name) 0) && list_all is_file_name_byte name && not (is_dots name)

unfoldable pub is_file_name : Name → Bool
is_file_name name = not (nat_eq (length name) 0) && nat_le (length name) most_name && list_all is_file_name_byte name && not (is_dots name)

-- whether each name in a text has at most 255 bytes, of which so many of the first are already read
abbrev pub names_fit : ℕ → List ℕ → Bool
names_fit read [] = nat_le read most_name
names_fit read (b ∷ text) = if nat_eq b slash then nat_le read most_name && names_fit 0 text else names_fit (read + 1) text

-- What a symbolic link may hold: a text of 1 to 1023 bytes whose names have at most 255 bytes each.
unfoldable pub is_target : PathText → Bool
is_target text = not (nat_eq (length text) 0) && nat_le (length text) most_path && names_fit 0 text

-- A place is the list of the names from the root down. The root's is empty.
abbrev pub same_place : Place → Place → Bool
same_place [] [] = true
same_place [] (y ∷ q) = false
same_place (x ∷ p) [] = false
same_place (x ∷ p) (y ∷ q) = bytes_eq x y && same_place p q

-- whether the second place begins with the first, name by name
abbrev pub begins : Place → Place → Bool
begins [] q = true
begins (x ∷ p) [] = false
begins (x ∷ p) (y ∷ q) = bytes_eq x y && begins p q

-- the place of that name in the directory at a place
abbrev pub at_name : Place → Name → Place
at_name p name = p ++ name ∷ []

-- the place of the directory above, which for the root is the root
abbrev pub above : Place → Place
above p = take (length p - 1) p

-- A place as text: `/` for the root, else each name after a `/`.
abbrev pub names_text : Place → PathText
names_text [] = []
names_text (name ∷ p) = (slash ∷ name) ++ names_text p

abbrev pub place_text : Place → PathText
place_text [] = slash ∷ []
place_text (name ∷ p) = names_text (name ∷ p)

-- The names in a path: it is cut at each `/`, and empty names are left out. (open(2))
abbrev pub with_name : Name → List Name → List Name
with_name [] names = names
with_name (b ∷ name) names = (b ∷ name) ∷ names

abbrev pub names_from : Name → PathText → List Name
names_from begun [] = with_name begun []
names_from begun (b ∷ path) = if nat_eq b slash then with_name begun (names_from [] path) else names_from (begun ++ b ∷ []) path

unfoldable pub path_components : PathText → List Name
path_components path = names_from [] path
