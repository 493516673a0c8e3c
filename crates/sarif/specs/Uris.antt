-- The URI reference of a file by its name: a path of RFC 3986.
use Rattle.std.specs.Prelude.{ℕ, ◌++◌, ◌&&◌, ◌||◌, Bool, List, [], ◌∷◌, codes, nat_eq, if◌then◌else◌}
use Rattle.std.specs.Char.{is_ascii, is_ascii_alphanumeric}
use Rattle.std.specs.List.{flat_map, list_any, starts_with}
use Rattle.percent_encoding.specs.Percent.{percent_encode_byte}

-- A byte stands in a path as it is (3.3), but for `:`, which may not stand in the first segment of a reference (4.2).
abbrev pub stands_in_path : ℕ → Bool
stands_in_path byte = is_ascii byte && (is_ascii_alphanumeric byte || list_any (nat_eq byte) (codes "-._~!$&'()*+,;=@/"))

-- Two slashes at the head would begin an authority (4.2): a segment `.` stands before them then.
abbrev pub head_of : List ℕ → List ℕ
head_of name = if starts_with nat_eq name (codes "//") then codes "/." else []

abbrev pub byte_in_path : ℕ → List ℕ
byte_in_path byte = if stands_in_path byte then byte ∷ [] else percent_encode_byte byte

abbrev pub uri_of : List ℕ → List ℕ
uri_of name = head_of name ++ flat_map byte_in_path name
