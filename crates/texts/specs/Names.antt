-- Names of labels, programs and grants: a letter from a to z, and up to 15 of a to z, 0 to 9 and `_`. (own)
use Rattle.std.specs.Prelude.{◌==◌, ℕ, Bool, false, ◌&&◌, ◌||◌, nat_lt, List, [], ◌∷◌, length}
use Rattle.std.specs.List.{list_all}
use Rattle.rights.specs.Limits.{most_word}
use Rattle.texts.specs.Bytes.{is_lower, is_digit, underscore}

abbrev pub is_name_byte : ℕ → Bool
is_name_byte byte = is_lower byte || is_digit byte || (byte == underscore)

abbrev pub is_name : List ℕ → Bool
is_name [] = false
is_name (b ∷ name) = is_lower b && nat_lt (length name) most_word && list_all is_name_byte name
