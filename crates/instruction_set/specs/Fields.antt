-- What a word of a line can stand for. (own)
use Rattle.std.specs.Prelude.{◌==◌, ◌-◌, ◌^◌, ℕ, Bool, false, ◌&&◌, ◌||◌, nat_le, nat_lt, List, [], ◌∷◌, codes, Option, Some, None, option_map, option_and_then, bit_or, if◌then◌else◌}
use Rattle.std.specs.Str.{bytes_eq}
use Rattle.texts.specs.Bytes.{quote, comma}
use Rattle.rights.specs.Opens.{OpenRequest, is_valid, open_request}
use Rattle.rights.specs.Sets.{is_within, plain_rights, right_names, command_names}
use Rattle.rights.specs.Uses.{is_further_right}
use Rattle.texts.specs.Names.{is_name}
use Rattle.texts.specs.Numbers.{at_most, number_of}
use Rattle.texts.specs.Parts.{parts}
use Rattle.instruction_set.specs.Programs.{Operand, Register, Number, is_path}

-- a label's name
abbrev pub read_name : List ℕ → Option (List ℕ)
read_name word = if is_name word then Some word else None

-- A number that a register can hold.
abbrev pub read_value : List ℕ → Option ℕ
read_value word = at_most (2 ^ 32 - 1) (number_of word)

-- r0 to r7
abbrev pub read_register : List ℕ → Option ℕ
read_register (r ∷ digit ∷ []) = if (r == 114) && nat_le 48 digit && nat_lt digit 56 then Some (digit - 48) else None
read_register _ = None

-- a register or a number
abbrev pub operand_from : Option ℕ → Option ℕ → Option Operand
operand_from (Some register) number = Some (Register register)
operand_from None number = option_map Number number

abbrev pub read_operand : List ℕ → Option Operand
read_operand word = operand_from (read_register word) (read_value word)

-- The word without its last byte, where that is this one.
abbrev pub before_last : ℕ → List ℕ → Option (List ℕ)
before_last byte [] = None
before_last byte (b ∷ []) = if b == byte then Some [] else None
before_last byte (b ∷ c ∷ word) = option_map (λ front. b ∷ front) (before_last byte (c ∷ word))

-- A path in double quotes.
abbrev pub path_in : Option (List ℕ) → Option (List ℕ)
path_in None = None
path_in (Some path) = if is_path path then Some path else None

abbrev pub read_path : List ℕ → Option (List ℕ)
read_path [] = None
read_path (b ∷ word) = if b == quote then path_in (before_last quote word) else None

-- Lists are joined by commas, each word once, in any order. What a word stands for is a set, and the
-- list stands for the union; `none` is the empty list.
abbrev pub is_word_among : List ℕ → List (List ℕ) → Bool
is_word_among word [] = false
is_word_among word (w ∷ words) = bytes_eq word w || is_word_among word words

abbrev pub set_of_word : List (List ℕ × ℕ) → List ℕ → Option ℕ
set_of_word [] word = None
set_of_word (row ∷ rows) word = if bytes_eq word row.0 then Some row.1 else set_of_word rows word

abbrev pub union_from : List (List ℕ × ℕ) → ℕ → List (List ℕ) → Option ℕ
union_from names set [] = Some set
union_from names set (word ∷ words) =
    if is_word_among word words then None
    else option_and_then (λ more. union_from names (bit_or set more) words) (set_of_word names word)

abbrev pub set_of : List (List ℕ × ℕ) → List ℕ → Option ℕ
set_of names word = if bytes_eq word (codes "none") then Some 0 else union_from names 0 (parts comma word)

-- Further rights are words of the wide language alone.
abbrev pub rights_in : Bool → Option ℕ → Option ℕ
rights_in wide None = None
rights_in wide (Some rights) = if wide || is_within rights plain_rights then Some rights else None

abbrev pub read_rights : Bool → List ℕ → Option ℕ
read_rights wide word = rights_in wide (set_of right_names word)

-- one further right, by its name
abbrev pub further_in : Option ℕ → Option ℕ
further_in None = None
further_in (Some right) = if is_further_right right then Some right else None

abbrev pub read_further : List ℕ → Option ℕ
read_further word = further_in (set_of_word right_names word)

abbrev pub read_commands : List ℕ → Option ℕ
read_commands word = set_of command_names word

-- The flags of an open are a list too. (open(2))
abbrev pub flag_names : List (List ℕ × ℕ)
flag_names =
    (codes "read", 2 ^ 0) ∷ (codes "write", 2 ^ 1) ∷ (codes "append", 2 ^ 2) ∷ (codes "create", 2 ^ 3)
    ∷ (codes "trunc", 2 ^ 4) ∷ []

abbrev pub request_of : ℕ → OpenRequest
request_of flags =
    open_request (is_within (2 ^ 0) flags) (is_within (2 ^ 1) flags) (is_within (2 ^ 2) flags) (is_within (2 ^ 3) flags)
    (is_within (2 ^ 4) flags)

abbrev pub valid_request : OpenRequest → Option OpenRequest
valid_request request = if is_valid request then Some request else None

abbrev pub read_flags : List ℕ → Option OpenRequest
read_flags word = option_and_then (λ flags. valid_request (request_of flags)) (set_of flag_names word)
