-- Numbers in a fixed count of hexadecimal digits, 0 to 9 and a to f. (own)
use Rattle.std.specs.Prelude.{◌==◌, ◌+◌, ◌*◌, ◌-◌, ◌/◌, ◌%◌, ◌&&◌, ◌||◌, ℕ, zero, suc, Bool, nat_le, nat_lt, List, [], ◌∷◌, ◌++◌, length, Option, Some, None, if◌then◌else◌}
use Rattle.std.specs.List.{list_all}
use Rattle.texts.specs.Bytes.{is_digit, zero_digit}

abbrev pub lower_a : ℕ
lower_a = 97

-- the digit of a number below 16
abbrev pub hex_digit : ℕ → ℕ
hex_digit n = if nat_lt n 10 then zero_digit + n else lower_a + (n - 10)

-- the lowest so many digits of a number, the highest of them first
abbrev pub hex_text : ℕ → ℕ → List ℕ
hex_text zero n = []
hex_text (suc count) n = hex_text count (n / 16) ++ hex_digit (n % 16) ∷ []

abbrev pub is_hex_digit : ℕ → Bool
is_hex_digit byte = is_digit byte || (nat_le lower_a byte && nat_le byte 102)

-- what a digit stands for
abbrev pub hex_value : ℕ → ℕ
hex_value byte = if is_digit byte then byte - zero_digit else byte - lower_a + 10

-- what the digits stand for, behind digits that stand for n
abbrev pub hex_from : ℕ → List ℕ → ℕ
hex_from n [] = n
hex_from n (b ∷ digits) = hex_from (n * 16 + hex_value b) digits

-- the number of a word of just so many digits; none of any other word
abbrev pub hex_of : ℕ → List ℕ → Option ℕ
hex_of count word = if (length word == count) && list_all is_hex_digit word then Some (hex_from 0 word) else None
