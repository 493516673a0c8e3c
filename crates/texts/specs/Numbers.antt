-- Numbers in decimal digits, of any length, without leading zeros. (own)
use Rattle.std.specs.Prelude.{◌==◌, ◌+◌, ◌*◌, ◌-◌, ◌&&◌, ℕ, Bool, true, false, not, nat_le, List, [], ◌∷◌, Option, Some, None, if◌then◌else◌}
use Rattle.std.specs.List.{list_all}
use Rattle.std.specs.declared.cmp.Ordering.{Ordering}
use Rattle.std.specs.Ordering.{nat_cmp}
use Rattle.texts.specs.Bytes.{is_digit, zero_digit}

-- it isn't empty, and a zero is not followed by more
abbrev pub begins_well : List ℕ → Bool
begins_well [] = false
begins_well (b ∷ []) = true
begins_well (b ∷ c ∷ digits) = not (b == zero_digit)

abbrev pub is_number : List ℕ → Bool
is_number word = begins_well word && list_all is_digit word

-- what the digits stand for, behind digits that stand for n
abbrev pub value_from : ℕ → List ℕ → ℕ
value_from n [] = n
value_from n (b ∷ digits) = value_from (n * 10 + (b - zero_digit)) digits

abbrev pub number_of : List ℕ → Option ℕ
number_of word = if is_number word then Some (value_from 0 word) else None

abbrev pub at_most : ℕ → Option ℕ → Option ℕ
at_most limit None = None
at_most limit (Some n) = if nat_le n limit then Some n else None

-- how two of them compare, if both are numbers
abbrev pub compared : Option ℕ → Option ℕ → Option Ordering
compared None n = None
compared (Some m) None = None
compared (Some m) (Some n) = Some (nat_cmp m n)
