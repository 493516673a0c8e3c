-- Letters in the bytes of a text: those from 128 to 191 go on with one. (own)
use Rattle.std.specs.Prelude.{ℕ, Bool, ◌||◌, nat_le, nat_lt}

abbrev pub begins_letter : ℕ → Bool
begins_letter byte = nat_lt byte 128 || nat_le 192 byte
