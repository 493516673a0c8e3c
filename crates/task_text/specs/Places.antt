-- Where a byte of a text stands: its line and its column, each counted from 1. (own)
use Rattle.std.specs.Prelude.{ℕ, ◌+◌, ◌-◌, ◌^◌, ◌==◌, ◌&&◌, List, [], ◌∷◌, drop, take, length, min, nat_le, suc, zero, if◌then◌else◌}

-- one more, up to the greatest number of 32 bits
abbrev pub one_more : ℕ → ℕ
one_more n = min (n + 1) (2 ^ 32 - 1)

-- what stands behind a byte that stands there; a tab is one column
abbrev pub passed : ℕ → ℕ × ℕ → ℕ × ℕ
passed byte place = if byte == 10 then (one_more place.0, 1) else (place.0, one_more place.1)

-- where the byte behind so many stands, if the first stands there; from the end on, where the text ends
abbrev pub counted_from : List ℕ → ℕ → ℕ × ℕ → ℕ × ℕ
counted_from [] n place = place
counted_from (byte ∷ text) zero place = place
counted_from (byte ∷ text) (suc n) place = counted_from text n (passed byte place)

abbrev pub place_at : List ℕ → ℕ → ℕ × ℕ
place_at text offset = counted_from text offset (1, 1)

-- the bytes between two offsets, if these are offsets of the text in order
abbrev pub part : List ℕ → ℕ → ℕ → List ℕ
part text start end = if nat_le start end && nat_le end (length text) then take (end - start) (drop start text) else []
