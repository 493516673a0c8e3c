-- How points, and what is observed at them, are worded. (own)
use Rattle.std.specs.Prelude.{ℕ, ◌+◌, ◌-◌, ◌^◌, ◌++◌, ◌==◌, Bool, true, false, List, [], ◌∷◌, codes, if◌then◌else◌, min, not}
use Rattle.std.specs.Fmt.{decimal}
use Rattle.std.specs.List.{list_all}
use Rattle.texts.specs.Bytes.{line_feed}

-- a text of one line: it isn't empty, and no line ends in it
abbrev pub is_one_line : List ℕ → Bool
is_one_line [] = false
is_one_line (byte ∷ bytes) = list_all (λ b. not (b == line_feed)) (byte ∷ bytes)

-- the first of some points is the next number behind a point
abbrev pub is_next : ℕ → List ℕ → Bool
is_next point [] = false
is_next point (next ∷ points) = (point + 1) == next

-- a point in decimal digits, as a number of 32 bits
abbrev pub point_digits : ℕ → List ℕ
point_digits point = decimal (min point (2 ^ 32 - 1))

-- Points as ranges, the first of them behind a separator; or behind a point whose range goes on.
abbrev pub ranges_text : List ℕ → Bool → List ℕ → List ℕ
ranges_text separator goes [] = []
ranges_text separator false (point ∷ points) = separator ++ (point_digits point ++ ranges_text (codes ", ") (is_next point points) points)
ranges_text separator true (point ∷ points) =
    if is_next point points then ranges_text separator true points else codes " to " ++ (point_digits point ++ ranges_text separator false points)

-- points as ranges: `3, 5 to 9`
abbrev pub points_text : List ℕ → List ℕ
points_text points = ranges_text [] false points

-- what joins points to what is said of them, and the points; nothing where there are none
abbrev pub joined_points : List ℕ → List ℕ → List ℕ
joined_points joint [] = []
joined_points joint (point ∷ points) = joint ++ points_text (point ∷ points)
