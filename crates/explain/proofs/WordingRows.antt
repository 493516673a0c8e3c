-- How points are worded, and which texts are of one line.
use Rattle.std.proofs.Common.{◌≡◌, true, false, [], ◌∷◌, refl}
use Rattle.std.specs.Fmt.{digits}
use Rattle.std.specs.Prelude.{codes}
use Rattle.explain.specs.Wording.{is_one_line, joined_points, points_text}

no_points : points_text [] ≡ []
no_points = refl

one_point : points_text (7 ∷ []) ≡ codes "7"
unfolding digits
one_point = refl

some_ranges : points_text (3 ∷ 5 ∷ 6 ∷ 7 ∷ 9 ∷ 10 ∷ []) ≡ codes "3, 5 to 7, 9 to 10"
unfolding digits
some_ranges = refl

-- a point that stands twice, and one that stands before a lesser one, go on with none
no_order : points_text (4 ∷ 4 ∷ 3 ∷ []) ≡ codes "4, 4, 3"
unfolding digits
no_order = refl

joined : joined_points (codes " at ") (2 ∷ 3 ∷ []) ≡ codes " at 2 to 3"
unfolding digits
joined = refl

joined_none : joined_points (codes " at ") [] ≡ []
joined_none = refl

a_line : is_one_line (codes "the policy") ≡ true
a_line = refl

two_lines : is_one_line (codes "the\npolicy") ≡ false
two_lines = refl

nothing : is_one_line [] ≡ false
nothing = refl
