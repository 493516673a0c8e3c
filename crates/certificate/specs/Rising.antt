-- Points that rise, by the names of their programs and their numbers. (own)
use Rattle.std.specs.Prelude.{◌&&◌, ℕ, Bool, true, List, [], ◌∷◌, map}
use Rattle.std.specs.List.{list_all}
use Rattle.std.specs.Ordering.{is_lt}
use Rattle.certificate.specs.Bounds.{PointBound}
use Rattle.certificate.specs.Growth.{point_order}

abbrev pub precedes : List ℕ × ℕ → List ℕ × ℕ → Bool
precedes a b = is_lt (point_order a.0 a.1 b.0 b.1)

abbrev pub rises : List (List ℕ × ℕ) → Bool
rises [] = true
rises (a ∷ places) = list_all (precedes a) places && rises places

abbrev pub places_of : List PointBound → List (List ℕ × ℕ)
places_of points = map (λ (b : PointBound). (b.program, b.point)) points
