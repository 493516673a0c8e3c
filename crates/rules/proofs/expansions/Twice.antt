-- An expansion is its own.
use Rattle.std.proofs.Common.{◌≡◌, ◌≤◌, ◌<◌, ◌+◌, ℕ, zero, suc, Bool, true, false, List, [], ◌∷◌, ◌++◌, refl, ap, sym, ◌∙◌, arith}
use Rattle.std.specs.Prelude.{◌==◌, ◌&&◌, Option, Some, None, is_some, option_map, if◌then◌else◌}
use Rattle.std.specs.List.{flat_map, list_all, slice_get}
use Rattle.std.specs.Str.{bytes_eq}
use Rattle.std.proofs.lemmas.Bool.{eq-eqb, eqb-true, ltb-true}
use Rattle.std.proofs.lemmas.Bool.Decides.{nat_tests}
use Rattle.rights.specs.Limits.{most_instructions}
use Rattle.certificate.specs.Bounds.{Bound, PointBound, Version, One, Two, Three, Four, Certificate, bound_in, bound_at}
use Rattle.certificate.specs.Growth.{IsCertificate}
use Rattle.certificate.specs.Told.{told_bound}
use Rattle.certificate.proofs.Growing.{and_left, and_right, both_true}
use Rattle.instruction_set.specs.Programs.{Instruction}
use Rattle.task.specs.Plans.{Plan}
use Rattle.rules.specs.Outcomes.{error_outcomes}
use Rattle.rules.specs.Carrying.{joined_at}
use Rattle.rules.specs.Expansions.{or_carried, bound_with, bound_there, with_bound, code_named, may_carry, carried_by, carried_past, carried_to, points_along}
use Rattle.rules.specs.Expansions.{programs_behind, programs_given, expanded_points, expanded, expansion}
use Rattle.rules.proofs.expansions.Arriving.{is_low, points_low}
use Rattle.rules.proofs.expansions.Channelled.{followed_points}
use Rattle.rules.proofs.expansions.Expanded.{bytes_same, there_low}

or_twice : (given carried : Option Bound) → or_carried (or_carried given carried) carried ≡ or_carried given carried
or_twice None None = refl
or_twice None (Some b) = refl
or_twice (Some b) carried = refl

-- BOUNDS: those that are written are carried on as they were.
module _ (plan : Plan) (c : Certificate) where
  abbrev written : Certificate
  written = record c { points = expanded_points plan c }

  carried_alike : (name : List ℕ) (point : ℕ) (i : Option Instruction) (b : Option Bound) → carried_by plan written name point i b ≡ carried_by plan c name point i b
  carried_alike name point None b = refl
  carried_alike name point (Some i) None = refl
  carried_alike name point (Some i) (Some b) = λ k.
      if may_carry c.version (code_named plan.programs name) (suc point)
      then option_map (told_bound c.version) (joined_at (point + 1) None (followed_points c.version (expanded_points plan c) c plan name point b i k ++ error_outcomes b i))
      else None

  there_alike : (name : List ℕ) (n : ℕ) → n < most_instructions → carried_to plan written name n ≡ carried_to plan c name n
      → bound_there plan written name n ≡ bound_there plan c name n
  there_alike name n low carried = (λ k. or_carried (there_low plan c name n low k) (carried k)) ∙ or_twice (bound_at c name n) (carried_to plan c name n)

  carried_same : (name : List ℕ) (n : ℕ) → n ≤ most_instructions → carried_to plan written name n ≡ carried_to plan c name n
  unfolding carried_to
  carried_same name zero low = refl
  carried_same name (suc n) low =
      let before = carried_same name n (omega (arith, low)) in
      ap (carried_by plan written name n (slice_get (code_named plan.programs name) n)) (there_alike name n (omega (arith, low)) before)
      ∙ carried_alike name n (slice_get (code_named plan.programs name) n) (bound_there plan c name n)

  along_same : (name : List ℕ) (point count : ℕ) → point + count ≤ most_instructions
      → points_along plan written name (carried_to plan written name point) point count ≡ points_along plan c name (carried_to plan c name point) point count
  unfolding points_along carried_to
  along_same name point zero low = refl
  along_same name point (suc count) low =
      let here = there_alike name point (omega (arith, low)) (carried_same name point (omega (arith, low))) in
      let rest = along_same name (suc point) count (omega (arith, low)) in
      λ k. with_bound name point (here k) ++ rest k

  all_along_same : (names : List (List ℕ)) → flat_map (λ name. points_along plan written name None 0 most_instructions) names
      ≡ flat_map (λ name. points_along plan c name None 0 most_instructions) names
  unfolding carried_to
  all_along_same [] = refl
  all_along_same (name ∷ names) =
      let here = along_same name 0 most_instructions (omega arith) in let rest = all_along_same names in λ k. here k ++ rest k

-- PROGRAMS: those that are given a bound stay.
-- each name differs from the one before it
abbrev Differ : List ℕ → List (List ℕ) → Type 0
Differ last [] = Unit {0}
Differ last (name ∷ names) = (bytes_eq name last ≡ false) × Differ name names

behind_differ : (last : List ℕ) (points : List PointBound) → Differ last (programs_behind last points)
unfolding programs_behind
behind_differ last [] = tt
behind_differ last (b ∷ points) = go (bytes_eq b.program last) refl (behind_differ last points) (behind_differ b.program points)
  where
    go : (same : Bool) → bytes_eq b.program last ≡ same → Differ last (programs_behind last points) → Differ b.program (programs_behind b.program points)
        → Differ last (if same then programs_behind last points else b.program ∷ programs_behind b.program points)
    go true is more others = more
    go false is more others = (is, others)

-- each has a point with a bound among the first 256
abbrev HasPoint : Certificate → List ℕ → Type 0
HasPoint c name = (point : ℕ) × (point < most_instructions) × (is_some (bound_at c name point) ≡ true)

abbrev HavePoints : Certificate → List (List ℕ) → Type 0
HavePoints c [] = Unit {0}
HavePoints c (name ∷ names) = HasPoint c name × HavePoints c names

abbrev is_found : List PointBound → PointBound → Bool
is_found points b = is_some (bound_in points b.program b.point)

still_found : (a b : PointBound) (points : List PointBound) → is_found points b ≡ true → is_found (a ∷ points) b ≡ true
unfolding bound_in
still_found a b points found = go (bytes_eq a.program b.program && (a.point == b.point))
  where
    go : (own : Bool) → is_some (if own then Some a.bound else bound_in points b.program b.point) ≡ true
    go true = refl
    go false = found

all_still : (a : PointBound) (points some : List PointBound) → list_all (is_found points) some ≡ true → list_all (is_found (a ∷ points)) some ≡ true
all_still a points [] found = refl
all_still a points (b ∷ some) found =
    both_true (is_found (a ∷ points) b) (list_all (is_found (a ∷ points)) some)
    (still_found a b points (and_left (is_found points b) (list_all (is_found points) some) found))
    (all_still a points some (and_right (is_found points b) (list_all (is_found points) some) found))

first_found : (a : PointBound) (points : List PointBound) → is_found (a ∷ points) a ≡ true
unfolding bound_in
first_found a points =
    ap (λ own. is_some (if own && (a.point == a.point) then Some a.bound else bound_in points a.program a.point)) (bytes_same a.program)
    ∙ ap (λ own. is_some (if own then Some a.bound else bound_in points a.program a.point)) (eq-eqb a.point a.point refl)

all_found : (points : List PointBound) → list_all (is_found points) points ≡ true
all_found [] = refl
all_found (a ∷ points) =
    both_true (is_found (a ∷ points) a) (list_all (is_found (a ∷ points)) points) (first_found a points) (all_still a points points (all_found points))

one_has : (c : Certificate) (b : PointBound) → is_low b ≡ true → is_found c.points b ≡ true → HasPoint c b.program
one_has c b low found = (b.point, ltb-true b.point most_instructions low, found)

behind_have : (c : Certificate) (last : List ℕ) (points : List PointBound) → list_all is_low points ≡ true → list_all (is_found c.points) points ≡ true
    → HavePoints c (programs_behind last points)
unfolding programs_behind
behind_have c last [] low found = tt
behind_have c last (b ∷ points) low found =
    let lower = and_right (is_low b) (list_all is_low points) low in
    let others = and_right (is_found c.points b) (list_all (is_found c.points) points) found in
    go (bytes_eq b.program last) (behind_have c last points lower others) (behind_have c b.program points lower others)
  where
    go : (same : Bool) → HavePoints c (programs_behind last points) → HavePoints c (programs_behind b.program points)
        → HavePoints c (if same then programs_behind last points else b.program ∷ programs_behind b.program points)
    go true more rest = more
    go false more rest =
        (one_has c b (and_left (is_low b) (list_all is_low points) low) (and_left (is_found c.points b) (list_all (is_found c.points) points) found), rest)

-- The points along a program are of that program, and there are some where one is given.
module _ (plan : Plan) (c : Certificate) (name : List ℕ) where
  own_behind : (carried : Option Bound) (point count : ℕ) (rest : List PointBound)
      → programs_behind name (points_along plan c name carried point count ++ rest) ≡ programs_behind name rest
  unfolding points_along programs_behind
  own_behind carried point zero rest = refl
  own_behind carried point (suc count) rest =
      let next = carried_past plan c name point carried in
      go (bound_with plan c name point carried) (own_behind next (suc point) count rest)
    where
      behind : List PointBound
      behind = points_along plan c name (carried_past plan c name point carried) (suc point) count

      go : (o : Option Bound) → programs_behind name (behind ++ rest) ≡ programs_behind name rest
          → programs_behind name ((with_bound name point o ++ behind) ++ rest) ≡ programs_behind name rest
      go None more = more
      go (Some b) more =
          ap (λ own. if own then programs_behind name (behind ++ rest) else name ∷ programs_behind name (behind ++ rest)) (bytes_same name) ∙ more

  -- a list of points whose programs are told, or told behind another one
  module _ (tell : List PointBound → List (List ℕ)) (rest : List PointBound)
      (first : (point : ℕ) (b : Bound) (points : List PointBound)
      → tell ((record { program = name; point = point; bound = b }) ∷ points) ≡ name ∷ programs_behind name points) where
    some_along : (carried : Option Bound) (point count n : ℕ) → point ≤ n → n < point + count → is_some (bound_at c name n) ≡ true
        → tell (points_along plan c name carried point count ++ rest) ≡ name ∷ programs_behind name rest
    unfolding points_along
    some_along carried point zero n low high found = absurd (omega (arith, low, high))
    some_along carried point (suc count) n low high found =
        go (bound_at c name point) refl carried
        (λ later. some_along (carried_past plan c name point carried) (suc point) count n (omega (arith, later)) (omega (arith, high)) found)
      where
        behind : List PointBound
        behind = points_along plan c name (carried_past plan c name point carried) (suc point) count

        here : (b : Bound) → tell ((with_bound name point (Some b) ++ behind) ++ rest) ≡ name ∷ programs_behind name rest
        here b =
            first point b (behind ++ rest)
            ∙ ap (λ names. name ∷ names) (own_behind (carried_past plan c name point carried) (suc point) count rest)

        later : bound_at c name point ≡ None → point < n
        later none = apart (point == n) refl
          where
            apart : (same : Bool) → (point == n) ≡ same → point < n
            apart true same =
                absurd (let both : true ≡ false = sym found ∙ ap (λ m. is_some (bound_at c name m)) (sym (eqb-true point n same)) ∙ ap is_some none in cc)
            apart false same = grind (arith, nat_tests, same, low)

        go : (given : Option Bound) → bound_at c name point ≡ given → (o : Option Bound)
            → (point < n → tell (behind ++ rest) ≡ name ∷ programs_behind name rest)
            → tell ((with_bound name point (or_carried given o) ++ behind) ++ rest) ≡ name ∷ programs_behind name rest
        go (Some b) is o more = here b
        go None is (Some b) more = here b
        go None is None more = more (later is)

new_first : (name last : List ℕ) → bytes_eq name last ≡ false → (point : ℕ) (b : Bound) (points : List PointBound)
    → programs_behind last ((record { program = name; point = point; bound = b }) ∷ points) ≡ name ∷ programs_behind name points
unfolding programs_behind
new_first name last other point b points = ap (λ same. if same then programs_behind last points else name ∷ programs_behind name points) other

module _ (plan : Plan) (c : Certificate) where
  abbrev along : List ℕ → List PointBound
  along name = points_along plan c name None 0 most_instructions

  behind_again : (last : List ℕ) (names : List (List ℕ)) → Differ last names → HavePoints c names → programs_behind last (flat_map along names) ≡ names
  unfolding programs_behind
  behind_again last [] differ have = refl
  behind_again last (name ∷ names) differ have =
      some_along plan c name (programs_behind last) (flat_map along names) (new_first name last differ.0) None 0 most_instructions have.0.0 (omega arith) have.0.1 have.0.2
      ∙ ap (λ rest. name ∷ rest) (behind_again name names differ.1 have.1)

  given_again : (points : List PointBound) → list_all is_low points ≡ true → list_all (is_found c.points) points ≡ true
      → programs_given (flat_map along (programs_given points)) ≡ programs_given points
  given_again [] low found = refl
  given_again (b ∷ points) low found =
      let own = one_has c b (and_left (is_low b) (list_all is_low points) low) (and_left (is_found c.points b) (list_all (is_found c.points) points) found) in
      let have = behind_have c b.program points (and_right (is_low b) (list_all is_low points) low)
      (and_right (is_found c.points b) (list_all (is_found c.points) points) found) in
      some_along plan c b.program programs_given (flat_map along (programs_behind b.program points)) (λ point bound rest. refl) None 0 most_instructions own.0 (omega arith) own.1 own.2
      ∙ ap (λ rest. b.program ∷ rest) (behind_again b.program (programs_behind b.program points) (behind_differ b.program points) have)

  points_again : IsCertificate c → expanded_points plan (record c { points = expanded_points plan c }) ≡ expanded_points plan c
  points_again made =
      ap (flat_map (λ name. points_along plan (record c { points = expanded_points plan c }) name None 0 most_instructions))
      (given_again c.points (points_low c made) (all_found c.points))
      ∙ all_along_same plan c (programs_given c.points)

pub expanded_twice : (version : Version) (plan : Plan) (c : Certificate) → c.version ≡ version → IsCertificate c
    → expansion plan (expanded version plan c) ≡ expanded version plan c
expanded_twice One plan c is made = ap (λ version. expanded version plan c) is
expanded_twice Two plan c is made = refl
expanded_twice Four plan c is made =
    ap (λ version. expanded version plan (record c { points = expanded_points plan c })) is
    ∙ ap (λ points. record c { points = points }) (points_again plan c made)
expanded_twice Three plan c is made =
    ap (λ version. expanded version plan (record c { points = expanded_points plan c })) is
    ∙ ap (λ points. record c { points = points }) (points_again plan c made)
