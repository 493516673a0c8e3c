-- The bound of a point in the expansion of a certificate is the one that is given or carried there.
use Rattle.std.proofs.Common.{◌≡◌, ◌≤◌, ◌<◌, ◌+◌, ℕ, zero, suc, Bool, true, false, List, [], ◌∷◌, ◌++◌, length, refl, ap, sym, ◌∙◌, subst, append_assoc, arith}
use Rattle.std.specs.Prelude.{◌==◌, ◌&&◌, ◌||◌, not, nat_lt, Option, Some, None, if◌then◌else◌}
use Rattle.std.specs.List.{flat_map, list_any, slice_get}
use Rattle.std.specs.Str.{bytes_eq}
use Rattle.std.proofs.lemmas.Bool.{eq-eqb, eqb-true, ltb-true}
use Rattle.std.proofs.lemmas.Bool.Decides.{nat_tests}
use Rattle.rights.proofs.Words.{same_bytes}
use Rattle.certificate.specs.Bounds.{Bound, PointBound, Version, One, Two, Three, Four, Certificate, bound_in, bound_at}
use Rattle.rights.specs.Limits.{most_instructions}
use Rattle.instruction_set.specs.Programs.{Instruction}
use Rattle.task.specs.Plans.{Plan}
use Rattle.rules.specs.Carrying.{carried_on}
use Rattle.rules.specs.Expansions.{or_carried, bound_with, bound_there, with_bound, is_named, code_named, may_carry, carried_by, carried_past, carried_to, points_along}
use Rattle.rules.specs.Expansions.{programs_behind, programs_given, expanded_points, expanded, expansion}

pub bytes_same : (xs : List ℕ) → bytes_eq xs xs ≡ true
bytes_same [] = refl
bytes_same (x ∷ xs) = ap (λ is. is && bytes_eq xs xs) (eq-eqb x x refl) ∙ bytes_same xs

pub both_false_left : (a b : Bool) → a ≡ false → (a && b) ≡ false
both_false_left a b fails = ap (λ is. is && b) fails

pub both_false_right : (a b : Bool) → b ≡ false → (a && b) ≡ false
both_false_right true b fails = fails
both_false_right false b fails = refl

neither_left : (a b : Bool) → (a || b) ≡ false → a ≡ false
neither_left true b none = absurd cc
neither_left false b none = refl

neither_right : (a b : Bool) → (a || b) ≡ false → b ≡ false
neither_right true b none = absurd cc
neither_right false b none = none

or_none : (o : Option Bound) → or_carried o None ≡ o
or_none None = refl
or_none (Some b) = refl

or_same : (o : Option Bound) → or_carried o o ≡ o
or_same None = refl
or_same (Some b) = refl

-- A bound of another point is passed by.
passed_by : (p name : List ℕ) (m n : ℕ) (o : Option Bound) (rest : List PointBound) → (bytes_eq p name && (m == n)) ≡ false
    → bound_in (with_bound p m o ++ rest) name n ≡ bound_in rest name n
unfolding bound_in
passed_by p name m n None rest other = refl
passed_by p name m n (Some b) rest other = ap (λ is. if is then Some b else bound_in rest name n) other

found_here : (name : List ℕ) (n : ℕ) (o : Option Bound) (rest : List PointBound) → bound_in (with_bound name n o ++ rest) name n ≡ or_carried o (bound_in rest name n)
unfolding bound_in
found_here name n None rest = refl
found_here name n (Some b) rest =
    let own : (bytes_eq name name && (n == n)) ≡ true = ap (λ is. is && (n == n)) (bytes_same name) ∙ eq-eqb n n refl in
    ap (λ is. if is then Some b else bound_in rest name n) own

module _ (plan : Plan) (c : Certificate) where
  -- the points of a program, for another name
  of_another : (p name : List ℕ) (carried : Option Bound) (point count n : ℕ) (rest : List PointBound) → bytes_eq p name ≡ false
      → bound_in (points_along plan c p carried point count ++ rest) name n ≡ bound_in rest name n
  unfolding points_along
  of_another p name carried point zero n rest other = refl
  of_another p name carried point (suc count) n rest other =
      let here = with_bound p point (bound_with plan c p point carried) in
      let behind = points_along plan c p (carried_past plan c p point carried) (suc point) count in
      ap (λ points. bound_in points name n) (append_assoc here behind rest)
      ∙ passed_by p name point n (bound_with plan c p point carried) (behind ++ rest) (both_false_left (bytes_eq p name) (point == n) other)
      ∙ of_another p name (carried_past plan c p point carried) (suc point) count n rest other

  -- for a point before them
  of_earlier : (name : List ℕ) (carried : Option Bound) (point count n : ℕ) (rest : List PointBound) → n < point
      → bound_in (points_along plan c name carried point count ++ rest) name n ≡ bound_in rest name n
  unfolding points_along
  of_earlier name carried point zero n rest earlier = refl
  of_earlier name carried point (suc count) n rest earlier =
      let here = with_bound name point (bound_with plan c name point carried) in
      let behind = points_along plan c name (carried_past plan c name point carried) (suc point) count in
      let other : (point == n) ≡ false = grind (arith, nat_tests, earlier) in
      ap (λ points. bound_in points name n) (append_assoc here behind rest)
      ∙ passed_by name name point n (bound_with plan c name point carried) (behind ++ rest) (both_false_right (bytes_eq name name) (point == n) other)
      ∙ of_earlier name (carried_past plan c name point carried) (suc point) count n rest (omega arith)

  -- for a point past them
  of_later : (name : List ℕ) (carried : Option Bound) (point count n : ℕ) (rest : List PointBound) → point + count ≤ n
      → bound_in (points_along plan c name carried point count ++ rest) name n ≡ bound_in rest name n
  unfolding points_along
  of_later name carried point zero n rest later = refl
  of_later name carried point (suc count) n rest later =
      let here = with_bound name point (bound_with plan c name point carried) in
      let behind = points_along plan c name (carried_past plan c name point carried) (suc point) count in
      let other : (point == n) ≡ false = grind (arith, nat_tests, later) in
      ap (λ points. bound_in points name n) (append_assoc here behind rest)
      ∙ passed_by name name point n (bound_with plan c name point carried) (behind ++ rest) (both_false_right (bytes_eq name name) (point == n) other)
      ∙ of_later name (carried_past plan c name point carried) (suc point) count n rest (omega arith)

  -- for one of them
  of_own : (name : List ℕ) (point count n : ℕ) (rest : List PointBound) → point ≤ n → n < point + count
      → bound_in (points_along plan c name (carried_to plan c name point) point count ++ rest) name n ≡ or_carried (bound_there plan c name n) (bound_in rest name n)
  unfolding points_along carried_to
  of_own name point zero n rest low high = absurd (omega arith)
  of_own name point (suc count) n rest low high =
      ap (λ points. bound_in points name n) (append_assoc here behind rest)
      ∙ go (point == n) refl (λ later. of_own name (suc point) count n rest (omega (arith, later)) (omega (arith, later)))
    where
      here : List PointBound
      here = with_bound name point (bound_there plan c name point)

      behind : List PointBound
      behind = points_along plan c name (carried_to plan c name (suc point)) (suc point) count

      at_first : (m : ℕ) → m ≡ point → bound_in (here ++ (behind ++ rest)) name m ≡ or_carried (bound_there plan c name m) (bound_in rest name m)
      at_first m same =
          subst (λ k. bound_in (here ++ (behind ++ rest)) name k ≡ or_carried (bound_there plan c name k) (bound_in rest name k)) (sym same)
          (found_here name point (bound_there plan c name point) (behind ++ rest)
          ∙ ap (or_carried (bound_there plan c name point)) (of_earlier name (carried_to plan c name (suc point)) (suc point) count point rest (omega arith)))

      go : (is : Bool) → (point == n) ≡ is → (point < n → bound_in (behind ++ rest) name n ≡ or_carried (bound_there plan c name n) (bound_in rest name n))
          → bound_in (here ++ (behind ++ rest)) name n ≡ or_carried (bound_there plan c name n) (bound_in rest name n)
      go true is more = at_first n (sym (eqb-true point n is))
      go false is more =
          let later : point < n = grind (arith, nat_tests, is, low) in
          passed_by name name point n (bound_there plan c name point) (behind ++ rest) (both_false_right (bytes_eq name name) (point == n) is) ∙ more later

  -- THE POINTS of all programs that are given one.
  abbrev points_of : List ℕ → List PointBound
  points_of name = points_along plan c name None 0 most_instructions

  abbrev has_name : List ℕ → List (List ℕ) → Bool
  has_name name names = list_any (λ p. bytes_eq p name) names

  none_of : (name : List ℕ) (names : List (List ℕ)) (n : ℕ) → has_name name names ≡ false → bound_in (flat_map points_of names) name n ≡ None
  unfolding bound_in
  none_of name [] n lacks = refl
  none_of name (p ∷ names) n lacks =
      of_another p name None 0 most_instructions n (flat_map points_of names) (neither_left (bytes_eq p name) (has_name name names) lacks)
      ∙ none_of name names n (neither_right (bytes_eq p name) (has_name name names) lacks)

  first_of : (p name : List ℕ) (names : List (List ℕ)) (n : ℕ) → n < most_instructions → bytes_eq p name ≡ true
      → (has_name name names ≡ true → bound_in (flat_map points_of names) name n ≡ bound_there plan c name n)
      → bound_in (points_of p ++ flat_map points_of names) name n ≡ bound_there plan c name n
  unfolding carried_to
  first_of p name names n low own more =
      subst (λ q. bound_in (points_of q ++ flat_map points_of names) name n ≡ bound_there plan c name n) (sym (same_bytes p name own))
      (of_own name 0 most_instructions n (flat_map points_of names) (omega arith) (omega (arith, low)) ∙ go (has_name name names) refl)
    where
      go : (has : Bool) → has_name name names ≡ has → or_carried (bound_there plan c name n) (bound_in (flat_map points_of names) name n) ≡ bound_there plan c name n
      go true has = ap (or_carried (bound_there plan c name n)) (more has) ∙ or_same (bound_there plan c name n)
      go false has = ap (or_carried (bound_there plan c name n)) (none_of name names n has) ∙ or_none (bound_there plan c name n)

  all_of : (name : List ℕ) (names : List (List ℕ)) (n : ℕ) → n < most_instructions → has_name name names ≡ true
      → bound_in (flat_map points_of names) name n ≡ bound_there plan c name n
  all_of name [] n low has = absurd cc
  all_of name (p ∷ names) n low has = go (bytes_eq p name) refl (λ more. all_of name names n low more) has
    where
      go : (own : Bool) → bytes_eq p name ≡ own → (has_name name names ≡ true → bound_in (flat_map points_of names) name n ≡ bound_there plan c name n)
          → (own || has_name name names) ≡ true → bound_in (points_of p ++ flat_map points_of names) name n ≡ bound_there plan c name n
      go true own more has = first_of p name names n low own more
      go false own more has = of_another p name None 0 most_instructions n (flat_map points_of names) own ∙ more has

  past_all : (name : List ℕ) (names : List (List ℕ)) (n : ℕ) → most_instructions ≤ n → bound_in (flat_map points_of names) name n ≡ None
  unfolding bound_in
  past_all name [] n high = refl
  past_all name (p ∷ names) n high = go (bytes_eq p name) refl ∙ past_all name names n high
    where
      go : (own : Bool) → bytes_eq p name ≡ own → bound_in (points_of p ++ flat_map points_of names) name n ≡ bound_in (flat_map points_of names) name n
      go true own =
          subst (λ q. bound_in (points_of q ++ flat_map points_of names) name n ≡ bound_in (flat_map points_of names) name n) (sym (same_bytes p name own))
          (of_later name None 0 most_instructions n (flat_map points_of names) (omega (arith, high)))
      go false own = of_another p name None 0 most_instructions n (flat_map points_of names) own

  -- A program without a given bound has no bound at all.
  lacking_behind : (name last : List ℕ) (points : List PointBound) (n : ℕ) → bytes_eq last name ≡ false → has_name name (programs_behind last points) ≡ false
      → bound_in points name n ≡ None
  unfolding bound_in programs_behind
  lacking_behind name last [] n other lacks = refl
  lacking_behind name last (b ∷ points) n other lacks =
      go (bytes_eq b.program last) refl (λ q apart none. lacking_behind name q points n apart none) lacks
    where
      skip : bytes_eq b.program name ≡ false → bound_in points name n ≡ None → (if bytes_eq b.program name && (b.point == n) then Some b.bound else bound_in points name n) ≡ None
      skip apart none = ap (λ is. if is then Some b.bound else bound_in points name n) (both_false_left (bytes_eq b.program name) (b.point == n) apart) ∙ none

      go : (is : Bool) → bytes_eq b.program last ≡ is
          → ((q : List ℕ) → bytes_eq q name ≡ false → has_name name (programs_behind q points) ≡ false → bound_in points name n ≡ None)
          → has_name name (if is then programs_behind last points else b.program ∷ programs_behind b.program points) ≡ false
          → (if bytes_eq b.program name && (b.point == n) then Some b.bound else bound_in points name n) ≡ None
      go true is more lacks = skip (subst (λ q. bytes_eq q name ≡ false) (sym (same_bytes b.program last is)) other) (more last other lacks)
      go false is more lacks =
          let apart = neither_left (bytes_eq b.program name) (has_name name (programs_behind b.program points)) lacks in
          skip apart (more b.program apart (neither_right (bytes_eq b.program name) (has_name name (programs_behind b.program points)) lacks))

  lacking : (name : List ℕ) (points : List PointBound) (n : ℕ) → has_name name (programs_given points) ≡ false → bound_in points name n ≡ None
  unfolding bound_in
  lacking name [] n lacks = refl
  lacking name (b ∷ points) n lacks =
      let apart = neither_left (bytes_eq b.program name) (has_name name (programs_behind b.program points)) lacks in
      let behind = neither_right (bytes_eq b.program name) (has_name name (programs_behind b.program points)) lacks in
      ap (λ is. if is then Some b.bound else bound_in points name n) (both_false_left (bytes_eq b.program name) (b.point == n) apart)
      ∙ lacking_behind name b.program points n apart behind

  none_carried : (name : List ℕ) (point : ℕ) (i : Option Instruction) → carried_by plan c name point i None ≡ None
  none_carried name point None = refl
  none_carried name point (Some i) = refl

  nothing_carried : (name : List ℕ) (n : ℕ) → ((m : ℕ) → bound_at c name m ≡ None) → carried_to plan c name n ≡ None
  unfolding carried_to
  nothing_carried name zero lacks = refl
  nothing_carried name (suc n) lacks =
      ap (λ o. carried_past plan c name n o) (nothing_carried name n lacks)
      ∙ ap (λ o. carried_by plan c name n (slice_get (code_named plan.programs name) n) (or_carried o None)) (lacks n)
      ∙ none_carried name n (slice_get (code_named plan.programs name) n)

  nothing_there : (name : List ℕ) (n : ℕ) → ((m : ℕ) → bound_at c name m ≡ None) → bound_there plan c name n ≡ None
  nothing_there name n lacks = ap (λ o. or_carried o (carried_to plan c name n)) (lacks n) ∙ nothing_carried name n lacks

  -- Nothing is carried past a program's end.
  past_end : (code : List Instruction) (n : ℕ) → length code ≤ n → (nat_lt n (length code) && not (is_named code n)) ≡ false
  past_end code n past =
      let end : nat_lt n (length code) ≡ false = grind (arith, nat_tests, past) in
      both_false_left (nat_lt n (length code)) (not (is_named code n)) end

  may_not : (v : Version) (code : List Instruction) (n : ℕ) → length code ≤ n → may_carry v code n ≡ false
  may_not One code n past = refl
  may_not Two code n past = past_end code n past
  may_not Three code n past = past_end code n past
  may_not Four code n past = past_end code n past

  not_carried : (name : List ℕ) (point : ℕ) (i : Option Instruction) (b : Option Bound) → may_carry c.version (code_named plan.programs name) (suc point) ≡ false
      → carried_by plan c name point i b ≡ None
  not_carried name point None b not_so = refl
  not_carried name point (Some i) None not_so = refl
  not_carried name point (Some i) (Some b) not_so = ap (λ is. if is then carried_on plan c name point b i else None) not_so

  pub carried_within : (name : List ℕ) (n : ℕ) → may_carry c.version (code_named plan.programs name) n ≡ false → carried_to plan c name n ≡ None
  unfolding carried_to
  carried_within name zero not_so = refl
  carried_within name (suc n) not_so =
      not_carried name n (slice_get (code_named plan.programs name) n) (bound_with plan c name n (carried_to plan c name n)) not_so

  -- Nothing is carried in version 1.
  one_carries : (name : List ℕ) (n : ℕ) → c.version ≡ One → carried_to plan c name n ≡ None
  one_carries name n is = carried_within name n (ap (λ v. may_carry v (code_named plan.programs name) n) is)

  -- A point of the first 256 is bounded so, whatever is beyond.
  pub there_low : (name : List ℕ) (n : ℕ) → n < most_instructions → bound_in (expanded_points plan c) name n ≡ bound_there plan c name n
  there_low name n low = go (has_name name (programs_given c.points)) refl
    where
      go : (has : Bool) → has_name name (programs_given c.points) ≡ has → bound_in (expanded_points plan c) name n ≡ bound_there plan c name n
      go true has = all_of name (programs_given c.points) n low has
      go false has = none_of name (programs_given c.points) n has ∙ sym (nothing_there name n (λ m. lacking name c.points m has))

  there_of : (name : List ℕ) (n : ℕ) → length (code_named plan.programs name) ≤ most_instructions
      → ((m : ℕ) → most_instructions ≤ m → bound_at c name m ≡ None)
      → bound_in (expanded_points plan c) name n ≡ bound_there plan c name n
  there_of name n few high = go (nat_lt n most_instructions) refl
    where
      go : (low : Bool) → nat_lt n most_instructions ≡ low → bound_in (expanded_points plan c) name n ≡ bound_there plan c name n
      go true low = there_low name n (ltb-true n most_instructions low)
      go false low =
          let past : most_instructions ≤ n = grind (arith, nat_tests, low) in
          past_all name (programs_given c.points) n past
          ∙ sym (ap (λ o. or_carried o (carried_to plan c name n)) (high n past)
          ∙ carried_within name n (may_not c.version (code_named plan.programs name) n (omega (arith, few, past))))

  expanded_there : (v : Version) (name : List ℕ) (n : ℕ) → c.version ≡ v → length (code_named plan.programs name) ≤ most_instructions
      → ((m : ℕ) → most_instructions ≤ m → bound_at c name m ≡ None)
      → bound_at (expanded v plan c) name n ≡ bound_there plan c name n
  expanded_there One name n is few high = sym (ap (or_carried (bound_at c name n)) (one_carries name n is) ∙ or_none (bound_at c name n))
  expanded_there Two name n is few high = there_of name n few high
  expanded_there Three name n is few high = there_of name n few high
  expanded_there Four name n is few high = there_of name n few high

  -- THE EXPANSION bounds each point by what is given or carried there.
  pub expansion_there : (name : List ℕ) (n : ℕ) → length (code_named plan.programs name) ≤ most_instructions
      → ((m : ℕ) → most_instructions ≤ m → bound_at c name m ≡ None)
      → bound_at (expansion plan c) name n ≡ bound_there plan c name n
  expansion_there name n few high = expanded_there c.version name n refl few high
