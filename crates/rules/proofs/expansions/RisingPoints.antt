-- The points of an expansion rise, as those of its certificate do.
use Rattle.std.proofs.Common.{◌≡◌, ◌<◌, ◌≤◌, ◌++◌, ◌∷◌, [], Bool, true, false, ℕ, zero, suc, List, refl, ap, sym, ◌∙◌, arith}
use Rattle.std.specs.Prelude.{◌&&◌, Option, Some, None, if◌then◌else◌}
use Rattle.std.specs.Cmp.{nat_cmp_is}
use Rattle.std.specs.List.{flat_map, list_all}
use Rattle.std.specs.Ordering.{is_eq, is_lt, nat_cmp, ordering_then}
use Rattle.std.specs.Str.{bytes_eq}
use Rattle.std.specs.declared.cmp.Ordering.{Ordering}
use Rattle.std.specs.declared.cmp.Ordering.TheVariants.{Less, Equal, Greater}
use Rattle.std.proofs.lemmas.Cmp.{nat_list_cmp_total}
use Rattle.std.proofs.lemmas.List.{map-append}
use Rattle.std.proofs.lemmas.List.Folds.{list_all-append}
use Rattle.std.proofs.lemmas.Map.Text.{is_eq-slice_cmp}
use Rattle.rights.proofs.Words.{same_bytes}
use Rattle.rights.specs.Limits.{most_instructions}
use Rattle.certificate.specs.Bounds.{Bound, PointBound, Certificate}
use Rattle.certificate.specs.Growth.{name_order}
use Rattle.certificate.specs.Rising.{places_of, precedes, rises}
use Rattle.certificate.proofs.Growing.{and_left, and_right, both_true}
use Rattle.certificate.proofs.Rising.{lt_less}
use Rattle.task.specs.Plans.{Plan}
use Rattle.rules.specs.Expansions.{bound_with, carried_past, expanded_points, points_along, programs_behind, programs_given, with_bound}
use Rattle.rules.proofs.expansions.Expanded.{bytes_same}

-- a name before another
abbrev comes_before : List ℕ → List ℕ → Bool
comes_before p q = is_lt (name_order p q)

abbrev names_rise : List (List ℕ) → Bool
names_rise [] = true
names_rise (p ∷ names) = list_all (comes_before p) names && names_rise names

before_before : (p q r : List ℕ) → comes_before p q ≡ true → comes_before q r ≡ true → comes_before p r ≡ true
before_before p q r first next = ap is_lt (nat_list_cmp_total.trans p q r (lt_less _ first) (lt_less _ next))

all_before : (p q : List ℕ) (names : List (List ℕ)) → comes_before p q ≡ true → list_all (comes_before q) names ≡ true
    → list_all (comes_before p) names ≡ true
all_before p q [] first all = refl
all_before p q (r ∷ names) first all =
    both_true (comes_before p r) (list_all (comes_before p) names)
    (before_before p q r first (and_left (comes_before q r) (list_all (comes_before q) names) all))
    (all_before p q names first (and_right (comes_before q r) (list_all (comes_before q) names) all))

same_order : (name : List ℕ) → name_order name name ≡ Equal
same_order name = go (name_order name name) (is_eq-slice_cmp name name ∙ bytes_same name)
  where
    go : (o : Ordering) → is_eq o ≡ true → o ≡ Equal
    go Less is = absurd cc
    go Equal is = refl
    go Greater is = absurd cc

-- PROGRAMS whose points rise
other_before : (p q : List ℕ) (m n : ℕ) → bytes_eq q p ≡ false → precedes (p, m) (q, n) ≡ true → comes_before p q ≡ true
other_before p q m n other up = go (name_order p q) (is_eq-slice_cmp p q) up
  where
    go : (o : Ordering) → is_eq o ≡ bytes_eq p q → is_lt (ordering_then o (nat_cmp m n)) ≡ true → is_lt o ≡ true
    go Less is up = refl
    go Equal is up = let turned = ap (bytes_eq q) (same_bytes p q (sym is)) ∙ bytes_same q in absurd cc
    go Greater is up = absurd cc

record RiseBehind (last : List ℕ) (names : List (List ℕ)) : Type 0 where
  above : list_all (comes_before last) names ≡ true
  up : names_rise names ≡ true

programs_rise : (last : List ℕ) (point : ℕ) (points : List PointBound) → list_all (precedes (last, point)) (places_of points) ≡ true
    → rises (places_of points) ≡ true → RiseBehind last (programs_behind last points)
unfolding programs_behind
programs_rise last point [] above up = record { above = refl; up = refl }
programs_rise last point (b ∷ points) above up =
    let first = and_left (precedes (last, point) (b.program, b.point)) (list_all (precedes (last, point)) (places_of points)) above in
    let rest = and_right (precedes (last, point) (b.program, b.point)) (list_all (precedes (last, point)) (places_of points)) above in
    let own = and_left (list_all (precedes (b.program, b.point)) (places_of points)) (rises (places_of points)) up in
    let others = and_right (list_all (precedes (b.program, b.point)) (places_of points)) (rises (places_of points)) up in
    go (bytes_eq b.program last) refl first (programs_rise last point points rest others) (programs_rise b.program b.point points own others)
  where
    go : (same : Bool) → bytes_eq b.program last ≡ same → precedes (last, point) (b.program, b.point) ≡ true
        → RiseBehind last (programs_behind last points) → RiseBehind b.program (programs_behind b.program points)
        → RiseBehind last (if same then programs_behind last points else b.program ∷ programs_behind b.program points)
    go true is first behind own = behind
    go false is first behind own =
        let next = other_before last b.program point b.point is first in
        record {
          above =
              both_true (comes_before last b.program) (list_all (comes_before last) (programs_behind b.program points)) next
              (all_before last b.program (programs_behind b.program points) next own.above);
          up = both_true (list_all (comes_before b.program) (programs_behind b.program points)) (names_rise (programs_behind b.program points)) own.above own.up;
        }

given_rise : (points : List PointBound) → rises (places_of points) ≡ true → names_rise (programs_given points) ≡ true
given_rise [] up = refl
given_rise (b ∷ points) up =
    let behind = programs_rise b.program b.point points
    (and_left (list_all (precedes (b.program, b.point)) (places_of points)) (rises (places_of points)) up)
    (and_right (list_all (precedes (b.program, b.point)) (places_of points)) (rises (places_of points)) up) in
    both_true (list_all (comes_before b.program) (programs_behind b.program points)) (names_rise (programs_behind b.program points)) behind.above behind.up

-- PLACES, some behind others
abbrev Place : Type 0
Place = List ℕ × ℕ

abbrev all_precede : List Place → List Place → Bool
all_precede places more = list_all (λ a. list_all (precedes a) more) places

rise_both : (places more : List Place) → rises places ≡ true → rises more ≡ true → all_precede places more ≡ true → rises (places ++ more) ≡ true
rise_both [] more up others all = others
rise_both (a ∷ places) more up others all =
    both_true (list_all (precedes a) (places ++ more)) (rises (places ++ more))
    (list_all-append (precedes a) places more
    ∙ both_true (list_all (precedes a) places) (list_all (precedes a) more) (and_left (list_all (precedes a) places) (rises places) up)
    (and_left (list_all (precedes a) more) (all_precede places more) all))
    (rise_both places more (and_right (list_all (precedes a) places) (rises places) up) others
    (and_right (list_all (precedes a) more) (all_precede places more) all))

places_append : (points more : List PointBound) → places_of (points ++ more) ≡ places_of points ++ places_of more
places_append points more = map-append (λ (b : PointBound). (b.program, b.point)) points more

later : (name : List ℕ) (m n : ℕ) → m < n → precedes (name, m) (name, n) ≡ true
later name m n less = ap (λ o. is_lt (ordering_then o (nat_cmp m n))) (same_order name) ∙ ap is_lt (sym (nat_cmp_is m n Less less))

earlier_name : (p q : List ℕ) (m n : ℕ) → comes_before p q ≡ true → precedes (p, m) (q, n) ≡ true
earlier_name p q m n first = ap (λ o. is_lt (ordering_then o (nat_cmp m n))) (lt_less (name_order p q) first)

module _ (plan : Plan) (c : Certificate) where
  -- THE POINTS of a program
  along_precede : (a : Place) (name : List ℕ) (carried : Option Bound) (point count : ℕ) → ((n : ℕ) → point ≤ n → precedes a (name, n) ≡ true)
      → list_all (precedes a) (places_of (points_along plan c name carried point count)) ≡ true
  unfolding points_along
  along_precede a name carried point zero before = refl
  along_precede a name carried point (suc count) before =
      go (bound_with plan c name point carried)
      (along_precede a name (carried_past plan c name point carried) (suc point) count (λ n high. before n (omega (arith, high))))
    where
      behind : List PointBound
      behind = points_along plan c name (carried_past plan c name point carried) (suc point) count

      go : (b : Option Bound) → list_all (precedes a) (places_of behind) ≡ true → list_all (precedes a) (places_of (with_bound name point b ++ behind)) ≡ true
      go None rest = rest
      go (Some b) rest = both_true (precedes a (name, point)) (list_all (precedes a) (places_of behind)) (before point (omega arith)) rest

  along_rise : (name : List ℕ) (carried : Option Bound) (point count : ℕ) → rises (places_of (points_along plan c name carried point count)) ≡ true
  unfolding points_along
  along_rise name carried point zero = refl
  along_rise name carried point (suc count) =
      go (bound_with plan c name point carried) (along_rise name (carried_past plan c name point carried) (suc point) count)
    where
      behind : List PointBound
      behind = points_along plan c name (carried_past plan c name point carried) (suc point) count

      go : (b : Option Bound) → rises (places_of behind) ≡ true → rises (places_of (with_bound name point b ++ behind)) ≡ true
      go None rest = rest
      go (Some b) rest =
          both_true (list_all (precedes (name, point)) (places_of behind)) (rises (places_of behind))
          (along_precede (name, point) name (carried_past plan c name point carried) (suc point) count (λ n high. later name point n (omega (arith, high)))) rest

  -- THE POINTS of all programs
  abbrev points_of : List ℕ → List PointBound
  points_of name = points_along plan c name None 0 most_instructions

  all_behind : (p : List ℕ) (m : ℕ) (names : List (List ℕ)) → list_all (comes_before p) names ≡ true
      → list_all (precedes (p, m)) (places_of (flat_map points_of names)) ≡ true
  all_behind p m [] before = refl
  all_behind p m (q ∷ names) before =
      let next = and_left (comes_before p q) (list_all (comes_before p) names) before in
      ap (list_all (precedes (p, m))) (places_append (points_of q) (flat_map points_of names))
      ∙ list_all-append (precedes (p, m)) (places_of (points_of q)) (places_of (flat_map points_of names))
      ∙ both_true (list_all (precedes (p, m)) (places_of (points_of q))) (list_all (precedes (p, m)) (places_of (flat_map points_of names)))
      (along_precede (p, m) q None 0 most_instructions (λ n high. earlier_name p q m n next))
      (all_behind p m names (and_right (comes_before p q) (list_all (comes_before p) names) before))

  along_behind : (name : List ℕ) (carried : Option Bound) (point count : ℕ) (places : List Place) → ((m : ℕ) → list_all (precedes (name, m)) places ≡ true)
      → all_precede (places_of (points_along plan c name carried point count)) places ≡ true
  unfolding points_along
  along_behind name carried point zero places above = refl
  along_behind name carried point (suc count) places above =
      go (bound_with plan c name point carried) (along_behind name (carried_past plan c name point carried) (suc point) count places above)
    where
      behind : List PointBound
      behind = points_along plan c name (carried_past plan c name point carried) (suc point) count

      go : (b : Option Bound) → all_precede (places_of behind) places ≡ true → all_precede (places_of (with_bound name point b ++ behind)) places ≡ true
      go None rest = rest
      go (Some b) rest = both_true (list_all (precedes (name, point)) places) (all_precede (places_of behind) places) (above point) rest

  all_rise : (names : List (List ℕ)) → names_rise names ≡ true → rises (places_of (flat_map points_of names)) ≡ true
  all_rise [] up = refl
  all_rise (p ∷ names) up =
      let first = and_left (list_all (comes_before p) names) (names_rise names) up in
      ap rises (places_append (points_of p) (flat_map points_of names))
      ∙ rise_both (places_of (points_of p)) (places_of (flat_map points_of names)) (along_rise p None 0 most_instructions)
      (all_rise names (and_right (list_all (comes_before p) names) (names_rise names) up))
      (along_behind p None 0 most_instructions (places_of (flat_map points_of names)) (λ m. all_behind p m names first))

  pub expanded_rise : rises (places_of c.points) ≡ true → rises (places_of (expanded_points plan c)) ≡ true
  expanded_rise up = all_rise (programs_given c.points) (given_rise c.points up)
