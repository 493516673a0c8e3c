-- The expansion of a certificate is what its own lines make of nothing.
use Rattle.std.proofs.Common.{◌≡◌, ◌∷◌, [], Bool, true, false, ℕ, zero, suc, List, refl, ◌∙◌}
use Rattle.std.specs.Prelude.{◌+◌, ◌&&◌, Option, Some, None, option_map, if◌then◌else◌}
use Rattle.std.specs.List.{flat_map, list_all, slice_get}
use Rattle.std.specs.Str.{bytes_eq}
use Rattle.std.proofs.lemmas.List.Folds.{list_all-append}
use Rattle.rights.specs.Limits.{most_instructions}
use Rattle.certificate.specs.Bounds.{Bound, PointBound, Version, One, Two, Three, Four, Certificate, bound_at}
use Rattle.certificate.specs.Growth.{programs_named, programs_of_channel}
use Rattle.certificate.proofs.Fewer.{are_among, is_among}
use Rattle.certificate.proofs.Fits.{is_fit, is_fit_point}
use Rattle.certificate.proofs.Growing.{and_left, and_right, both_true}
use Rattle.certificate.proofs.Makes.{Fits, makes_itself}
use Rattle.certificate.proofs.Whole.{fits_itself}
use Rattle.instruction_set.specs.Programs.{Instruction}
use Rattle.task.specs.Plans.{Plan}
use Rattle.certificate.specs.Told.{told_bound}
use Rattle.rules.specs.Carrying.{carried_on, joined_at, outcomes}
use Rattle.rules.specs.Outcomes.{is_followed, successes_in}
use Rattle.rules.specs.Expansions.{ExpansionIsGrown, bound_with, carried_by, carried_past, code_at, expanded, expanded_points, expansion, may_carry, or_carried, points_along}
use Rattle.rules.specs.Expansions.{programs_behind, programs_given, with_bound}
use Rattle.rules.proofs.expansions.FitBounds.{fit_given, fit_told, is_fit_bound}
use Rattle.rules.proofs.expansions.FitOutcomes.{carried_fits}
use Rattle.rules.proofs.expansions.RisingPoints.{expanded_rise}

module _ (names : List (List ℕ)) where
  abbrev all_fit : List PointBound → Bool
  all_fit points = list_all (is_fit_point names) points

  -- the programs that are given a bound
  behind_among : (last : List ℕ) (points : List PointBound) → all_fit points ≡ true → are_among names (programs_behind last points) ≡ true
  unfolding programs_behind
  behind_among last [] fit = refl
  behind_among last (b ∷ points) fit =
      let rest = and_right (is_fit_point names b) (all_fit points) fit in
      go (bytes_eq b.program last) (and_left (is_among names b.program) (is_fit names b.bound) (and_left (is_fit_point names b) (all_fit points) fit))
      (behind_among last points rest) (behind_among b.program points rest)
    where
      go : (same : Bool) → is_among names b.program ≡ true → are_among names (programs_behind last points) ≡ true
          → are_among names (programs_behind b.program points) ≡ true
          → are_among names (if same then programs_behind last points else b.program ∷ programs_behind b.program points) ≡ true
      go true own more others = more
      go false own more others = both_true (is_among names b.program) (are_among names (programs_behind b.program points)) own others

  given_among : (points : List PointBound) → all_fit points ≡ true → are_among names (programs_given points) ≡ true
  given_among [] fit = refl
  given_among (b ∷ points) fit =
      both_true (is_among names b.program) (are_among names (programs_behind b.program points))
      (and_left (is_among names b.program) (is_fit names b.bound) (and_left (is_fit_point names b) (all_fit points) fit))
      (behind_among b.program points (and_right (is_fit_point names b) (all_fit points) fit))

  told_fits : (v : Version) (o : Option Bound) → is_fit_bound names o ≡ true → is_fit_bound names (option_map (told_bound v) o) ≡ true
  told_fits v None fit = refl
  told_fits v (Some b) fit = fit_told names v b fit

  or_fits : (given carried : Option Bound) → is_fit_bound names given ≡ true → is_fit_bound names carried ≡ true
      → is_fit_bound names (or_carried given carried) ≡ true
  or_fits None carried fit other = other
  or_fits (Some b) carried fit other = fit

  module _ (plan : Plan) (c : Certificate) (given : all_fit c.points ≡ true) (among : are_among names (flat_map programs_of_channel c.channels) ≡ true) where
    module _ (name : List ℕ) (own : is_among names name ≡ true) where
      by_fits : (point : ℕ) (i : Option Instruction) (b : Option Bound) → is_fit_bound names b ≡ true
          → is_fit_bound names (carried_by plan c name point i b) ≡ true
      unfolding successes_in
      by_fits point None b fit = refl
      by_fits point (Some i) None fit = refl
      by_fits point (Some i) (Some b) fit = go (may_carry c.version (code_at plan c name) (suc point))
        where
          go : (may : Bool) → is_fit_bound names (if may then carried_on plan c name point b i else None) ≡ true
          go true =
              told_fits c.version (joined_at (point + 1) None (outcomes plan c name point b i))
              (carried_fits names plan.grants c name point b fit own among (is_followed plan name i) i)
          go false = refl

      with_fits : (point : ℕ) (carried : Option Bound) → is_fit_bound names carried ≡ true → is_fit_bound names (bound_with plan c name point carried) ≡ true
      with_fits point carried fit = or_fits (bound_at c name point) carried (fit_given names c.points name point given) fit

      point_fits : (point : ℕ) (b : Option Bound) → is_fit_bound names b ≡ true → all_fit (with_bound name point b) ≡ true
      point_fits point None fit = refl
      point_fits point (Some b) fit = both_true (is_among names name && is_fit names b) true (both_true (is_among names name) (is_fit names b) own fit) refl

      along_fits : (carried : Option Bound) (point count : ℕ) → is_fit_bound names carried ≡ true
          → all_fit (points_along plan c name carried point count) ≡ true
      unfolding points_along
      along_fits carried point zero fit = refl
      along_fits carried point (suc count) fit =
          let there = with_fits point carried fit in
          let here = with_bound name point (bound_with plan c name point carried) in
          let behind = points_along plan c name (carried_past plan c name point carried) (suc point) count in
          list_all-append (is_fit_point names) here behind
          ∙ both_true (all_fit here) (all_fit behind) (point_fits point (bound_with plan c name point carried) there)
          (along_fits (carried_past plan c name point carried) (suc point) count
          (by_fits point (slice_get (code_at plan c name) point) (bound_with plan c name point carried) there))

    programs_fit : (programs : List (List ℕ)) → are_among names programs ≡ true
        → all_fit (flat_map (λ name. points_along plan c name None 0 most_instructions) programs) ≡ true
    programs_fit [] own = refl
    programs_fit (name ∷ programs) own =
        let here = points_along plan c name None 0 most_instructions in
        let behind = flat_map (λ p. points_along plan c p None 0 most_instructions) programs in
        list_all-append (is_fit_point names) here behind
        ∙ both_true (all_fit here) (all_fit behind)
        (along_fits name (and_left (is_among names name) (are_among names programs) own) None 0 most_instructions refl)
        (programs_fit programs (and_right (is_among names name) (are_among names programs) own))

    expanded_fit : all_fit (expanded_points plan c) ≡ true
    expanded_fit = programs_fit (programs_given c.points) (given_among c.points given)

-- Its names are among those of the certificate.
expanded_fits : (version : Version) (plan : Plan) (c : Certificate) (names : List (List ℕ)) → Fits names c → Fits names (expanded version plan c)
expanded_fits One plan c names fits = fits
expanded_fits Two plan c names fits = record {
  few = fits.few;
  fit = expanded_fit names plan c fits.fit fits.among;
  up = expanded_rise plan c fits.up;
  among = fits.among;
  holders = fits.holders;
  rest = fits.rest;
}
expanded_fits Four plan c names fits = record {
  few = fits.few;
  fit = expanded_fit names plan c fits.fit fits.among;
  up = expanded_rise plan c fits.up;
  among = fits.among;
  holders = fits.holders;
  rest = fits.rest;
}
expanded_fits Three plan c names fits = record {
  few = fits.few;
  fit = expanded_fit names plan c fits.fit fits.among;
  up = expanded_rise plan c fits.up;
  among = fits.among;
  holders = fits.holders;
  rest = fits.rest;
}

pub expansion_grown : ExpansionIsGrown
expansion_grown plan c valid = makes_itself (programs_named c) (expansion plan c) (expanded_fits c.version plan c (programs_named c) (fits_itself c valid))
