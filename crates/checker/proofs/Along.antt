-- How a certificate grows along a program whose bounds are carried.
use Rattle.std.proofs.Common.{◌≡◌, ◌+◌, ◌-◌, ◌<◌, ◌≤◌, ◌++◌, ◌↔◌, ℕ, suc, false, List, [], ◌∷◌, length, take, drop, map, refl, ap, sym, ◌∙◌, subst, arith}
use Rattle.std.specs.Result.{IsErr, IsErrAnd}
use Rattle.std.specs.Prelude.{Option, Some, None, Result, Ok, Err, if◌then◌else◌}
use Rattle.std.specs.List.{flat_map, slice_index_or}
use Rattle.std.specs.Str.{bytes_eq}
use Rattle.std.proofs.lemmas.List.{map-append, take_rest}
use Rattle.certificate.specs.Bounds.{Bound, PointBound, Version, One, Two, Three, Four, Certificate, has_authorities, tells_further}
use Rattle.certificate.specs.declared.points.Point.{Point as PointCode}
use Rattle.certificate.specs.declared.lines.Refusal.{Refusal}
use Rattle.certificate.specs.declared.lines.Refusal.TheVariants.{Limit, Order, Memory}
use Rattle.certificate.specs.Growths.{grown, grown_by, then_grown}
use Rattle.certificate.specs.GrowthViews.{Grows}
use Rattle.certificate.specs.Told.{told_point}
use Rattle.certificate.specs.Views.{point_of, points_of}
use Rattle.texts.specs.Views.{name_of}
use Rattle.certificate.specs.Growth.{IsCertificate, empty}
use Rattle.certificate.specs.Lines.{block_lines, lines_of, rest_lines}
use Rattle.certificate.proofs.Growths.{by_append, grown_append, grown_keeps}
use Rattle.task.specs.Plans.{Plan}
use Rattle.rules.proofs.expansions.GrownExpansions.{expansion_grown}
use Rattle.rules.specs.Verdicts.{MeetsRules, IsFirstFound}
use Rattle.checker.specs.Verdicts.{Verdict, Yes, No, IsVerdict}
use Rattle.rules.specs.Expansions.{bound_with, carried_past, expanded, expanded_version, expansion, points_along, programs_behind, programs_given, with_bound}

-- an error that is passed on
pub passed_on : {A E : Type 0} (r : Result A E) (e : E) → IsErr r × IsErrAnd r (λ x. x ≡ e) → r ≡ Err e
passed_on (Ok a) e is = absurd is.1
passed_on (Err x) e is = ap Err is.1

-- Where the first lines aren't taken, all aren't.
pub failed_first : (r : Result (Unit {0}) Refusal) (stop : Refusal) (new : Certificate) (first : Option Certificate) (rest : Certificate → Option Certificate)
    (whole : Option Certificate) → r ≡ Err stop → Grows (Err stop) new first → whole ≡ then_grown rest first → Grows r new whole
failed_first r stop new first rest whole is failed same = subst (λ r. Grows r new whole) (sym is) (by_cause stop failed)
  where
    by_cause : (stop : Refusal) → Grows (Err stop) new first → Grows (Err stop) new whole
    by_cause Limit refused = same ∙ ap (then_grown rest) refused
    by_cause Order refused = same ∙ ap (then_grown rest) refused
    by_cause Memory refused = tt

-- Points that a version tells are taken one after another.
pub told_append : (v : Version) (points more : List PointBound) (d : Certificate)
    → grown_by (map (told_point v) (points ++ more)) d ≡ then_grown (grown_by (map (told_point v) more)) (grown_by (map (told_point v) points) d)
told_append v points more d =
    ap (λ points. grown_by points d) (map-append (told_point v) points more) ∙ by_append (map (told_point v) points) (map (told_point v) more) d

module _ (v : Version) (plan : Plan) (c : Certificate) (name : List ℕ) (carried : Option Bound) (point : ℕ) (below : point < 256) where
  abbrev here : List PointBound
  here = with_bound name point (bound_with plan c name point carried)

  abbrev rest : List PointBound
  rest = points_along plan c name (carried_past plan c name point carried) (point + 1) (256 - (point + 1))

  parted : points_along plan c name carried point (256 - point) ≡ here ++ rest
  unfolding points_along
  parted =
      let left : 256 - point ≡ suc (256 - (point + 1)) = omega (arith, below) in
      let next : suc point ≡ point + 1 = omega arith in
      (λ k. points_along plan c name carried point (left k))
      ∙ (λ k. here ++ points_along plan c name (carried_past plan c name point carried) (next k) (256 - (point + 1)))

  grown_parts : (d : Certificate) → grown_by (map (told_point v) (points_along plan c name carried point (256 - point))) d
      ≡ then_grown (grown_by (map (told_point v) rest)) (grown_by (map (told_point v) here) d)
  grown_parts d = ap (λ points. grown_by (map (told_point v) points) d) parted ∙ told_append v here rest d

  -- the others behind a point that is taken
  pub along_next : (d e : Certificate) (next : Option Bound) → grown_by (map (told_point v) here) d ≡ Some e → next ≡ carried_past plan c name point carried
      → grown_by (map (told_point v) (points_along plan c name next (point + 1) (256 - (point + 1)))) e
      ≡ grown_by (map (told_point v) (points_along plan c name carried point (256 - point))) d
  along_next d e next took is =
      ap (λ carried. grown_by (map (told_point v) (points_along plan c name carried (point + 1) (256 - (point + 1)))) e) is
      ∙ sym (grown_parts d ∙ ap (then_grown (grown_by (map (told_point v) rest))) took)

  -- and where it isn't taken
  pub along_failed : (r : Result (Unit {0}) Refusal) (stop : Refusal) (new d : Certificate) (whole : Option Certificate) → r ≡ Err stop
      → Grows (Err stop) new (grown_by (map (told_point v) here) d) → grown_by (map (told_point v) (points_along plan c name carried point (256 - point))) d ≡ whole
      → Grows r new whole
  along_failed r stop new d whole is failed same =
      failed_first r stop new (grown_by (map (told_point v) here) d) (grown_by (map (told_point v) rest)) whole is failed (sym same ∙ grown_parts d)

-- At a program's end nothing is left to take.
pub along_end : (v : Version) (plan : Plan) (c : Certificate) (name : List ℕ) (carried : Option Bound) (point : ℕ) (d : Certificate) (whole : Option Certificate)
    → 256 ≤ point → grown_by (map (told_point v) (points_along plan c name carried point (256 - point))) d ≡ whole → whole ≡ Some d
unfolding points_along grown_by
along_end v plan c name carried point d whole past is =
    let none : 256 - point ≡ 0 = omega (arith, past) in
    sym is ∙ ap (λ left. grown_by (map (told_point v) (points_along plan c name carried point left)) d) none

-- Whole programs, one after another.
module _ (v : Version) (plan : Plan) (c : Certificate) where
  abbrev along : List ℕ → List PointBound
  along name = points_along plan c name None 0 256

  -- what the points make of a certificate as the version tells them
  abbrev told_by : List PointBound → Certificate → Option Certificate
  told_by points d = grown_by (map (told_point v) points) d

  pub grows_behind : (r : Result (Unit {0}) Refusal) (new d e : Certificate) (name : List ℕ) (names : List (List ℕ)) → told_by (along name) d ≡ Some e
      → Grows r new (told_by (flat_map along names) e) → Grows r new (told_by (along name ++ flat_map along names) d)
  grows_behind r new d e name names took grows =
      subst (Grows r new) (sym (told_append v (along name) (flat_map along names) d ∙ ap (then_grown (told_by (flat_map along names))) took)) grows

  -- those of the first of some points, and of the others
  pub first_behind : (points : List PointCode) (first : PointCode) (last : List ℕ) (r : Result (Unit {0}) Refusal) (new d e : Certificate) → 1 ≤ length points
      → first ≡ slice_index_or points 0 first → bytes_eq (name_of first.program) last ≡ false → told_by (along (name_of first.program)) d ≡ Some e
      → Grows r new (told_by (flat_map along (programs_behind (name_of first.program) (points_of (take (length points - 1) (drop 1 points))))) e)
      → Grows r new (told_by (flat_map along (programs_behind last (points_of points))) d)
  unfolding programs_behind
  first_behind [] first last r new d e some is other took grows = absurd (omega arith)
  first_behind (p ∷ points) first last r new d e some is other took grows =
      let name = name_of p.program in
      let own : name_of first.program ≡ name = ap (λ (p : PointCode). name_of p.program) is in
      let rest : take (length (p ∷ points) - 1) (drop 1 (p ∷ points)) ≡ points = take_rest (p ∷ points) 1 in
      let behind = programs_behind name (points_of points) in
      let grown_all : Grows r new (told_by (along name ++ flat_map along behind) d) =
      grows_behind r new d e name behind (ap (λ name. told_by (along name) d) (sym own) ∙ took)
      (subst (Grows r new) (λ k. told_by (flat_map along (programs_behind (own k) (points_of (rest k)))) e) grows) in
      let list : flat_map along (name ∷ behind) ≡ flat_map along (programs_behind last (points_of (p ∷ points))) =
      ap (λ b. flat_map along (if b then programs_behind last (points_of points) else name ∷ behind)) (sym (ap (λ n. bytes_eq n last) (sym own) ∙ other)) in
      subst (λ points. Grows r new (told_by points d)) list grown_all

  pub first_given : (points : List PointCode) (first : PointCode) (r : Result (Unit {0}) Refusal) (new d e : Certificate) → 1 ≤ length points
      → first ≡ slice_index_or points 0 first → told_by (along (name_of first.program)) d ≡ Some e
      → Grows r new (told_by (flat_map along (programs_behind (name_of first.program) (points_of (take (length points - 1) (drop 1 points))))) e)
      → Grows r new (told_by (flat_map along (programs_given (points_of points))) d)
  first_given [] first r new d e some is took grows = absurd (omega arith)
  first_given (p ∷ points) first r new d e some is took grows =
      let name = name_of p.program in
      let own : name_of first.program ≡ name = ap (λ (p : PointCode). name_of p.program) is in
      let rest : take (length (p ∷ points) - 1) (drop 1 (p ∷ points)) ≡ points = take_rest (p ∷ points) 1 in
      grows_behind r new d e name (programs_behind name (points_of points)) (ap (λ name. told_by (along name) d) (sym own) ∙ took)
      (subst (Grows r new) (λ k. told_by (flat_map along (programs_behind (own k) (points_of (rest k)))) e) grows)

-- Points as they are given, one after another.
pub given_next : (points : List PointCode) (first : PointCode) (r : Result (Unit {0}) Refusal) (new d e : Certificate) → 1 ≤ length points
    → first ≡ slice_index_or points 0 first → grown (block_lines (told_point d.version (point_of first))) d ≡ Some e
    → Grows r new (grown_by (map (told_point e.version) (points_of (take (length points - 1) (drop 1 points)))) e)
    → Grows r new (grown_by (map (told_point d.version) (points_of points)) d)
unfolding grown_by
given_next [] first r new d e some is took grows = absurd (omega arith)
given_next (p ∷ points) first r new d e some is took grows =
    let own : point_of first ≡ point_of p = ap point_of is in
    let kept : e.version ≡ d.version = grown_keeps (block_lines (told_point d.version (point_of first))) d e took in
    let rest : take (length (p ∷ points) - 1) (drop 1 (p ∷ points)) ≡ points = take_rest (p ∷ points) 1 in
    let here : grown (block_lines (told_point d.version (point_of p))) d ≡ Some e = ap (λ p. grown (block_lines (told_point d.version p)) d) (sym own) ∙ took in
    let behind : then_grown (grown_by (map (told_point d.version) (points_of points))) (Some e)
    ≡ grown_by (map (told_point e.version) (points_of (take (length (p ∷ points) - 1) (drop 1 (p ∷ points))))) e =
    λ k. grown_by (map (told_point (sym kept k)) (points_of (sym rest k))) e in
    subst (Grows r new) (sym (ap (then_grown (grown_by (map (told_point d.version) (points_of points)))) here ∙ behind)) grows

then_lines : (b : PointBound) (points : List PointBound) → ((d : Certificate) → grown_by points d ≡ grown (flat_map block_lines points) d) → (o : Option Certificate)
    → then_grown (grown_by points) o ≡ then_grown (grown (flat_map block_lines points)) o
then_lines b points same None = refl
then_lines b points same (Some d) = same d

-- Blocks are taken line by line.
pub by_lines : (points : List PointBound) (c : Certificate) → grown_by points c ≡ grown (flat_map block_lines points) c
unfolding grown_by grown
by_lines [] c = refl
by_lines (b ∷ points) c =
    then_lines b points (by_lines points) (grown (block_lines b) c) ∙ sym (grown_append (block_lines b) (flat_map block_lines points) c)

rest_stays : (version : Version) (plan : Plan) (c : Certificate) → rest_lines (expanded version plan c) ≡ rest_lines c
rest_stays One plan c = refl
rest_stays Two plan c = refl
rest_stays Three plan c = refl
rest_stays Four plan c = refl

-- The lines of an expansion are those of its points, and then those behind the certificate's blocks.
pub lines_grown : (plan : Plan) (c d : Certificate)
    → grown (lines_of (expansion plan c)) d ≡ then_grown (grown (rest_lines c)) (grown_by (expansion plan c).points d)
lines_grown plan c d =
    let e = expansion plan c in
    ap (λ rest. grown (flat_map block_lines e.points ++ rest) d) (rest_stays c.version plan c)
    ∙ grown_append (flat_map block_lines e.points) (rest_lines c) d
    ∙ ap (then_grown (grown (rest_lines c))) (sym (by_lines e.points d))

version_is : (version : Version) (plan : Plan) (c : Certificate) → c.version ≡ version → (expanded version plan c).version ≡ expanded_version version
version_is One plan c is = is
version_is Two plan c is = refl
version_is Three plan c is = is
version_is Four plan c is = is

pub same_authorities : (version : Version) → has_authorities (expanded_version version) ≡ has_authorities version
same_authorities One = refl
same_authorities Two = refl
same_authorities Three = refl
same_authorities Four = refl

pub same_telling : (version : Version) → tells_further (expanded_version version) ≡ tells_further version
same_telling One = refl
same_telling Two = refl
same_telling Three = refl
same_telling Four = refl

-- No line of an expansion is refused.
pub lines_taken : (plan : Plan) (c start : Certificate) → IsCertificate c → start ≡ empty (expanded_version c.version)
    → grown (lines_of (expansion plan c)) start ≡ Some (expansion plan c)
lines_taken plan c start made begun =
    ap (grown (lines_of (expansion plan c))) (begun ∙ sym (ap empty (version_is c.version plan c refl))) ∙ expansion_grown plan c made

-- Lines that are all taken are refused for want of memory alone.
pub wants_memory : (stop : Refusal) (new d : Certificate) (whole : Option Certificate) → whole ≡ Some d → Grows (Err stop) new whole → stop ≡ Memory
wants_memory Limit new d whole taken refused = absurd cc
wants_memory Order new d whole taken refused = absurd cc
wants_memory Memory new d whole taken refused = refl

-- An expansion has the certificate's verdict.
pub same_verdict : (plan : Plan) (e c : Certificate) → expansion plan e ≡ expansion plan c → (verdict : Verdict) → IsVerdict plan e verdict ↔ IsVerdict plan c verdict
same_verdict plan e c same Yes = (subst (MeetsRules plan) same, subst (MeetsRules plan) (sym same))
same_verdict plan e c same (No program point rule) =
    (subst (λ d. IsFirstFound plan d program point rule) same, subst (λ d. IsFirstFound plan d program point rule) (sym same))
