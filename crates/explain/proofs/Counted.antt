-- Over each finding that is counted stands one that is told: of what covers it, the first isn't counted itself.
use Rattle.std.proofs.Common.{◌≡◌, ◌<◌, ◌∙◌, ℕ, zero, suc, inl, inr, Bool, true, false, List, [], ◌∷◌, ap, arith, refl, subst, sym}
use Rattle.std.specs.Prelude.{◌&&◌, ◌||◌, ◌==◌, is_some, nat_lt}
use Rattle.std.specs.List.{list_all, list_any}
use Rattle.std.proofs.lemmas.Bool.{eqb-true, eq-eqb, ltb-true, lt-ltb}
use Rattle.certificate.specs.Bounds.{Certificate, bound_at}
use Rattle.checker.specs.Findings.{BrokenRule}
use Rattle.instruction_set.specs.Successors.{successors_at}
use Rattle.rights.specs.Values.{Name}
use Rattle.rights.proofs.Tests.{both_left, both_right, either_one}
use Rattle.task.specs.Plans.{Plan, program_name, programs_of_plan}
use Rattle.explain.specs.Covering.{covers, is_counted, is_met, is_of_reach, leads_alike}
use Rattle.explain.proofs.Covered.{In, Found, any_found, earlier}

both : (a b : Bool) → a ≡ true → b ≡ true → (a && b) ≡ true
both a b first second = ap (λ x. x && b) first ∙ second

one_of : (a b : Bool) → a ≡ true → (a || b) ≡ true
one_of a b first = ap (λ x. x || b) first

other_of : (a b : Bool) → b ≡ true → (a || b) ≡ true
other_of true b second = refl
other_of false b second = second

module _ (c : Certificate) (name : Name) (leads between : List ℕ) where
  -- where all that one leads to is met by another, what is among that is met by it too
  among_met : (points : List ℕ) (point : ℕ) → list_all (is_met c name leads) points ≡ true → list_any (λ to. to == point) points ≡ true
      → is_met c name leads point ≡ true
  among_met [] point all is = absurd cc
  among_met (first ∷ points) point all is = elim (either_one (first == point) (list_any (λ to. to == point) points) is) [
    | inl same ↦ subst (λ to. is_met c name leads to ≡ true) (eqb-true first point same)
        (both_left (is_met c name leads first) (list_all (is_met c name leads) points) all)
    | inr later ↦ among_met points point (both_right (is_met c name leads first) (list_all (is_met c name leads) points) all) later
  ]

  met_again : (point : ℕ) → list_all (is_met c name leads) between ≡ true → is_met c name between point ≡ true → is_met c name leads point ≡ true
  met_again point all is = elim (either_one (list_any (λ to. to == point) between) (is_some (bound_at c name point)) is) [
    | inl among ↦ among_met between point all among
    | inr has ↦ other_of (list_any (λ to. to == point) leads) (is_some (bound_at c name point)) has
  ]

  all_met_again : (points : List ℕ) → list_all (is_met c name leads) between ≡ true → list_all (is_met c name between) points ≡ true
      → list_all (is_met c name leads) points ≡ true
  all_met_again [] all met = refl
  all_met_again (point ∷ points) all met =
      let here = both_left (is_met c name between point) (list_all (is_met c name between) points) met in
      let later = both_right (is_met c name between point) (list_all (is_met c name between) points) met in
      both (is_met c name leads point) (list_all (is_met c name leads) points) (met_again point all here) (all_met_again points all later)

-- what it takes for one to cover another, part by part
record Parts (plan : Plan) (c : Certificate) (g f : BrokenRule) : Type 0 where
  pub over : is_of_reach g ≡ true
  pub under : is_of_reach f ≡ true
  pub program : g.program ≡ f.program
  pub before : g.point < f.point
  pub bounded : is_some (bound_at c (program_name plan g.program) g.point) ≡ true
  pub alike : leads_alike plan c g.program g.point f.point ≡ true

module _ (plan : Plan) (c : Certificate) where
  parts : (g f : BrokenRule) → covers plan c g f ≡ true → Parts plan c g f
  parts g f is =
      let over = is_of_reach g in
      let under = is_of_reach f in
      let program = g.program == f.program in
      let before = nat_lt g.point f.point in
      let bounded = is_some (bound_at c (program_name plan g.program) g.point) in
      let alike = leads_alike plan c g.program g.point f.point in
      let five = both_left (over && under && program && before && bounded) alike is in
      let four = both_left (over && under && program && before) bounded five in
      let three = both_left (over && under && program) before four in
      let two = both_left (over && under) program three in
      record {
        over = both_left over under two;
        under = both_right over under two;
        program = eqb-true g.program f.program (both_right (over && under) program three);
        before = ltb-true g.point f.point (both_right (over && under && program) before four);
        bounded = both_right (over && under && program && before) bounded five;
        alike = both_right (over && under && program && before && bounded) alike is;
      }

  whole : (g f : BrokenRule) → Parts plan c g f → covers plan c g f ≡ true
  whole g f p =
      let over = is_of_reach g in
      let under = is_of_reach f in
      let program = g.program == f.program in
      let before = nat_lt g.point f.point in
      let bounded = is_some (bound_at c (program_name plan g.program) g.point) in
      let alike = leads_alike plan c g.program g.point f.point in
      both (over && under && program && before && bounded) alike
      (both (over && under && program && before) bounded
      (both (over && under && program) before
      (both (over && under) program (both over under p.over p.under) (eq-eqb g.program f.program p.program))
      (lt-ltb g.point f.point p.before)) p.bounded) p.alike

  alike_again : (h g f : BrokenRule) → h.program ≡ g.program → leads_alike plan c h.program h.point g.point ≡ true
      → leads_alike plan c g.program g.point f.point ≡ true → leads_alike plan c h.program h.point f.point ≡ true
  alike_again h g f same first second =
      let code = programs_of_plan plan h.program in
      all_met_again c (program_name plan h.program) (successors_at code h.point) (successors_at code g.point) (successors_at code f.point) first
      (subst (λ program. leads_alike plan c program g.point f.point ≡ true) (sym same) second)

  covers_on : (h g f : BrokenRule) → covers plan c h g ≡ true → covers plan c g f ≡ true → covers plan c h f ≡ true
  covers_on h g f first second =
      let a : Parts plan c h g = parts h g first in
      let b : Parts plan c g f = parts g f second in
      whole h f (record {
        over = a.over;
        under = b.under;
        program = a.program ∙ b.program;
        before = omega (arith, a.before, b.before);
        bounded = a.bounded;
        alike = alike_again h g f a.program a.alike b.alike;
      })

  module _ (all : List BrokenRule) where
    -- one among all that covers it and isn't counted
    pub record Told (f : BrokenRule) : Type 0 where
      pub over : BrokenRule
      pub is_in : In over all
      pub covers_it : covers plan c over f ≡ true
      pub isnt_counted : is_counted plan c all over ≡ false

    told_below : (n : ℕ) (f : BrokenRule) → f.point < n → is_counted plan c all f ≡ true → Told f
    told_below zero f low is = absurd (omega (arith, low))
    told_below (suc n) f low is =
        let test : BrokenRule → Bool = λ g. covers plan c g f in
        let any = both_right (is_of_reach f) (list_any test all) is in
        let before : Found test all = any_found test all any in
        let less = earlier plan c all before.found f before.passes in
        let lower : before.found.point < n = omega (arith, less, low) in
        go before lower (is_counted plan c all before.found) refl (told_below n before.found lower)
      where
        go : (before : Found (λ g. covers plan c g f) all) → before.found.point < n → (b : Bool) → is_counted plan c all before.found ≡ b
            → (is_counted plan c all before.found ≡ true → Told before.found) → Told f
        go before lower true is further =
            let first : Told before.found = further is in
            record {
              over = first.over;
              is_in = first.is_in;
              covers_it = covers_on first.over before.found f first.covers_it before.passes;
              isnt_counted = first.isnt_counted;
            }
        go before lower false is further =
            record { over = before.found; is_in = before.is_in; covers_it = before.passes; isnt_counted = is }

    pub told_over : (f : BrokenRule) → is_counted plan c all f ≡ true → Told f
    told_over f is = told_below (suc f.point) f (omega arith) is
