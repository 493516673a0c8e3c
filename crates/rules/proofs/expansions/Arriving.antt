-- What an outcome meets in the expansion of a certificate: what is given at its point, or what the point before it carries on.
use Rattle.std.proofs.Common.{◌≡◌, ◌≤◌, ◌<◌, ◌+◌, ℕ, zero, suc, Bool, true, false, List, [], ◌∷◌, length, refl, ap, sym, ◌∙◌, subst, arith}
use Rattle.std.specs.Prelude.{◌==◌, ◌&&◌, ◌||◌, not, nat_le, nat_lt, Option, Some, None, is_some, if◌then◌else◌}
use Rattle.std.specs.List.{list_all, list_any, slice_get}
use Rattle.std.specs.Str.{bytes_eq}
use Rattle.std.proofs.lemmas.Bool.{eqb-true, leb-true, ltb-true}
use Rattle.std.proofs.lemmas.Bool.Decides.{nat_tests}
use Rattle.rights.proofs.Tests.{both_left, both_right, not_true}
use Rattle.rights.specs.Limits.{most_instructions, most_programs}
use Rattle.certificate.specs.Bounds.{Bound, PointBound, Version, One, Two, Three, Four, Certificate, bound_in, bound_at, with_interval, with_slot}
use Rattle.certificate.specs.Lines.{Line, Begins_block, Bounds_register, Bounds_slot, Bounds_channel, Begins_authority, Bounds_grant, Holds_end, is_line}
use Rattle.certificate.specs.Growth.{IsCertificate, begins, grows, on_last, with_line}
use Rattle.certificate.proofs.Growing.{both_true, taken-back}
use Rattle.std.proofs.lemmas.List.Folds.{list_all-append}
use Rattle.instruction_set.specs.Programs.{Instruction, ends_well, is_instruction, is_program}
use Rattle.task.specs.Plans.{NamedProgram, Plan, code_in, name_in, program_name, programs_of_plan}
use Rattle.task.specs.Limits as limits
use Rattle.task.specs.Limits.{all_apart, are_named_apart, are_grants, are_programs, are_starts, has_valid_parts, is_in_language, is_plan, is_tree}
use Rattle.rules.specs.Outcomes.{Outcome, is_followed, successes, successes_in, error_outcomes}
use Rattle.rules.specs.Expansions.{or_carried, bound_met, bound_there, ExpansionBounds, names_point, may_carry, code_named, carried_to, expansion}
use Rattle.rules.specs.Expansions as along
use Rattle.rules.specs.Rules.{within_if_there, all_within, all_there}
use Rattle.rules.proofs.expansions.Channelled.{followed_same}
use Rattle.rules.proofs.expansions.Expanded.{bytes_same, both_false_right, carried_within, expansion_there}
use Rattle.rules.proofs.expansions.Goes.{all_if, goes, or_right, successes_go, errors_go}

-- PROGRAMS have names of their own, and 256 instructions at most.
programs_valid : (plan : Plan) → is_plan plan ≡ true → are_programs plan.programs ≡ true
programs_valid plan valid =
    both_right (is_tree plan.nodes && are_grants plan.nodes plan.grants) (are_programs plan.programs)
    (both_left (is_tree plan.nodes && are_grants plan.nodes plan.grants && are_programs plan.programs) (are_starts plan.nodes (length plan.programs) plan.starts)
    (both_left (has_valid_parts plan) (list_all (is_in_language plan.wide) plan.programs) valid))

code_few : (programs : List NamedProgram) (name : List ℕ) → list_all limits.is_program_named programs ≡ true → length (code_named programs name) ≤ most_instructions
unfolding code_named
code_few [] name named = omega arith
code_few (p ∷ programs) name named = go (bytes_eq p.name name) (code_few programs name (both_right (limits.is_program_named p) (list_all limits.is_program_named programs) named))
  where
    own : length p.code ≤ most_instructions
    own =
        let valid = both_right _ (is_program p.code) (both_left (limits.is_program_named p) (list_all limits.is_program_named programs) named) in
        leb-true _ _ (both_left (nat_le (length p.code) most_instructions) (list_all (is_instruction (length p.code)) p.code)
        (both_left (nat_le (length p.code) most_instructions && list_all (is_instruction (length p.code)) p.code) (ends_well p.code) valid))

    go : (is : Bool) → length (code_named programs name) ≤ most_instructions → length (if is then p.code else code_named programs name) ≤ most_instructions
    go true rest = own
    go false rest = rest

apart_at : (p : NamedProgram) (programs : List NamedProgram) (n : ℕ) → n < length programs → list_all (are_named_apart p) programs ≡ true
    → bytes_eq p.name (name_in (slice_get programs n)) ≡ false
apart_at p [] n within apart = absurd (omega arith)
apart_at p (q ∷ programs) zero within apart = not_true (bytes_eq p.name q.name) (both_left (not (bytes_eq p.name q.name)) (list_all (are_named_apart p) programs) apart)
apart_at p (q ∷ programs) (suc n) within apart =
    apart_at p programs n (omega arith) (both_right (not (bytes_eq p.name q.name)) (list_all (are_named_apart p) programs) apart)

code_by_name : (programs : List NamedProgram) (n : ℕ) → n < length programs → all_apart are_named_apart programs ≡ true
    → code_named programs (name_in (slice_get programs n)) ≡ code_in (slice_get programs n)
unfolding code_named
code_by_name [] n within apart = absurd (omega arith)
code_by_name (p ∷ programs) zero within apart = ap (λ is. if is then p.code else code_named programs p.name) (bytes_same p.name)
code_by_name (p ∷ programs) (suc n) within apart =
    ap (λ is. if is then p.code else code_named programs (name_in (slice_get programs n)))
    (apart_at p programs n (omega arith) (both_left (list_all (are_named_apart p) programs) (all_apart are_named_apart programs) apart))
    ∙ code_by_name programs n (omega arith) (both_right (list_all (are_named_apart p) programs) (all_apart are_named_apart programs) apart)

-- the code of a program by its name is that by its number
pub code_is : (plan : Plan) (program : ℕ) → is_plan plan ≡ true → program < length plan.programs
    → code_named plan.programs (program_name plan program) ≡ programs_of_plan plan program
code_is plan program valid within =
    code_by_name plan.programs program within
    (both_right (nat_le (length plan.programs) most_programs && list_all limits.is_program_named plan.programs) (all_apart are_named_apart plan.programs) (programs_valid plan valid))

programs_few : (plan : Plan) (name : List ℕ) → is_plan plan ≡ true → length (code_named plan.programs name) ≤ most_instructions
programs_few plan name valid =
    code_few plan.programs name
    (both_right (nat_le (length plan.programs) most_programs) (list_all limits.is_program_named plan.programs)
    (both_left (nat_le (length plan.programs) most_programs && list_all limits.is_program_named plan.programs) (all_apart are_named_apart plan.programs) (programs_valid plan valid)))

-- A CERTIFICATE bounds no point past 255.
abbrev pub is_low : PointBound → Bool
is_low b = nat_lt b.point most_instructions

low_none : (points : List PointBound) (name : List ℕ) (n : ℕ) → list_all is_low points ≡ true → most_instructions ≤ n → bound_in points name n ≡ None
unfolding bound_in
low_none [] name n low high = refl
low_none (b ∷ points) name n low high =
    let own : b.point < most_instructions = ltb-true b.point most_instructions (both_left (is_low b) (list_all is_low points) low) in
    let other : (b.point == n) ≡ false = grind (arith, nat_tests, high, own) in
    ap (λ is. if is then Some b.bound else bound_in points name n) (both_false_right (bytes_eq b.program name) (b.point == n) other)
    ∙ low_none points name n (both_right (is_low b) (list_all is_low points) low) high

low_last : (f : Bound → Bound) (points : List PointBound) → list_all is_low (on_last f points) ≡ list_all is_low points
unfolding on_last
low_last f [] = refl
low_last f (b ∷ []) = refl
low_last f (b ∷ d ∷ points) = ap (λ rest. is_low b && rest) (low_last f (d ∷ points))

low_made : (c : Certificate) (line : Line) → is_line line ≡ true → list_all is_low c.points ≡ true → list_all is_low (with_line c line).points ≡ true
low_made c (Begins_block program point mode) proper low =
    list_all-append is_low c.points _
    ∙ both_true (list_all is_low c.points) (nat_lt point most_instructions && true) low
    (both_true (nat_lt point most_instructions) true (both_right _ (nat_lt point most_instructions) proper) refl)
low_made c (Bounds_register register interval) proper low = low_last (λ b. with_interval b register interval) c.points ∙ low
low_made c (Bounds_slot number slot) proper low = low_last (λ b. with_slot b number slot) c.points ∙ low
low_made c (Bounds_channel channel) proper low = low
low_made c (Begins_authority program) proper low = low
low_made c (Bounds_grant ceiling) proper low = low
low_made c (Holds_end held) proper low = low

pub points_low : (c : Certificate) → IsCertificate c → list_all is_low c.points ≡ true
points_low _ (begins version) = refl
points_low _ (grows {c} {d} made line proper own took) =
    let is = taken-back c line d took in
    subst (λ (e : Certificate). list_all is_low e.points ≡ true) is.made (low_made c line proper (points_low c made))

-- THE BOUND OF A POINT in the expansion of a certificate of a task
any_at : (code : List Instruction) (point n : ℕ) (i : Instruction) → slice_get code point ≡ Some i → names_point n i ≡ true → list_any (names_point n) code ≡ true
any_at [] point n i here names = absurd cc
any_at (j ∷ code) zero n i here names =
    let same : j ≡ i = cc in
    ap (λ is. is || list_any (names_point n) code) (subst (λ k. names_point n k ≡ true) (sym same) names)
any_at (j ∷ code) (suc point) n i here names =
    ap (λ is. names_point n j || is) (any_at code point n i here names) ∙ or_right (names_point n j)

not_carried_there : (code : List Instruction) (n : ℕ) → list_any (names_point n) code ≡ true → (nat_lt n (length code) && not (along.is_named code n)) ≡ false
not_carried_there code n named =
    let is : along.is_named code n ≡ true = ap (λ any. (n == 0) || any) named ∙ or_right (n == 0) in
    both_false_right (nat_lt n (length code)) (not (along.is_named code n)) (ap not is)

named_not : (v : Version) (code : List Instruction) (n : ℕ) → list_any (names_point n) code ≡ true → may_carry v code n ≡ false
named_not One code n named = refl
named_not Two code n named = not_carried_there code n named
named_not Three code n named = not_carried_there code n named
named_not Four code n named = not_carried_there code n named

all_same : (test f g : Outcome → Bool) (outs : List Outcome) → list_all test outs ≡ true → ((o : Outcome) → test o ≡ true → f o ≡ g o) → list_all f outs ≡ list_all g outs
all_same test f g [] all same = refl
all_same test f g (o ∷ outs) all same =
    let here = same o (both_left (test o) (list_all test outs) all) in
    let rest = all_same test f g outs (both_right (test o) (list_all test outs) all) same in
    λ k. here k && rest k

module _ (plan : Plan) (c : Certificate) (valid : is_plan plan ≡ true) (made : IsCertificate c) where
  pub there : (name : List ℕ) (n : ℕ) → bound_at (expansion plan c) name n ≡ bound_there plan c name n
  there name n = expansion_there plan c name n (programs_few plan name valid) (λ m high. low_none c.points name m (points_low c made) high)

  module _ (name : List ℕ) (point : ℕ) (i : Instruction) (carried : Option Bound)
      (here : slice_get (code_named plan.programs name) point ≡ Some i) (on : carried ≡ carried_to plan c name (point + 1)) where
    met : (n : ℕ) → ((n == point + 1) || names_point n i) ≡ true → bound_met c name (point + 1) carried n ≡ bound_at (expansion plan c) name n
    met n goes_there = go (n == point + 1) refl goes_there ∙ sym (there name n)
      where
        go : (next : Bool) → (n == point + 1) ≡ next → (next || names_point n i) ≡ true → or_carried (bound_at c name n) (if next then carried else None) ≡ bound_there plan c name n
        go true next is = ap (or_carried (bound_at c name n)) (on ∙ ap (carried_to plan c name) (sym (eqb-true n (point + 1) next)))
        go false next is =
            ap (or_carried (bound_at c name n))
            (sym (carried_within plan c name n (named_not c.version (code_named plan.programs name) n (any_at (code_named plan.programs name) point n i here is))))

    abbrev is_within_met : Outcome → Bool
    is_within_met o = within_if_there o.bound (bound_met c name (point + 1) carried o.point)

    abbrev is_there_met : Outcome → Bool
    is_there_met o = is_some (bound_met c name (point + 1) carried o.point)

    within_all : (b : Bound) (outs : List Outcome) → list_all (goes plan.grants c name point b i) outs ≡ true → list_all is_within_met outs ≡ all_within (expansion plan c) name outs
    within_all b outs go =
        all_same (goes plan.grants c name point b i) is_within_met (λ o. within_if_there o.bound (bound_at (expansion plan c) name o.point)) outs go
        (λ o is. ap (within_if_there o.bound) (met o.point is))

    there_all : (b : Bound) (outs : List Outcome) → list_all (goes plan.grants c name point b i) outs ≡ true → list_all is_there_met outs ≡ all_there (expansion plan c) name outs
    there_all b outs go =
        all_same (goes plan.grants c name point b i) is_there_met (λ o. is_some (bound_at (expansion plan c) name o.point)) outs go
        (λ o is. ap is_some (met o.point is))

    followed_go : (b : Bound) → list_all (goes plan.grants c name point b i) (successes_in plan c name point b i) ≡ true
    unfolding successes_in
    followed_go b =
        all_if (goes plan.grants c name point b i) (is_followed plan name i) (successes plan.grants c name point b i) (successes_go plan.grants c name point b i)

    pub successes_within : (b : Bound) → list_all is_within_met (successes_in plan c name point b i) ≡ all_within (expansion plan c) name (successes_in plan (expansion plan c) name point b i)
    successes_within b =
        within_all b (successes_in plan c name point b i) (followed_go b)
        ∙ ap (all_within (expansion plan c) name) (sym (followed_same plan c name point b i))

    pub successes_there : (b : Bound) → list_all is_there_met (successes_in plan c name point b i) ≡ all_there (expansion plan c) name (successes_in plan (expansion plan c) name point b i)
    successes_there b =
        there_all b (successes_in plan c name point b i) (followed_go b)
        ∙ ap (all_there (expansion plan c) name) (sym (followed_same plan c name point b i))

    pub errors_within : (b : Bound) → list_all is_within_met (error_outcomes b i) ≡ all_within (expansion plan c) name (error_outcomes b i)
    errors_within b = within_all b (error_outcomes b i) (errors_go plan.grants c name point b i)

    pub errors_there : (b : Bound) → list_all is_there_met (error_outcomes b i) ≡ all_there (expansion plan c) name (error_outcomes b i)
    errors_there b = there_all b (error_outcomes b i) (errors_go plan.grants c name point b i)

pub expansion_bounds : ExpansionBounds
expansion_bounds plan c name point valid made = there plan c valid made name point
