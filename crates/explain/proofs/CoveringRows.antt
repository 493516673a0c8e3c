-- Rows of which findings are counted under others: of two reads with one `else` whose point has no bound, the second is, and not one that
-- leads elsewhere without a bound.
use Rattle.std.proofs.Common.{◌≡◌, ℕ, true, false, List, [], ◌∷◌, refl}
use Rattle.std.specs.Prelude.{codes}
use Rattle.certificate.specs.Bounds.{Certificate, PointBound, On, One, bound_in}
use Rattle.checker.specs.Findings.{BrokenRule}
use Rattle.instruction_set.specs.Programs.{Instruction, Halt, Invoke, Read, Number}
use Rattle.task.specs.Plans.{Plan, plan_with, unmarked}
use Rattle.explain.specs.Covering.{count_under, covers, is_counted}
use Rattle.explain.specs.Telling.{others_text}

abbrev read_or : ℕ → Instruction
read_or otherwise = Invoke (Read (Number 0)) otherwise

-- the first two lead to point 4 by their errors, the third to point 5
abbrev reads : Plan
reads = plan_with [] [] (unmarked (codes "main") (read_or 4 ∷ read_or 4 ∷ read_or 5 ∷ Halt ∷ Halt ∷ Halt ∷ []) ∷ []) []

abbrev at : ℕ → PointBound
at point = record { program = codes "main"; point = point; bound = record { mode = On; registers = []; slots = [] } }

-- neither point 4 nor point 5 has a bound
abbrev bounds : Certificate
bounds = record { version = One; points = at 0 ∷ at 1 ∷ at 2 ∷ at 3 ∷ []; channels = []; authorities = [] }

abbrev reached_from : ℕ → BrokenRule
reached_from point = record { program = 0; point = point; rule = 16 }

abbrev all : List BrokenRule
all = reached_from 0 ∷ reached_from 1 ∷ reached_from 2 ∷ []

second_is_counted : is_counted reads bounds all (reached_from 1) ≡ true
unfolding bound_in
second_is_counted = refl

first_is_not : is_counted reads bounds all (reached_from 0) ≡ false
unfolding bound_in
first_is_not = refl

other_is_not : is_counted reads bounds all (reached_from 2) ≡ false
unfolding bound_in
other_is_not = refl

one_under_first : count_under reads bounds all (reached_from 0) ≡ 1
unfolding bound_in
one_under_first = refl

none_under_other : count_under reads bounds all (reached_from 2) ≡ 0
unfolding bound_in
none_under_other = refl

-- another rule's finding is neither counted nor counts

narrow_is_not : covers reads bounds (reached_from 0) (record { program = 0; point = 1; rule = 3 }) ≡ false
unfolding bound_in
narrow_is_not = refl

-- and nothing is said where there are none
nothing_said : others_text 0 ≡ []
nothing_said = refl
