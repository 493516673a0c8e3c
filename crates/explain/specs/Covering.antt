-- Which findings are counted under one that stands before them. Where the point of an `else` that many calls have has no bound, each of these
-- calls breaks the rule that what is reached has one: the first of them is told, with how many others there are. (own)
use Rattle.std.specs.Prelude.{◌&&◌, ◌||◌, ◌==◌, ℕ, Bool, List, filter, if◌then◌else◌, is_some, length, nat_lt}
use Rattle.std.specs.List.{list_all, list_any}
use Rattle.certificate.specs.Bounds.{Certificate, bound_at}
use Rattle.checker.specs.Findings.{BrokenRule}
use Rattle.instruction_set.specs.Successors.{successors_at}
use Rattle.rights.specs.Values.{Name}
use Rattle.task.specs.Plans.{Plan, program_name, programs_of_plan}

-- a finding of the rule that what is reached has a bound
abbrev pub is_of_reach : BrokenRule → Bool
is_of_reach f = f.rule == 16

-- a point that has a bound, or is one of these
abbrev pub is_met : Certificate → Name → List ℕ → ℕ → Bool
is_met c name leads point = list_any (λ to. to == point) leads || is_some (bound_at c name point)

-- By the text of a program all that a point leads to has a bound, or the earlier point leads there too.
abbrev pub leads_alike : Plan → Certificate → ℕ → ℕ → ℕ → Bool
leads_alike plan c program earlier point =
    list_all (is_met c (program_name plan program) (successors_at (programs_of_plan plan program) earlier)) (successors_at (programs_of_plan plan program) point)

-- The first stands before the other and has a bound itself, and the other leads to no point without one to which the first doesn't.
abbrev pub covers : Plan → Certificate → BrokenRule → BrokenRule → Bool
covers plan c g f =
    is_of_reach g && is_of_reach f && (g.program == f.program) && nat_lt g.point f.point
    && is_some (bound_at c (program_name plan g.program) g.point) && leads_alike plan c g.program g.point f.point

-- among all findings one covers it
abbrev pub is_counted : Plan → Certificate → List BrokenRule → BrokenRule → Bool
is_counted plan c all f = is_of_reach f && list_any (λ g. covers plan c g f) all

-- how many it covers
abbrev pub count_under : Plan → Certificate → List BrokenRule → BrokenRule → ℕ
count_under plan c all g = if is_of_reach g then length (filter (covers plan c g) all) else 0
