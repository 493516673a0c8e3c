-- What an instruction carries on to the next point: the join of its outcomes that go there. (own)
use Rattle.std.specs.Prelude.{◌==◌, ◌+◌, ◌++◌, ℕ, List, [], ◌∷◌, Option, Some, None, option_map, if◌then◌else◌}
use Rattle.rights.specs.Values.{Name}
use Rattle.certificate.specs.Bounds.{Bound, Certificate}
use Rattle.certificate.specs.Joins.{bound_join}
use Rattle.certificate.specs.Told.{told_bound}
use Rattle.instruction_set.specs.Programs.{Instruction}
use Rattle.task.specs.Plans.{Plan}
use Rattle.rules.specs.Outcomes.{Outcome, successes_in, error_outcomes}

-- a bound, joined to what came before it, if anything did
abbrev pub joined_bound : Option Bound → Bound → Option Bound
joined_bound None b = Some b
joined_bound (Some a) b = Some (bound_join a b)

-- with an outcome too, if it goes to the point
abbrev pub joined_with : ℕ → Option Bound → Outcome → Option Bound
joined_with point before o = if o.point == point then joined_bound before o.bound else before

unfoldable pub joined_at : ℕ → Option Bound → List Outcome → Option Bound
joined_at point before [] = before
joined_at point before (o ∷ outs) = joined_at point (joined_with point before o) outs

-- where an instruction may lead, errors too
abbrev pub outcomes : Plan → Certificate → Name → ℕ → Bound → Instruction → List Outcome
outcomes plan certificate name point b i = successes_in plan certificate name point b i ++ error_outcomes b i

-- Nothing, where no outcome goes to the next point; and else as the certificate would say it.
abbrev pub carried_on : Plan → Certificate → Name → ℕ → Bound → Instruction → Option Bound
carried_on plan certificate name point b i =
    option_map (told_bound certificate.version) (joined_at (point + 1) None (outcomes plan certificate name point b i))
