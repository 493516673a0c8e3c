-- What a rule asks of each register, each descriptor and each outcome of a bound. (own)
use Rattle.std.specs.Prelude.{◌==◌, ◌||◌, not, ℕ, Bool, List}
use Rattle.std.specs.List.{list_all}
use Rattle.certificate.specs.Bounds.{Bound, interval, slot}
use Rattle.certificate.specs.Describes.{interval_describes, slot_describes}
use Rattle.certificate.specs.Order.{interval_within, slot_within}
use Rattle.rules.specs.Outcomes.{Outcome}
use Rattle.rules.specs.Rules.{first_table}
use Rattle.task.specs.Plans.{Plan, Start}
use Rattle.task.specs.Policies.{grant_holds}

-- ## The bound of point 0 and how a process starts
abbrev pub register_begins : Bound → ℕ → Bool
register_begins b r = interval_describes (interval b.registers r) 0

abbrev pub slot_begins : Plan → Start → Bound → ℕ → Bool
slot_begins plan s b n = slot_describes (grant_holds plan.grants) (slot b.slots n) (first_table plan.nodes s n)

-- ## What arrives, and the bound there
abbrev pub register_arrives : Bound → Bound → ℕ → Bool
register_arrives arriving there r = interval_within (interval arriving.registers r) (interval there.registers r)

abbrev pub slot_arrives : Bound → Bound → ℕ → Bool
slot_arrives arriving there n = slot_within (slot arriving.slots n) (slot there.slots n)

-- each of these outcomes passes that goes to the point
abbrev pub passes_at : (Outcome → Bool) → ℕ → List Outcome → Bool
passes_at test point outs = list_all (λ (o : Outcome). not (o.point == point) || test o) outs
