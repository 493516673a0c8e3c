-- What the rules 2, 3 and 16 ask of an outcome, by the bound of the point that it goes to.
use Rattle.std.specs.Prelude.{ℕ, Bool, List, Option, is_some}
use Rattle.std.specs.List.{list_all}
use Rattle.certificate.specs.Bounds.{Bound, Certificate, bound_at}
use Rattle.checker.specs.KeptUses.{arrives}
use Rattle.checker.specs.declared.arrivals.Arrival.{Arrival}
use Rattle.checker.specs.declared.arrivals.Arrival.TheVariants as arrivals
use Rattle.rules.specs.Outcomes.{Outcome}
use Rattle.rules.specs.Rules.{within_if_there}

abbrev pub arrives_as : Arrival → Bound → Option Bound → Bool
arrives_as arrivals.Within b there = within_if_there b there
arrives_as arrivals.There b there = is_some there
arrives_as arrivals.WithinThere b there = arrives b there

abbrev pub all_arrive : Arrival → Certificate → List ℕ → List Outcome → Bool
all_arrive arrival c name outs = list_all (λ (o : Outcome). arrives_as arrival o.bound (bound_at c name o.point)) outs
