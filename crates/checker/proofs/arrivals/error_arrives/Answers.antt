use Rattle.std.proofs.Common.{◌≡◌, [], ◌∷◌, ap, sym, ◌∙◌}
use Rattle.std.specs.Prelude.{Bool, option_map}
use Rattle.std.specs.List.{list_all}
use Rattle.certificate.specs.Views.{bound_of}
use Rattle.checker.specs.ArrivalViews.{arrives_as}
use Rattle.checker.specs.PointViews.{instruction_of_point, met_from, name_of_point}
use Rattle.checker.proofs.Arriving.{errors_as}
use Rattle.checker.proofs.Standing.{alone}
use Rattle.rules.specs.Outcomes.{Outcome, error_outcomes}
use Rattle.transfer.specs.OutcomeViews.{outcome_of, outcomes_of}
use Rattle.checker.proofs.arrivals.error_arrives.Goals as goal

pub returns-in-Some : goal.returns-in-Some
returns-in-Some c =
    let at = c.args.at.now in
    let of = at.of.now in
    let test : Outcome → Bool = λ o. arrives_as c.args.arrival o.bound (met_from at o.point) in
    let one : outcome_of c.in-Some.outcome ∷ [] ≡ error_outcomes (bound_of c.args.bound.now) (instruction_of_point at) =
    sym (ap outcomes_of c.in-Some.is) ∙ c.failure.ensures in
    c.visit.ensures.value ∙ alone (test (outcome_of c.in-Some.outcome)) ∙ ap (list_all test) one
    ∙ errors_as of.task.now of.cert.now of.valid of.made (name_of_point at) at.point (instruction_of_point at) (option_map bound_of at.there) at.stands at.leads
    (bound_of c.args.bound.now) c.args.arrival
