use Rattle.certificate.specs.OrderLaws.{bound-trans}
use Rattle.certificate.specs.Views.{bound_of}
use Rattle.transfer.specs.OutcomeViews.{outcome_of}
use Rattle.searcher.proofs.Widened.{above_left, above_right}
use Rattle.searcher.proofs.point_states.grown_to.Goals as goal

pub returns-then-changes-le-FEW_CHANGES-clause-outcome : goal.returns-then-changes-le-FEW_CHANGES-clause-outcome
returns-then-changes-le-FEW_CHANGES-clause-outcome c =
    above_right (bound_of c.args.there.now) (outcome_of c.args.outcome.now).bound (bound_of c.bound_there.result) (bound_of c.join-joined.result)
    c.bound_there.ensures c.join-joined.ensures.value c.join-joined.ensures.fit

pub returns-then-changes-le-FEW_CHANGES-clause-grows : goal.returns-then-changes-le-FEW_CHANGES-clause-grows
returns-then-changes-le-FEW_CHANGES-clause-grows c =
    above_left (bound_of c.args.there.now) (bound_of c.bound_there.result) (bound_of c.join-joined.result) c.join-joined.ensures.value c.join-joined.ensures.fit

pub returns-clause-outcome : goal.returns-clause-outcome
returns-clause-outcome c =
    bound-trans (outcome_of c.args.outcome.now).bound (bound_of c.join-joined.result) (bound_of c.widened.result)
    (above_right (bound_of c.args.there.now) (outcome_of c.args.outcome.now).bound (bound_of c.bound_there.result) (bound_of c.join-joined.result)
    c.bound_there.ensures c.join-joined.ensures.value c.join-joined.ensures.fit)
    c.widened.ensures

pub returns-clause-grows : goal.returns-clause-grows
returns-clause-grows c =
    bound-trans (bound_of c.args.there.now) (bound_of c.join-joined.result) (bound_of c.widened.result)
    (above_left (bound_of c.args.there.now) (bound_of c.bound_there.result) (bound_of c.join-joined.result) c.join-joined.ensures.value c.join-joined.ensures.fit)
    c.widened.ensures
