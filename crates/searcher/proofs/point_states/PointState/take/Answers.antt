use Rattle.std.proofs.Common.{◌≡◌, true, subst}
use Rattle.certificate.specs.Bounds.{Bound}
use Rattle.certificate.specs.Order.{bound_within}
use Rattle.certificate.specs.OrderLaws.{bound-trans}
use Rattle.certificate.specs.Views.{bound_of}
use Rattle.transfer.specs.OutcomeViews.{outcome_of}
use Rattle.searcher.proofs.Widened.{still_lies}
use Rattle.searcher.proofs.point_states.PointState.take.Goals as goal

pub returns-in_default-clause-outcome : goal.returns-in_default-clause-outcome
returns-in_default-clause-outcome c = subst (λ (b : Bound). bound_within b (bound_of c.tell.new.bound) ≡ true) c.bound_there-first.ensures c.tell.ensures

pub returns-clause-outcome : goal.returns-clause-outcome
returns-clause-outcome c =
    bound-trans (outcome_of c.args.outcome.now).bound (bound_of c.grow.new.there) (bound_of c.tell-2.new.bound) c.grow.ensures.outcome c.tell-2.ensures

pub returns-clause-grows : goal.returns-clause-grows
returns-clause-grows c = λ o lies.
    still_lies c.args.self.now.bound c.in-Some.there c.tell-2.new.bound o c.in-Some.is
    (bound-trans (bound_of c.in-Some.there) (bound_of c.grow.new.there) (bound_of c.tell-2.new.bound) c.grow.ensures.grows c.tell-2.ensures) lies
