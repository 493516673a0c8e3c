use Rattle.certificate.specs.JoinLaws.{bound-left, bound-right}
use Rattle.certificate.specs.OrderLaws.{bound-refl, bound-trans}
use Rattle.certificate.proofs.laws.bounds_are_a_domain.Goals as goal

pub returns-clause-reflexive : goal.returns-clause-reflexive
returns-clause-reflexive c = bound-refl

pub returns-clause-transitive : goal.returns-clause-transitive
returns-clause-transitive c = bound-trans

pub returns-clause-above : goal.returns-clause-above
returns-clause-above c = λ a b registers slots. (bound-left a b registers slots, bound-right a b registers slots)
