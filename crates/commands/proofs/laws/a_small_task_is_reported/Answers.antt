use Rattle.std.proofs.Common.{refl}
use Rattle.std.specs.Fmt.{digits}
use Rattle.certificate.specs.Bounds.{bound_in}
use Rattle.certificate_text.specs.Pieces.{in_order}
use Rattle.rules.specs.Authority.{authority_in, ceiling_in}
use Rattle.commands.proofs.laws.a_small_task_is_reported.Goals as goal

pub returns-clause-plain : goal.returns-clause-plain
unfolding digits bound_in in_order
returns-clause-plain c = refl

pub returns-clause-unmarked : goal.returns-clause-unmarked
unfolding digits bound_in in_order
returns-clause-unmarked c = refl

pub returns-clause-marked : goal.returns-clause-marked
unfolding digits bound_in in_order authority_in ceiling_in
returns-clause-marked c = refl
