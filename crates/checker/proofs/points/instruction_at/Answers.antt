use Rattle.instruction_set.specs.Views.{code_of, instruction_of}
use Rattle.checker.proofs.KnownLimits.{known_there}
use Rattle.checker.proofs.points.instruction_at.Goals as goal

pub returns-clause-known : goal.returns-clause-known
returns-clause-known c = known_there (λ i. instruction_of i.now) c.instruction_in.result (code_of c.code_at.result.now) c.args.point c.code_at.ensures.known c.instruction_in.ensures
