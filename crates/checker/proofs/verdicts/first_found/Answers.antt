use Rattle.rules.specs.Expansions.{expansion}
use Rattle.checker.proofs.PastEnds.{no_instruction}
use Rattle.checker.proofs.verdicts.first_found.Goals as goal

pub returns-in_err-new : goal.returns-in_err-new
returns-in_err-new c =
    rw c.from_residual.ensures
    (λ point. no_instruction c.args.task.now (expansion c.args.task.now c.args.cert.now) c.args.program point (c.new.ensures.none c.in_err-new.was point))
