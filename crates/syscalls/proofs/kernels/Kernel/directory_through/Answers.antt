use Rattle.syscalls.proofs.Finding.{passes_on}
use Rattle.syscalls.specs.AnswerViews.{number_seen}
use Rattle.syscalls.proofs.kernels.Kernel.directory_through.Goals as goal

pub returns-clause-passes : goal.returns-clause-passes
returns-clause-passes g c = λ processes p s e.
    passes_on number_seen _ _ _ (λ rest. c.in_ok-held.ensures.passes _) (c.directory_of.ensures.passes processes p s e)
