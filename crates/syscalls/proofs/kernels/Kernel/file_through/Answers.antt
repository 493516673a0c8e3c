use Rattle.std.proofs.Common.{sym, subst, ◌∙◌}
use Rattle.syscalls.specs.AnswerViews.{Passes, Refuses, held_seen, opened_seen}
use Rattle.syscalls.proofs.Finding.{by_error}
use Rattle.syscalls.proofs.kernels.Kernel.file_through.Goals as goal

pub returns-in_err-file-clause-passes : goal.returns-in_err-file-clause-passes
returns-in_err-file-clause-passes g c = λ processes p s e.
    let error = c.in_err-file.field-0.0 in
    by_error (Passes opened_seen _) c.from_residual-in_err-file.result error c.from_residual-in_err-file.ensures.1
    (λ rest. subst (Refuses error) (sym (c.in_ok-held.ensures.passes _)) (c.in_err-file.ensures.passes processes p s e (λ found. rest (held_seen c.in_ok-held.held, found.0, found.1))))

pub returns-clause-passes : goal.returns-clause-passes
returns-clause-passes g c = λ processes p s e rest.
    c.in_ok-held.ensures.passes _ ∙ c.in_ok-file.ensures.passes processes p s e (λ found. rest (held_seen c.in_ok-held.held, found.0, found.1))
