use Rattle.std.proofs.Common.{refl, subst, []}
use Rattle.std.specs.Prelude.{None}
use Rattle.fd_table.specs.OpenFiles.{Alike}
use Rattle.fd_table.specs.Openings.{with_entry}
use Rattle.fd_table.specs.Kept.{open_files}
use Rattle.kernel.specs.Answers.{Clear_entry, value_of}
use Rattle.kernel.specs.Calls.{answer}
use Rattle.kernel.specs.Changes.{files_after}
use Rattle.instruction_set.specs.Views.{operand_of}
use Rattle.syscalls.specs.AnswerViews.{world_at}
use Rattle.syscalls.proofs.Finding.{handed_on}
use Rattle.syscalls.proofs.Keeping.{meets, entry_succeeds}
use Rattle.syscalls.proofs.kernels.Kernel.close.Goals as goal

pub returns-in_err-held : goal.returns-in_err-held
unfolding answer files_after
returns-in_err-held g c = λ processes e same.
    handed_on c.from_residual.result c.in_err-held.field-0.0 (world_at g.T.Tree.nodes c.args.self processes) _ _ c.from_residual.ensures.1 (c.in_err-held.ensures.passes _)

pub returns : goal.returns
unfolding answer files_after
returns g c = λ processes e same.
    let f = open_files c.args.self.files.now in
    let w = world_at g.T.Tree.nodes c.args.self processes in
    let p = c.args.self.caller.number in
    meets c.value.ensures (entry_succeeds w p (open_files c.close.new.self) 0 _ _ (Clear_entry (value_of c.args.self.caller.process.now (operand_of c.args.operand))) [] tt tt
    (c.in_ok-held.ensures.passes _) refl
    (subst (λ n. Alike (with_entry f p n None) (open_files c.close.new.self)) c.in_ok-held.ensures.held.number c.close.ensures))
