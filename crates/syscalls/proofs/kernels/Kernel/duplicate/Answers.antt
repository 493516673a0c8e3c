use Rattle.std.proofs.Common.{sym, refl, subst, ◌∙◌, []}
use Rattle.fd_table.specs.OpenFiles.{Alike}
use Rattle.fd_table.specs.Openings.{with_entry}
use Rattle.fd_table.specs.Kept.{open_files}
use Rattle.kernel.specs.Answers.{Set_entry}
use Rattle.kernel.specs.Calls.{answer}
use Rattle.kernel.specs.Changes.{files_after}
use Rattle.syscalls.specs.AnswerViews.{Refuses, held_seen, world_at}
use Rattle.syscalls.proofs.Finding.{handed_on}
use Rattle.syscalls.proofs.Keeping.{meets, entry_succeeds}
use Rattle.syscalls.proofs.kernels.Kernel.duplicate.Goals as goal

pub returns-in_err-held : goal.returns-in_err-held
unfolding answer files_after
returns-in_err-held g c = λ processes e same.
    handed_on c.from_residual.result c.in_err-held.field-0.0 (world_at g.T.Tree.nodes c.args.self processes) _ _ c.from_residual.ensures.1 (c.in_err-held.ensures.passes _)

pub returns-in_err-number : goal.returns-in_err-number
unfolding answer
returns-in_err-number g c = λ processes e same.
    handed_on c.from_residual-in_err-number.result c.in_err-number.field-0.0 (world_at g.T.Tree.nodes c.args.self processes) _ _ c.from_residual-in_err-number.ensures.1
    (subst (Refuses c.in_err-number.field-0.0) (sym (c.in_ok-held.ensures.passes _)) (c.in_err-number.ensures.passes _))

pub returns : goal.returns
unfolding answer files_after
returns g c = λ processes e same.
    let f = open_files c.args.self.files.now in
    let w = world_at g.T.Tree.nodes c.args.self processes in
    let p = c.args.self.caller.number in
    let number = c.in_ok-number.number in
    let left = open_files c.share.new.self in
    meets c.value.ensures (entry_succeeds w p left number _ _ (Set_entry number (held_seen c.in_ok-held.held)) [] tt tt (c.in_ok-held.ensures.passes _ ∙ c.in_ok-number.ensures.passes _) refl
    (subst (λ o. Alike (with_entry f p number o) left) c.in_ok-held.ensures.held.entry c.share.ensures))
