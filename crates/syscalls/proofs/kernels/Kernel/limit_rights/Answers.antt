use Rattle.std.proofs.Common.{sym, refl, subst, ◌∙◌, []}
use Rattle.std.specs.Prelude.{Some, option_map}
use Rattle.fd_table.specs.Descriptions.{Descriptor, descriptor_of}
use Rattle.fd_table.specs.OpenFiles.{Alike}
use Rattle.fd_table.specs.Openings.{with_entry}
use Rattle.fd_table.specs.Kept.{open_files}
use Rattle.kernel.specs.Answers.{Set_entry, value_of}
use Rattle.kernel.specs.Calls.{answer}
use Rattle.kernel.specs.Changes.{files_after}
use Rattle.instruction_set.specs.Views.{operand_of}
use Rattle.syscalls.specs.AnswerViews.{world_at}
use Rattle.syscalls.proofs.Finding.{handed_on}
use Rattle.syscalls.proofs.Tests.{passes, fails}
use Rattle.syscalls.proofs.Keeping.{meets, entry_succeeds}
use Rattle.syscalls.proofs.kernels.Kernel.limit_rights.Goals as goal

pub returns-in_err-held : goal.returns-in_err-held
unfolding answer files_after
returns-in_err-held g c = λ processes e same.
    handed_on c.from_residual.result c.in_err-held.field-0.0 (world_at g.T.Tree.nodes c.args.self processes) _ _ c.from_residual.ensures.1 (c.in_err-held.ensures.passes _)

pub returns-then-not-contains : goal.returns-then-not-contains
unfolding answer
returns-then-not-contains g c = λ processes e same.
    (c.in_ok-held.ensures.passes _ ∙ fails _ _ _ _ (sym c.contains.ensures.computes ∙ c.if-not-contains.true), record { tree = refl; files = refl })

pub returns : goal.returns
unfolding answer files_after
returns g c = λ processes e same.
    let f = open_files c.args.self.files.now in
    let w = world_at g.T.Tree.nodes c.args.self processes in
    let p = c.args.self.caller.number in
    let left = open_files c.limit.new.self in
    let d : Descriptor = descriptor_of c.in_ok-held.held.description c.args.rights.0 c.in_ok-held.held.fcntls.0 in
    meets c.value.ensures (entry_succeeds w p left 0 _ _ (Set_entry (value_of c.args.self.caller.process.now (operand_of c.args.operand)) d) [] tt tt
    (c.in_ok-held.ensures.passes _ ∙ passes _ _ _ _ (sym c.contains.ensures.computes ∙ c.if-not-contains.false))
    refl
    (subst (λ n. Alike (with_entry f p n (Some d)) left) c.in_ok-held.ensures.held.number
    (subst (λ o. Alike (with_entry f p c.in_ok-held.held.number
    (option_map (λ (x : Descriptor). record x { rights = c.args.rights.0; fcntls = c.in_ok-held.held.fcntls.0 }) o)) left) c.in_ok-held.ensures.held.entry
    c.limit.ensures)))
