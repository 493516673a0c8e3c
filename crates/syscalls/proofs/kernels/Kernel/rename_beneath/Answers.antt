use Rattle.std.proofs.Common.{sym, subst, refl, ap, ◌∙◌}
use Rattle.rights.specs.Sets.{is_within}
use Rattle.fd_table.specs.Kept.{open_files}
use Rattle.kernel.specs.Calls.{answer, renamed_to}
use Rattle.instruction_set.specs.Programs.{Renameat}
use Rattle.instruction_set.specs.Views.{operand_of}
use Rattle.syscalls.specs.AnswerViews.{Meets, Refuses, held_seen, state_with, world_at}
use Rattle.syscalls.proofs.Finding.{handed_on}
use Rattle.syscalls.proofs.Tests.{passes, fails}
use Rattle.syscalls.proofs.kernels.Kernel.rename_beneath.Goals as goal

pub returns-in_err-source : goal.returns-in_err-source
unfolding answer
returns-in_err-source g c = λ processes e same.
    handed_on c.from_residual.result c.in_err-source.field-0.0 (world_at g.T.Tree.nodes c.args.self processes) _ _ c.from_residual.ensures.1 (c.in_err-source.ensures.passes _)

pub returns-in_err-target : goal.returns-in_err-target
unfolding answer
returns-in_err-target g c = λ processes e same.
    handed_on c.from_residual-in_err-target.result c.in_err-target.field-0.0 (world_at g.T.Tree.nodes c.args.self processes) _ _ c.from_residual-in_err-target.ensures.1
    (subst (Refuses c.in_err-target.field-0.0) (sym (c.in_ok-source.ensures.passes _)) (c.in_err-target.ensures.passes _))

pub returns-then-not-contains : goal.returns-then-not-contains
unfolding answer
returns-then-not-contains g c = λ processes e same. (
  c.in_ok-source.ensures.passes _ ∙ c.in_ok-target.ensures.passes _
      ∙ fails _ _ _ _ (ap (λ n. is_within n c.in_ok-source.source.rights.0) (sym c.need_of.ensures) ∙ sym c.contains.ensures.computes
      ∙ c.if-not-contains.true),
  record { tree = refl; files = refl },
)

pub returns-then-not-contains-2 : goal.returns-then-not-contains-2
unfolding answer
returns-then-not-contains-2 g c = λ processes e same. (
  c.in_ok-source.ensures.passes _ ∙ c.in_ok-target.ensures.passes _
      ∙ passes _ _ _ _ (ap (λ n. is_within n c.in_ok-source.source.rights.0) (sym c.need_of.ensures) ∙ sym c.contains.ensures.computes ∙ c.if-not-contains.false)
      ∙ fails _ _ _ _ (ap (λ n. is_within n c.in_ok-target.target.rights.0) (sym c.second_need.ensures) ∙ sym c.contains-2.ensures.computes ∙ c.if-not-contains-2.true),
  record { tree = refl; files = refl },
)

pub returns-in_err-start : goal.returns-in_err-start
unfolding answer
returns-in_err-start g c = λ processes e same.
    handed_on c.from_residual-in_err-start.result c.in_err-start.field-0.0 (world_at g.T.Tree.nodes c.args.self processes) _ _ c.from_residual-in_err-start.ensures.1
    (subst (Refuses c.in_err-start.field-0.0) (sym (c.in_ok-source.ensures.passes _ ∙ c.in_ok-target.ensures.passes _
    ∙ passes _ _ _ _ (ap (λ n. is_within n c.in_ok-source.source.rights.0) (sym c.need_of.ensures) ∙ sym c.contains.ensures.computes ∙ c.if-not-contains.false)
    ∙ passes _ _ _ _ (ap (λ n. is_within n c.in_ok-target.target.rights.0) (sym c.second_need.ensures) ∙ sym c.contains-2.ensures.computes ∙ c.if-not-contains-2.false)))
    (c.in_err-start.ensures.passes processes c.args.self.caller.number (state_with c.args.self.caller c.args.walk) e _))

pub returns-in_err-end : goal.returns-in_err-end
unfolding answer
returns-in_err-end g c = λ processes e same.
    handed_on c.from_residual-in_err-end.result c.in_err-end.field-0.0 (world_at g.T.Tree.nodes c.args.self processes) _ _ c.from_residual-in_err-end.ensures.1
    (subst (Refuses c.in_err-end.field-0.0) (sym (c.in_ok-source.ensures.passes _ ∙ c.in_ok-target.ensures.passes _
    ∙ passes _ _ _ _ (ap (λ n. is_within n c.in_ok-source.source.rights.0) (sym c.need_of.ensures) ∙ sym c.contains.ensures.computes ∙ c.if-not-contains.false)
    ∙ passes _ _ _ _ (ap (λ n. is_within n c.in_ok-target.target.rights.0) (sym c.second_need.ensures) ∙ sym c.contains-2.ensures.computes ∙ c.if-not-contains-2.false)
    ∙ c.in_ok-start.ensures.passes processes c.args.self.caller.number (state_with c.args.self.caller c.args.walk) e _))
    (c.in_err-end.ensures.passes processes c.args.self.caller.number (state_with c.args.self.caller c.args.walk) e _))

pub returns-in_err-both : goal.returns-in_err-both
unfolding answer
returns-in_err-both g c = λ processes e same.
    let f = open_files c.args.self.files.now in
    let w = world_at g.T.Tree.nodes c.args.self processes in
    let p = c.args.self.caller.number in
    let s = state_with c.args.self.caller c.args.walk in
    let call = Renameat (operand_of c.args.operand) c.args.path.now (operand_of c.args.target) c.args.new_path.now in
    handed_on c.from_residual-in_err-both.result c.in_err-both.field-0.0 w _ _ c.from_residual-in_err-both.ensures.1
    (subst (Refuses c.in_err-both.field-0.0) (sym
    (c.in_ok-source.ensures.passes _ ∙ c.in_ok-target.ensures.passes _
    ∙ passes _ _ _ _ (ap (λ n. is_within n c.in_ok-source.source.rights.0) (sym c.need_of.ensures) ∙ sym c.contains.ensures.computes ∙ c.if-not-contains.false)
    ∙ passes _ _ _ _ (ap (λ n. is_within n c.in_ok-target.target.rights.0) (sym c.second_need.ensures) ∙ sym c.contains-2.ensures.computes ∙ c.if-not-contains-2.false)
    ∙ c.in_ok-start.ensures.passes processes p s e _
    ∙ c.in_ok-end.ensures.passes processes p s e _))
    (c.in_err-both.ensures.leads s refl f processes p e (λ k place. renamed_to w p s e call (held_seen c.in_ok-target.target) k c.args.new_path.now place) (λ k fault. refl)))

pub returns : goal.returns
unfolding answer
returns g c = λ processes e same.
    let f = open_files c.args.self.files.now in
    let w = world_at g.T.Tree.nodes c.args.self processes in
    let p = c.args.self.caller.number in
    let s = state_with c.args.self.caller c.args.walk in
    let call = Renameat (operand_of c.args.operand) c.args.path.now (operand_of c.args.target) c.args.new_path.now in
    subst (Meets w p (g.T.Tree.nodes c.rename_to.new.self.0) (open_files c.rename_to.new.self.1.0) c.rename_to.result)
    (sym
    (c.in_ok-source.ensures.passes _ ∙ c.in_ok-target.ensures.passes _
    ∙ passes _ _ _ _ (ap (λ n. is_within n c.in_ok-source.source.rights.0) (sym c.need_of.ensures) ∙ sym c.contains.ensures.computes ∙ c.if-not-contains.false)
    ∙ passes _ _ _ _ (ap (λ n. is_within n c.in_ok-target.target.rights.0) (sym c.second_need.ensures) ∙ sym c.contains-2.ensures.computes ∙ c.if-not-contains-2.false)
    ∙ c.in_ok-start.ensures.passes processes p s e _
    ∙ c.in_ok-end.ensures.passes processes p s e _
    ∙ c.in_ok-both.ensures.leads s refl f processes p e (λ k place. renamed_to w p s e call (held_seen c.in_ok-target.target) k c.args.new_path.now place)))
    (c.rename_to.ensures call (held_seen c.in_ok-target.target)
    (ap (λ n. is_within n c.in_ok-target.target.rights.0) (sym c.second_need-2.ensures) ∙ sym c.contains-may_replace.ensures.computes)
    s processes e same)

pub directory_of-requires-clause-named : goal.directory_of-requires-clause-named
directory_of-requires-clause-named g c = c.in_ok-source.ensures.held.named

pub directory_of-requires-2-clause-named : goal.directory_of-requires-2-clause-named
directory_of-requires-2-clause-named g c = c.in_ok-target.ensures.held.named
