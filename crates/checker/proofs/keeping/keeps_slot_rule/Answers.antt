use Rattle.std.proofs.Common.{◌∙◌, ap, sym}
use Rattle.std.specs.Prelude.{not}
use Rattle.certificate.specs.Views.{bound_of}
use Rattle.instruction_set.specs.Views.{syscall_of}
use Rattle.rules.specs.Demands.{Demands}
use Rattle.checker.specs.PointViews.{expansion_of}
use Rattle.checker.proofs.OneByOne.{always, in_mode, names_broken, names_kept}
use Rattle.checker.proofs.keeping.keeps_slot_rule.Goals as goal

pub returns-in-KnownObject : goal.returns-in-KnownObject
returns-in-KnownObject c =
    let at = c.args.at.now in
    c.in_the_mode.ensures
    ∙ in_mode at.of.now.task.now (expansion_of at.of.now) at.point (bound_of c.args.bound.now) (syscall_of c.args.call.now) c.args.rule c.in-KnownObject.is

pub returns-then-not-demanded : goal.returns-then-not-demanded
returns-then-not-demanded c =
    let at = c.args.at.now in
    c.all_uses_pass.ensures
    ∙ names_kept at.of.now.task.now (expansion_of at.of.now) at.point (bound_of c.args.bound.now) (syscall_of c.args.call.now) c.args.rule c.in-KnownNames.is
    (sym (ap (λ (d : Demands). not d.changes_global_names) c.demanded.ensures) ∙ c.if-not-demanded.true)

pub returns-else-not-demanded : goal.returns-else-not-demanded
returns-else-not-demanded c =
    let at = c.args.at.now in
    c.if-not-demanded.false
    ∙ names_broken at.of.now.task.now (expansion_of at.of.now) at.point (bound_of c.args.bound.now) (syscall_of c.args.call.now) c.args.rule c.in-KnownNames.is
    (sym (ap (λ (d : Demands). not d.changes_global_names) c.demanded.ensures) ∙ c.if-not-demanded.false)

pub returns-in-Rights : goal.returns-in-Rights
returns-in-Rights c =
    let at = c.args.at.now in
    c.all_uses_pass-in-Rights.ensures
    ∙ always at.of.now.task.now (expansion_of at.of.now) at.point (bound_of c.args.bound.now) (syscall_of c.args.call.now) c.args.rule c.in-Rights.is
