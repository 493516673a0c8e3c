use Rattle.std.proofs.Common.{◌+◌, ◌∙◌, ap, sym}
use Rattle.std.specs.Prelude.{option_map}
use Rattle.rights.proofs.Lists.{list_all-slice_get}
use Rattle.certificate.specs.Views.{bound_of}
use Rattle.texts.specs.Views.{name_of}
use Rattle.instruction_set.specs.Views.{code_of, instruction_of}
use Rattle.std.specs.List.{slice_get}
use Rattle.rules.specs.Expansions.{carried_by, code_named, may_carry}
use Rattle.transfer.specs.Limits.{leaves_known}
use Rattle.checker.proofs.Standing.{carried_is}
use Rattle.checker.proofs.carrying.carried_past.Goals as goal

pub carried_on-requires : goal.carried_on-requires
carried_on-requires c =
    list_all-slice_get leaves_known (code_of c.args.code.now) c.args.point (instruction_of c.in_ok-instruction.instruction.now) c.requires.known
    (sym c.in_ok-instruction.ensures)

pub returns : goal.returns
returns c =
    c.carried_on.ensures
    ∙ carried_is c.args.task.now c.args.cert.now (name_of c.args.name.now) c.args.point (code_of c.args.code.now)
    (instruction_of c.in_ok-instruction.instruction.now) (bound_of c.in_ok-bound.bound.now) c.requires.named (sym c.in_ok-instruction.ensures)
    (ap (λ v. may_carry v (code_of c.args.code.now) (c.args.point + 1)) (sym c.version.ensures) ∙ sym c.may_carry.ensures ∙ c.if-not-may_carry.false)
    ∙ ap (λ b. carried_by c.args.task.now c.args.cert.now (name_of c.args.name.now) c.args.point
    (slice_get (code_named c.args.task.now.programs (name_of c.args.name.now)) c.args.point) (option_map bound_of b)) c.in_ok-bound.ensures.value
