use Rattle.std.proofs.Common.{ap, sym, ◌∙◌}
use Rattle.std.specs.Prelude.{option_map}
use Rattle.certificate.specs.Views.{bound_of}
use Rattle.rules.specs.Channels.{all_have_channels}
use Rattle.rules.specs.Slots.{slots_in}
use Rattle.rules.specs.Uses.{uses_through}
use Rattle.instruction_set.specs.Views.{operand_of}
use Rattle.transfer.specs.Views.{need_of, passed_of, through_of}
use Rattle.transfer.proofs.NothingPassed.{nothing_passed}
use Rattle.transfer.proofs.channels.through_has_channels.Goals as goal

pub returns-in-Nothing : goal.returns-in-Nothing
returns-in-Nothing c =
    let b = bound_of c.args.bound.now in
    let used = c.in-Some.used in
    sym (ap (λ through. all_have_channels c.args.cert.now (uses_through b (option_map through_of through))) c.in-Some.is
    ∙ nothing_passed c.args.cert.now b (need_of used.need) (ap passed_of c.in-Nothing.is) (slots_in b (operand_of used.operand)))
