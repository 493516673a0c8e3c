use Rattle.std.proofs.Common.{ap, sym, ◌∙◌, map, subst}
use Rattle.std.specs.Prelude.{IfOk, option_map}
use Rattle.certificate.specs.Views.{bound_of}
use Rattle.instruction_set.specs.Views.{operand_of}
use Rattle.rules.specs.Slots.{slots_in}
use Rattle.rules.specs.Uses.{use_of}
use Rattle.transfer.specs.FailingViews.{open_slot_of}
use Rattle.transfer.specs.Tested.{AreFailing}
use Rattle.transfer.specs.Views.{need_of, through_of}
use Rattle.std.proofs.lemmas.Result.{IfOk-weaker}
use Rattle.transfer.proofs.Failures.{failing_map}
use Rattle.transfer.proofs.failing.failing_through.Goals as goal

pub returns-in-Some : goal.returns-in-Some
returns-in-Some g c =
    let test = g.T.UseTest.passes c.args.test.now in
    let b = bound_of c.args.bound.now in
    let through = c.in-Some.through in
    subst (λ o. IfOk c.failing_slots.result (λ found. AreFailing test b (option_map through_of o) (map open_slot_of found.items))) (sym c.in-Some.is)
    (IfOk-weaker c.failing_slots.result _ _
    (λ found is. ap (map (use_of b (need_of through.need))) is ∙ sym (failing_map test (use_of b (need_of through.need)) (slots_in b (operand_of through.operand))))
    c.failing_slots.ensures)
