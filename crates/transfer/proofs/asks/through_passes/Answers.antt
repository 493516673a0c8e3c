use Rattle.std.proofs.Common.{sym, ◌∙◌}
use Rattle.std.proofs.lemmas.List.Folds.{list_all-map}
use Rattle.certificate.specs.Views.{bound_of}
use Rattle.instruction_set.specs.Views.{operand_of}
use Rattle.rules.specs.Slots.{slots_in}
use Rattle.rules.specs.Uses.{use_of}
use Rattle.transfer.specs.Views.{need_of}
use Rattle.transfer.proofs.asks.through_passes.Goals as goal

pub returns-in-Some : goal.returns-in-Some
returns-in-Some g c =
    let b = bound_of c.args.bound.now in
    let t = c.in-Some.through in
    let mapped = list_all-map (g.T.UseTest.passes c.args.test.now) (use_of b (need_of t.need)) (slots_in b (operand_of t.operand)) in
    rw c.in-Some.is (c.all_slots_pass.ensures ∙ sym mapped)
