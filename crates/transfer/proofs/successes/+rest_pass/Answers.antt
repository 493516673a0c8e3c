use Rattle.std.proofs.Common.{◌+◌, ◌-◌, length, map, drop, take, sym, subst}
use Rattle.std.specs.List.{flat_map}
use Rattle.certificate.specs.Views.{interval_of, slot_of}
use Rattle.rules.specs.Slots.{slots_from}
use Rattle.transfer.specs.Kept.{TestsEach}
use Rattle.transfer.specs.SiteViews.{acted}
use Rattle.transfer.specs.Tested.{slot_at}
use Rattle.transfer.proofs.EachTested.{both_tested, first_failed, first_slot}
use Rattle.transfer.proofs.successes.+rest_pass.Goals as goal

pub returns-then-one_passes : goal.returns-then-one_passes
returns-then-one_passes g t c =
    let test = g.T.OutcomeVisitor in
    let leads = acted c.args.acting.now.site.now c.args.acting.now.act in
    let values = interval_of c.args.interval in
    let split = first_slot leads c.args.number values c.args.slots.now c.slot-item.result c.in-len1-up.len_at_least c.slot-item.is in
    subst (λ outcomes. TestsEach test.passes test.joins test.kept c.args.visitor.now c.rest_pass.new.visitor c.rest_pass.result outcomes) (sym split)
    (both_tested test.passes test.joins test.kept c.args.visitor.now c.one_passes.new.visitor c.rest_pass.new.visitor c.one_passes.result c.rest_pass.result
    (flat_map leads (slot_at c.args.number values (slot_of c.slot-item.result)))
    (flat_map leads (slots_from (c.args.number + 1) values (map slot_of (take (length c.args.slots.now - 1) (drop 1 c.args.slots.now)))))
    c.if-one_passes.true c.one_passes.ensures c.rest_pass.ensures)

pub returns-else-one_passes : goal.returns-else-one_passes
returns-else-one_passes g t c =
    let test = g.T.OutcomeVisitor in
    let leads = acted c.args.acting.now.site.now c.args.acting.now.act in
    let values = interval_of c.args.interval in
    let split = first_slot leads c.args.number values c.args.slots.now c.slot-item.result c.in-len1-up.len_at_least c.slot-item.is in
    subst (λ outcomes. TestsEach test.passes test.joins test.kept c.args.visitor.now c.one_passes.new.visitor c.one_passes.result outcomes) (sym split)
    (first_failed test.passes test.joins test.kept c.args.visitor.now c.one_passes.new.visitor c.one_passes.result
    (flat_map leads (slot_at c.args.number values (slot_of c.slot-item.result)))
    (flat_map leads (slots_from (c.args.number + 1) values (map slot_of (take (length c.args.slots.now - 1) (drop 1 c.args.slots.now)))))
    c.if-one_passes.false c.one_passes.ensures)
