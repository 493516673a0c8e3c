use Rattle.std.proofs.Common.{◌+◌, map, drop, refl, ap, sym, ◌∙◌, arith}
use Rattle.std.specs.Prelude.{◌&&◌}
use Rattle.std.specs.List.{list_all}
use Rattle.std.proofs.lemmas.List.{at_drop_all}
use Rattle.certificate.specs.Views.{interval_of, slot_of}
use Rattle.rules.specs.Slots.{slots_from}
use Rattle.transfer.proofs.Stepping.{slot_passes}
use Rattle.transfer.proofs.asks.rest_pass.Goals as goal

pub loop-slot-init : goal.loop-slot-init
loop-slot-init g c = (omega arith, refl)

pub returns-then-not-one_passes : goal.returns-then-not-one_passes
returns-then-not-one_passes g c =
    let passes = g.T.SlotTest.passes c.args.test.now in
    let values = interval_of c.args.interval in
    let k = c.loop-slot.slot-index in
    let rest = slots_from (c.loop-slot.number + 1) values (map slot_of (drop (k + 1) c.args.slots.now)) in
    ap (λ first. first && list_all passes rest) (sym c.if-not-one_passes.true ∙ c.one_passes.ensures)
    ∙ sym (slot_passes passes values c.args.slots.now k c.slot-item.result c.loop-slot-test.true c.slot-item.is c.loop-slot.number)
    ∙ c.loop-slot.invariant.1

pub overflow_add-number : goal.overflow_add-number
overflow_add-number g c = omega (arith, c.requires, c.loop-slot.invariant.0, c.loop-slot-test.true)

pub loop-slot-preserved : goal.loop-slot-preserved
loop-slot-preserved g c =
    let passes = g.T.SlotTest.passes c.args.test.now in
    let values = interval_of c.args.interval in
    let k = c.loop-slot.slot-index in
    let rest = slots_from (c.loop-slot.number + 1) values (map slot_of (drop (k + 1) c.args.slots.now)) in (
      omega (arith, c.loop-slot.invariant.0),
      ap (λ first. first && list_all passes rest) (sym c.if-not-one_passes.false ∙ c.one_passes.ensures)
          ∙ sym (slot_passes passes values c.args.slots.now k c.slot-item.result c.loop-slot-test.true c.slot-item.is c.loop-slot.number)
          ∙ c.loop-slot.invariant.1,
    )

pub returns : goal.returns
returns g c =
    let passes = g.T.SlotTest.passes c.args.test.now in
    let values = interval_of c.args.interval in
    sym (at_drop_all (λ slots. list_all passes (slots_from c.loop-slot.number values (map slot_of slots))) c.args.slots.now c.loop-slot.slot-index c.loop-slot-test.false)
    ∙ c.loop-slot.invariant.1
