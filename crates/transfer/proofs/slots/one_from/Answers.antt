use Rattle.std.proofs.Common.{map, refl, sym, ◌∙◌, arith}
use Rattle.std.proofs.lemmas.List.{at_drop_all}
use Rattle.certificate.specs.Views.{slot_of}
use Rattle.rules.specs.Slots.{free_from}
use Rattle.transfer.proofs.Stepping.{slot_free}
use Rattle.transfer.proofs.slots.one_from.Goals as goal

pub loop-slot-init : goal.loop-slot-init
loop-slot-init c = (omega arith, refl)

pub returns-in-Closed-clause-numbers : goal.returns-in-Closed-clause-numbers
returns-in-Closed-clause-numbers c =
    sym (slot_free c.args.slots.now c.loop-slot.slot-index c.slot-item.result _ c.loop-slot-test.true c.slot-item.is c.in-Closed.is c.loop-slot.number)
    ∙ c.loop-slot.invariant.1

pub overflow_add-number : goal.overflow_add-number
overflow_add-number c = omega (arith, c.requires, c.loop-slot.invariant.0, c.loop-slot-test.true)

pub returns-in-Maybe-clause-numbers : goal.returns-in-Maybe-clause-numbers
returns-in-Maybe-clause-numbers c =
    sym (slot_free c.args.slots.now c.loop-slot.slot-index c.slot-item.result _ c.loop-slot-test.true c.slot-item.is c.in-Maybe.is c.loop-slot.number)
    ∙ c.loop-slot.invariant.1

pub loop-slot-preserved : goal.loop-slot-preserved
loop-slot-preserved c = (
  omega (arith, c.loop-slot.invariant.0),
  sym (slot_free c.args.slots.now c.loop-slot.slot-index c.slot-item.result _ c.loop-slot-test.true c.slot-item.is c.in-Open.is c.loop-slot.number)
      ∙ c.loop-slot.invariant.1,
)

pub returns-clause-numbers : goal.returns-clause-numbers
returns-clause-numbers c =
    sym (at_drop_all (λ slots. free_from 1 c.loop-slot.number (map slot_of slots)) c.args.slots.now c.loop-slot.slot-index c.loop-slot-test.false)
    ∙ c.loop-slot.invariant.1
