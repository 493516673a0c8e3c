use Rattle.std.proofs.Common.{sym, ◌∙◌}
use Rattle.certificate.specs.Lines.{is_closed}
use Rattle.certificate.specs.Views.{slot_of}
use Rattle.certificate.proofs.Last.{step_false, step_true, steps_past}
use Rattle.certificate.proofs.growth.are_closed.Goals as goal

pub returns-then-not-is_closed : goal.returns-then-not-is_closed
returns-then-not-is_closed c =
    let xs = c.args.slots.now in
    let x = c.index-slots-at.result in
    sym (step_false slot_of is_closed c.loop-at.at xs x c.loop-at-test.true c.index-slots-at.is (sym c.is_closed.ensures ∙ c.if-not-is_closed.true)) ∙ c.loop-at.invariant

pub loop-at-preserved : goal.loop-at-preserved
loop-at-preserved c =
    let xs = c.args.slots.now in
    let x = c.index-slots-at.result in
    step_true slot_of is_closed c.loop-at.at xs x c.loop-at-test.true c.index-slots-at.is (sym c.is_closed.ensures ∙ c.if-not-is_closed.false) ∙ c.loop-at.invariant

pub returns : goal.returns
returns c = sym (steps_past slot_of is_closed c.loop-at.at c.args.slots.now c.loop-at-test.false) ∙ c.loop-at.invariant
