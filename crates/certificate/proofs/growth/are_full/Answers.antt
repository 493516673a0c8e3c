use Rattle.std.proofs.Common.{sym, ◌∙◌}
use Rattle.certificate.specs.Lines.{is_full}
use Rattle.certificate.specs.Views.{interval_of}
use Rattle.certificate.proofs.Last.{step_false, step_true, steps_past}
use Rattle.certificate.proofs.growth.are_full.Goals as goal

pub returns-then-not-is_full : goal.returns-then-not-is_full
returns-then-not-is_full c =
    let xs = c.args.registers.now in
    let x = c.index-registers-at.result in
    sym (step_false interval_of is_full c.loop-at.at xs x c.loop-at-test.true c.index-registers-at.is (sym c.is_full.ensures ∙ c.if-not-is_full.true)) ∙ c.loop-at.invariant

pub loop-at-preserved : goal.loop-at-preserved
loop-at-preserved c =
    let xs = c.args.registers.now in
    let x = c.index-registers-at.result in
    step_true interval_of is_full c.loop-at.at xs x c.loop-at-test.true c.index-registers-at.is (sym c.is_full.ensures ∙ c.if-not-is_full.false) ∙ c.loop-at.invariant

pub returns : goal.returns
returns c = sym (steps_past interval_of is_full c.loop-at.at c.args.registers.now c.loop-at-test.false) ∙ c.loop-at.invariant
