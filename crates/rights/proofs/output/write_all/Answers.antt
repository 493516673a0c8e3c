use Rattle.std.proofs.Common.{◌≡◌, ◌≤◌, ◌<◌, ◌-◌, arith, length, take, drop, length-drop, ap, ◌∙◌}
use Rattle.std.proofs.lemmas.List.{take_rest}
use Rattle.rights.proofs.Taken.{took_next, took_front}
use Rattle.rights.proofs.output.write_all.Goals as goal

pub loop-at-preserved : goal.loop-at-preserved
loop-at-preserved g c =
    let rest = take (length c.args.bytes.now - c.loop-at.at) (drop c.loop-at.at c.args.bytes.now) in
    let left : length rest ≡ length c.args.bytes.now - c.loop-at.at =
    ap length (take_rest c.args.bytes.now c.loop-at.at) ∙ length-drop c.loop-at.at c.args.bytes.now
    in
    let count_within : c.in-Ok.count ≤ length rest = c.in-Ok.ensures.within in
    let some : 0 < c.in-Ok.count = omega (arith, c.in-Ok.count-test.1) in
    record {
      within = omega arith;
      sent = took_next _ _ _ c.loop-at.at c.in-Ok.count c.args.bytes.now c.loop-at.invariant.sent c.in-Ok.ensures.taken;
      steady = c.in-Ok.ensures.steady some ∙ c.loop-at.invariant.steady;
    }

pub returns-in-Ok-eq0-clause-err : goal.returns-in-Ok-eq0-clause-err
returns-in-Ok-eq0-clause-err g c = took_front _ _ _ _ (took_next _ _ _ c.loop-at.at c.in-Ok-eq0.field-0 c.args.bytes.now c.loop-at.invariant.sent c.in-Ok-eq0.ensures.taken)

pub returns-in-Err-clause-err : goal.returns-in-Err-clause-err
returns-in-Err-clause-err g c = took_front _ _ c.loop-at.at c.args.bytes.now (c.in-Err.ensures.err_taken ∙ c.loop-at.invariant.sent)
