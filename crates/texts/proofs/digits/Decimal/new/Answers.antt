use Rattle.std.proofs.Common.{◌≤◌, ◌<◌, ◌^◌, ◌-◌, ◌+◌, ◌%◌, length, ◌∙◌, arith, length-set}
use Rattle.texts.proofs.DecimalSteps.{fits-before, highest-digit, lowest-digit}
use Rattle.texts.proofs.digits.Decimal.new.Goals as goal

pub loop-rest-preserved : goal.loop-rest-preserved
loop-rest-preserved c =
    let loop = c.loop-rest in
    let held = loop.invariant in
    let room : loop.start ≤ length loop.digits = omega (arith, held.whole, held.in_room) in
    let before = fits-before loop.rest loop.start c.loop-rest-test.true held.fits in
    let small : loop.rest < 2 ^ 32 = omega (arith, loop.auto.rest-fits) in
    record {
      whole = length-set loop.digits (loop.start - 1) (48 + loop.rest % 10) ∙ held.whole;
      in_room = omega (arith, held.in_room);
      some = before.0;
      fits = before.1;
      written = lowest-digit loop.rest loop.start loop.digits c.loop-rest-test.true small held.some room ∙ held.written;
    }

pub returns : goal.returns
returns c =
    let loop = c.loop-rest in
    let held = loop.invariant in
    let room : loop.start ≤ length loop.digits = omega (arith, held.whole, held.in_room) in
    let one : loop.rest < 10 = omega (arith, c.loop-rest-test.false) in
    highest-digit loop.rest loop.start loop.digits one held.some room ∙ held.written
