use Rattle.std.proofs.Common.{arith}
use Rattle.lookup.proofs.PathLaws.{last_at_slash, last_at_byte}
use Rattle.lookup.proofs.paths.last_name.Goals as goal
use Rattle.lookup.proofs.paths.last_name.Goals.{then-b-eq47, else-b-eq47}

pub loop-i-preserved : goal.loop-i-preserved
loop-i-preserved c =
    elim c.if-b-eq47.branch [
      | then-b-eq47 w ↦ record {
        within = omega arith;
        same = rw w.last-is (last_at_slash c.args.path.now c.loop-i.from c.loop-i.i c.if-b-eq47.from c.loop-i.last.now w.later-last.result.now _
            c.loop-i-test.true w.if-b-eq47.true w.from-is w.later-last.ensures c.loop-i.invariant.same);
      }
      | else-b-eq47 w ↦ record {
        within = omega arith;
        same = rw (w.last-is, w.from-is) (last_at_byte c.args.path.now c.loop-i.from c.loop-i.i c.loop-i.last.now _ c.loop-i.invariant.within
            c.loop-i-test.true w.if-b-eq47.false c.loop-i.invariant.same);
      }
    ]
