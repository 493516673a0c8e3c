use Rattle.std.proofs.Common.{arith}
use Rattle.file_tree.proofs.PathLaws.{none_begun, name_at_slash, slash_next, byte_next, name_at_end, no_name}
use Rattle.link_tree.proofs.climbs.first_name.Goals as goal
use Rattle.link_tree.proofs.climbs.first_name.Goals.{then-b-eq47+else-from-i, else-b-eq47}

pub loop-i-init : goal.loop-i-init
loop-i-init c = record { within = omega arith; same = none_begun c.args.path.now }

pub returns-then-from-i : goal.returns-then-from-i
returns-then-from-i c = name_at_slash c.args.path.now c.loop-i.from c.loop-i.i c.if-from-i.true c.loop-i-test.true c.if-b-eq47.true c.loop-i.invariant.same

pub loop-i-preserved : goal.loop-i-preserved
loop-i-preserved c =
    elim c.if-b-eq47.branch [
      | then-b-eq47+else-from-i w ↦ record {
        within = omega arith;
        same = rw w.from-is (slash_next c.args.path.now c.loop-i.from c.loop-i.i w.if-from-i.false c.loop-i.invariant.within c.loop-i-test.true w.if-b-eq47.true c.loop-i.invariant.same);
      }
      | else-b-eq47 w ↦ record {
        within = omega arith;
        same = rw w.from-is (byte_next c.args.path.now c.loop-i.from c.loop-i.i c.loop-i.invariant.within c.loop-i-test.true w.if-b-eq47.false c.loop-i.invariant.same);
      }
    ]

pub returns-then-from-path : goal.returns-then-from-path
returns-then-from-path c = name_at_end c.args.path.now c.loop-i.from c.loop-i.i c.if-from-path.true c.loop-i-test.false c.loop-i.auto.i-end c.loop-i.invariant.same

pub returns : goal.returns
returns c = no_name c.args.path.now c.loop-i.from c.loop-i.i c.if-from-path.false c.loop-i-test.false c.loop-i.auto.i-end c.loop-i.invariant.same
