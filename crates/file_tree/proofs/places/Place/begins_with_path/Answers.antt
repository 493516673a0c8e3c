use Rattle.std.proofs.Common.{arith, ap, ◌∙◌}
use Rattle.std.specs.Prelude.{◌&&◌}
use Rattle.file_tree.specs.Places.{begins}
use Rattle.file_tree.proofs.PathLaws.{after_slash, after_byte}
use Rattle.file_tree.proofs.places.Place.begins_with_path.Goals as goal
use Rattle.file_tree.proofs.places.Place.begins_with_path.Goals.{then-byte-eq47+else-not-takes_name, else-byte-eq47}

pub loop-i-preserved : goal.loop-i-preserved
loop-i-preserved c =
    elim c.if-byte-eq47.branch [
      | then-byte-eq47+else-not-takes_name w ↦ record {
        within = omega arith;
        same = rw w.names-is (after_slash c.args.path.now c.loop-i.from c.loop-i.i c.if-byte-eq47.from c.loop-i.names
            w.takes_name.new.names _ c.loop-i-test.true w.if-byte-eq47.true w.from-is
            (λ names. w.takes_name.ensures names ∙ ap (λ taken. taken && begins names w.takes_name.new.names) w.if-not-takes_name.false) c.loop-i.invariant.same);
      }
      | else-byte-eq47 w ↦ record {
        within = omega arith;
        same = rw (w.names-is, w.from-is) (after_byte c.args.path.now c.loop-i.from c.loop-i.i c.loop-i.names _ c.loop-i.invariant.within
            c.loop-i-test.true w.if-byte-eq47.false c.loop-i.invariant.same);
      }
    ]
