use Rattle.std.proofs.Common.{◌≤◌, sym, ◌∙◌, arith}
use Rattle.file_tree.proofs.PathLaws.{long_at}
use Rattle.file_tree.proofs.names.has_short_names.Goals as goal

pub returns-then-read-eq-MAX_NAME : goal.returns-then-read-eq-MAX_NAME
returns-then-read-eq-MAX_NAME c =
    let long : (255 ≤ c.loop-byte.read) = omega arith in
    sym (long_at c.args.text.now c.loop-byte.byte-index c.loop-byte.read c.loop-byte-test.true c.if-byte-eq47.false long) ∙ c.loop-byte.invariant.same
