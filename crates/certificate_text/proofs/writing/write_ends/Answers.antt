use Rattle.std.proofs.Common.{map}
use Rattle.certificate.specs.Views.{held_end_of, version_of}
use Rattle.certificate_text.specs.Pieces.{in_order, end_text}
use Rattle.certificate_text.proofs.GatheredLoops.{loop-end, loop-failed, loop-next}
use Rattle.certificate_text.proofs.Written.{passed_on}
use Rattle.certificate_text.proofs.writing.write_ends.Goals as goal

pub returns-in_err-write_end : goal.returns-in_err-write_end
returns-in_err-write_end g c =
    loop-failed held_end_of (λ n. end_text (version_of c.args.version)) c.args.holds.now _ _ _ _ _ _ _ _ _ c.loop-held.held-index
    (in_order (λ n. end_text (version_of c.args.version)) 0 (map held_end_of c.args.holds.now)) c.held-item.result c.loop-held-test.true c.held-item.is
    c.loop-held.invariant
    c.in_err-write_end.field-0.0 _ (passed_on _ _ c.from_residual.ensures) c.in_err-write_end.ensures

pub loop-held-preserved : goal.loop-held-preserved
loop-held-preserved g c =
    loop-next held_end_of (λ n. end_text (version_of c.args.version)) c.args.holds.now _ _ _ _ _ _ _ _ _ c.loop-held.held-index
    (in_order (λ n. end_text (version_of c.args.version)) 0 (map held_end_of c.args.holds.now)) c.held-item.result c.loop-held-test.true c.held-item.is
    c.loop-held.invariant
    c.in_ok-write_end.field-0 c.in_ok-write_end.ensures

pub returns : goal.returns
returns g c = loop-end held_end_of (λ n. end_text (version_of c.args.version)) c.args.holds.now _ _ _ _ _ _ c.loop-held.held-index _ tt c.loop-held-test.false c.loop-held.invariant
