use Rattle.std.proofs.Common.{map}
use Rattle.certificate.specs.Views.{point_of, version_of}
use Rattle.certificate_text.specs.Pieces.{in_order, block_text}
use Rattle.certificate_text.proofs.GatheredLoops.{loop-end, loop-failed, loop-next}
use Rattle.certificate_text.proofs.Written.{passed_on}
use Rattle.certificate_text.proofs.writing.write_points.Goals as goal

pub returns-in_err-write_block : goal.returns-in_err-write_block
returns-in_err-write_block g c =
    loop-failed point_of (λ n. block_text (version_of c.args.version)) c.args.points.now _ _ _ _ _ _ _ _ _ c.loop-point.point-index
    (in_order (λ n. block_text (version_of c.args.version)) 0 (map point_of c.args.points.now)) c.point-item.result c.loop-point-test.true c.point-item.is
    c.loop-point.invariant
    c.in_err-write_block.field-0.0 _ (passed_on _ _ c.from_residual.ensures) c.in_err-write_block.ensures

pub loop-point-preserved : goal.loop-point-preserved
loop-point-preserved g c =
    loop-next point_of (λ n. block_text (version_of c.args.version)) c.args.points.now _ _ _ _ _ _ _ _ _ c.loop-point.point-index
    (in_order (λ n. block_text (version_of c.args.version)) 0 (map point_of c.args.points.now)) c.point-item.result c.loop-point-test.true c.point-item.is
    c.loop-point.invariant
    c.in_ok-write_block.field-0 c.in_ok-write_block.ensures

pub returns : goal.returns
returns g c = loop-end point_of (λ n. block_text (version_of c.args.version)) c.args.points.now _ _ _ _ _ _ c.loop-point.point-index _ tt c.loop-point-test.false c.loop-point.invariant
