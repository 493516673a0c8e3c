use Rattle.std.proofs.Common.{map}
use Rattle.certificate.specs.Views.{ceiling_of, version_of}
use Rattle.certificate_text.specs.Pieces.{in_order, ceiling_text}
use Rattle.certificate_text.proofs.GatheredLoops.{loop-end, loop-failed, loop-next}
use Rattle.certificate_text.proofs.Written.{passed_on}
use Rattle.certificate_text.proofs.writing.write_ceilings.Goals as goal

pub returns-in_err-write_ceiling : goal.returns-in_err-write_ceiling
returns-in_err-write_ceiling g c =
    loop-failed ceiling_of (λ n. ceiling_text (version_of c.args.version)) c.args.ceilings.now _ _ _ _ _ _ _ _ _ c.loop-ceiling.ceiling-index
    (in_order (λ n. ceiling_text (version_of c.args.version)) 0 (map ceiling_of c.args.ceilings.now)) c.ceiling-item.result c.loop-ceiling-test.true c.ceiling-item.is
    c.loop-ceiling.invariant
    c.in_err-write_ceiling.field-0.0 _ (passed_on _ _ c.from_residual.ensures) c.in_err-write_ceiling.ensures

pub loop-ceiling-preserved : goal.loop-ceiling-preserved
loop-ceiling-preserved g c =
    loop-next ceiling_of (λ n. ceiling_text (version_of c.args.version)) c.args.ceilings.now _ _ _ _ _ _ _ _ _ c.loop-ceiling.ceiling-index
    (in_order (λ n. ceiling_text (version_of c.args.version)) 0 (map ceiling_of c.args.ceilings.now)) c.ceiling-item.result c.loop-ceiling-test.true c.ceiling-item.is
    c.loop-ceiling.invariant
    c.in_ok-write_ceiling.field-0 c.in_ok-write_ceiling.ensures

pub returns : goal.returns
returns g c = loop-end ceiling_of (λ n. ceiling_text (version_of c.args.version)) c.args.ceilings.now _ _ _ _ _ _ c.loop-ceiling.ceiling-index _ tt c.loop-ceiling-test.false c.loop-ceiling.invariant
