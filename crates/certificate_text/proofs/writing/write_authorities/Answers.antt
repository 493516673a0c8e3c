use Rattle.std.proofs.Common.{map}
use Rattle.certificate.specs.Views.{authority_of, version_of}
use Rattle.certificate_text.specs.Pieces.{in_order, authority_text}
use Rattle.certificate_text.proofs.GatheredLoops.{loop-end, loop-failed, loop-next}
use Rattle.certificate_text.proofs.Written.{passed_on}
use Rattle.certificate_text.proofs.writing.write_authorities.Goals as goal

pub returns-in_err-write_authority : goal.returns-in_err-write_authority
returns-in_err-write_authority g c =
    loop-failed authority_of (λ n. authority_text (version_of c.args.version)) c.args.authorities.now _ _ _ _ _ _ _ _ _ c.loop-authority.authority-index
    (in_order (λ n. authority_text (version_of c.args.version)) 0 (map authority_of c.args.authorities.now)) c.authority-item.result c.loop-authority-test.true c.authority-item.is
    c.loop-authority.invariant
    c.in_err-write_authority.field-0.0 _ (passed_on _ _ c.from_residual.ensures) c.in_err-write_authority.ensures

pub loop-authority-preserved : goal.loop-authority-preserved
loop-authority-preserved g c =
    loop-next authority_of (λ n. authority_text (version_of c.args.version)) c.args.authorities.now _ _ _ _ _ _ _ _ _ c.loop-authority.authority-index
    (in_order (λ n. authority_text (version_of c.args.version)) 0 (map authority_of c.args.authorities.now)) c.authority-item.result c.loop-authority-test.true c.authority-item.is
    c.loop-authority.invariant
    c.in_ok-write_authority.field-0 c.in_ok-write_authority.ensures

pub returns : goal.returns
returns g c = loop-end authority_of (λ n. authority_text (version_of c.args.version))
    c.args.authorities.now _ _ _ _ _ _ c.loop-authority.authority-index _ tt c.loop-authority-test.false c.loop-authority.invariant
