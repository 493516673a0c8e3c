use Rattle.std.proofs.Common.{ℕ, List, ap, sym, ◌∙◌, ◌++◌}
use Rattle.certificate.specs.Bounds.{PointBound, ChannelBound, Authority, Version}
use Rattle.certificate_text.specs.Pieces.{authority_text, block_text, channel_text, in_order}
use Rattle.certificate_text.specs.Texts.{ended_line, first_line, end_line}
use Rattle.certificate_text.proofs.OneSpelling.{text-back, text-read}
use Rattle.certificate_text.proofs.Pieces.{whole-text}
use Rattle.certificate_text.proofs.GatheredTexts.{gathered-as, gathered-both, gathered-front}
use Rattle.certificate_text.proofs.Written.{passed_on}
use Rattle.certificate_text.proofs.writing.gather_cert.Goals as goal

-- what stands behind the first line
abbrev behind : Version → List PointBound → List ChannelBound → List Authority → List ℕ
behind version points channels authorities =
    in_order (λ n. block_text version) 0 points
    ++ (in_order (λ n. channel_text version) 0 channels ++ (in_order (λ n. authority_text version) 0 authorities ++ ended_line end_line))

pub returns-in_err-write_bytes-clause-written : goal.returns-in_err-write_bytes-clause-written
returns-in_err-write_bytes-clause-written g c =
    let cert = c.args.cert.now in
    let first = c.version_line.ensures ∙ ap (λ version. ended_line (first_line version)) c.version-version.ensures in
    gathered-as _ _ _ _ _ _ _ _ _
    (ap (λ line. line ++ behind cert.version cert.points cert.channels cert.authorities) first ∙ whole-text cert)
    (gathered-front _ _ _ _ _ _ _ _ c.in_err-write_bytes.field-0.0 _ (passed_on _ _ c.from_residual.ensures) c.in_err-write_bytes.ensures)

pub returns-in_err-write_bytes-clause-reads_back : goal.returns-in_err-write_bytes-clause-reads_back
returns-in_err-write_bytes-clause-reads_back g c = text-back c.args.cert.now c.points-points.ensures.valid

pub returns-in_err-write_bytes-clause-alone : goal.returns-in_err-write_bytes-clause-alone
returns-in_err-write_bytes-clause-alone g c text read = sym (text-read text c.args.cert.now read).0

pub returns-clause-written : goal.returns-clause-written
returns-clause-written g c =
    let cert = c.args.cert.now in
    let first = c.version_line.ensures ∙ ap (λ version. ended_line (first_line version)) c.version-version.ensures in
    gathered-as _ _ _ _ _ _ _ _ _
    ((λ i. first i ++ behind (c.version-version.ensures i) (c.points-points.ensures.points i) (c.channels-channels.ensures.channels i) (c.authorities-authorities.ensures.authorities i))
    ∙ whole-text cert)
    (gathered-both _ _ _ _ _ _ _ _ _ _ _ _ _ c.in_ok-write_bytes.ensures c.write_body.ensures)

pub returns-clause-reads_back : goal.returns-clause-reads_back
returns-clause-reads_back g c = text-back c.args.cert.now c.points-points.ensures.valid

pub returns-clause-alone : goal.returns-clause-alone
returns-clause-alone g c text read = sym (text-read text c.args.cert.now read).0
