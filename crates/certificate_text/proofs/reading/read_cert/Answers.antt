use Rattle.std.proofs.Common.{◌≡◌, ℕ, List, subst}
use Rattle.std.specs.Prelude.{IfOk, Result, Ok, Err}
use Rattle.certificate.specs.Bounds.{Certificate}
use Rattle.certificate_text.specs.Readings.{certificate_of_text, read_lines}
use Rattle.certificate_text.specs.Texts.{certificate_text}
use Rattle.certificate_text.specs.Views.{ReadsCert}
use Rattle.certificate_text.specs.declared.faults.CertFault.{CertFault}
use Rattle.certificate_text.proofs.OneSpelling.{text-read}
use Rattle.certificate_text.proofs.reading.read_cert.Goals as goal

-- bytes that are read as a certificate are its text
spelled : (text : List ℕ) (r : Result Certificate CertFault) → ReadsCert r (certificate_of_text text) → IfOk r (λ c. certificate_text c ≡ text)
spelled text (Ok c) reads = (text-read text c reads).0
spelled text (Err fault) reads = tt

pub returns-clause-one_spelling : goal.returns-clause-one_spelling
unfolding certificate_of_text
returns-clause-one_spelling c =
    spelled c.args.bytes.now c.read_lines.result (subst (λ lines. ReadsCert c.read_lines.result (read_lines lines)) c.new.ensures.lines c.read_lines.ensures)
