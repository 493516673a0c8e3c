use Rattle.std.proofs.Common.{◌≡◌, ℕ, List, true, ap, sym, ◌∙◌}
use Rattle.std.specs.Prelude.{IfOk, Result, Ok, Err}
use Rattle.std.specs.Result.{result_map_both}
use Rattle.certificate.specs.Bounds.{Version}
use Rattle.certificate.specs.Lines.{is_line, is_of_version}
use Rattle.certificate.specs.Views.{line_of, version_of}
use Rattle.certificate.specs.declared.lines.Line.{Line}
use Rattle.certificate_text.specs.Readings.{line_of_text}
use Rattle.certificate_text.specs.Words.{line_of_words}
use Rattle.certificate_text.specs.Views.{fault_of}
use Rattle.certificate_text.specs.declared.faults.LineFault.{LineFault}
use Rattle.certificate_text.proofs.LineText.{line-text}
use Rattle.certificate_text.proofs.lines.read_line.Goals as goal

-- what bytes are read as is a line of the version
record IsRead (version : Version) (r : Result Line LineFault) : Type 0 where
  valid : IfOk r (λ line. is_line (line_of line) ≡ true)
  own : IfOk r (λ line. is_of_version version (line_of line) ≡ true)

is_read : (version : Version) (text : List ℕ) (r : Result Line LineFault) → result_map_both line_of fault_of r ≡ line_of_text version text → IsRead version r
is_read version text (Ok line) is =
    let fact = line-text version text (line_of line) (sym is) in record { valid = fact.1; own = fact.2 }
is_read version text (Err fault) is = record { valid = tt; own = tt }

pub returns-clause-valid : goal.returns-clause-valid
unfolding line_of_text
returns-clause-valid c =
    let version = version_of c.args.version in
    (is_read version c.args.text.now c.read_words.result (c.read_words.ensures ∙ ap (line_of_words version) c.new.ensures)).valid

pub returns-clause-version : goal.returns-clause-version
unfolding line_of_text
returns-clause-version c =
    let version = version_of c.args.version in
    (is_read version c.args.text.now c.read_words.result (c.read_words.ensures ∙ ap (line_of_words version) c.new.ensures)).own
