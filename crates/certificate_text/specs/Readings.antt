-- The certificate that bytes stand for, or the fault of the first faulty line. (own)
use Rattle.std.specs.Prelude.{ℕ, List, [], ◌∷◌, Option, Some, None, Result, Ok, Err, if◌then◌else◌}
use Rattle.std.specs.Str.{bytes_eq}
use Rattle.texts.specs.Bytes.{space}
use Rattle.texts.specs.Lines.{Line as TextLine, lines_of}
use Rattle.texts.specs.Parts.{parts}
use Rattle.certificate.specs.Bounds.{Version, One, Two, Three, Four, Certificate}
use Rattle.certificate.specs.Growth.{Refused, No_room, Out_of_order, empty, taken}
use Rattle.certificate.specs.Lines.{Line}
use Rattle.certificate_text.specs.Faults.{Fault, Syntax, Limit, Order, Faulty}
use Rattle.certificate_text.specs.Texts.{first_line, end_line}
use Rattle.certificate_text.specs.Words.{line_of_words}

-- the line that a text is in a certificate of a version
unfoldable pub line_of_text : Version → List ℕ → Result Line Fault
line_of_text version text = line_of_words version (parts space text)

-- what a certificate makes of a line: one more line of it, or the fault
abbrev pub line_taken : Result Certificate Refused → Result Certificate Fault
line_taken (Ok c) = Ok c
line_taken (Err No_room) = Err Limit
line_taken (Err Out_of_order) = Err Order

abbrev pub grown_by_line : Certificate → Result Line Fault → Result Certificate Fault
grown_by_line c (Ok line) = line_taken (taken c line)
grown_by_line c (Err fault) = Err fault

abbrev pub Reading : Type 0
Reading = Result Certificate Faulty

abbrev pub fails : Fault → ℕ → Reading
fails fault offset = Err (record { fault = fault; offset = offset })

-- goes on with the certificate, or fails at the line that begins there
abbrev pub going_on : ℕ → (Certificate → Reading) → Result Certificate Fault → Reading
going_on offset rest (Ok c) = rest c
going_on offset rest (Err fault) = fails fault offset

-- A text has a last line, which no line feed ends, so that what is said below of no line is never asked.
--
-- Behind `end` and its line feed there is nothing: a last line without a byte.
abbrev pub closed : Certificate → List TextLine → Reading
closed c [] = fails Syntax 0
closed c (line ∷ []) = if bytes_eq line.text [] then Ok c else fails Syntax line.offset
closed c (line ∷ next ∷ lines) = fails Syntax line.offset

-- The lines behind those that made a certificate. A line without a line feed is faulty, and so is the missing one
-- where there is no `end`.
unfoldable pub read_behind : Certificate → List TextLine → Reading
read_behind c [] = fails Syntax 0
read_behind c (line ∷ lines) =
    if line.is_ended
    then (if bytes_eq line.text end_line then closed c lines else going_on line.offset (λ d. read_behind d lines) (grown_by_line c (line_of_text c.version line.text)))
    else fails Syntax line.offset

-- the version that a first line tells, if it is one
abbrev pub version_of_line : List ℕ → Option Version
version_of_line text =
    if bytes_eq text (first_line One) then Some One
    else if bytes_eq text (first_line Two) then Some Two
    else if bytes_eq text (first_line Three) then Some Three
    else if bytes_eq text (first_line Four) then Some Four
    else None

-- The lines behind the first one, which begins there and may tell a version.
abbrev pub read_versioned : ℕ → Option Version → List TextLine → Reading
read_versioned offset (Some version) lines = read_behind (empty version) lines
read_versioned offset None lines = fails Syntax offset

abbrev pub read_lines : List TextLine → Reading
read_lines [] = fails Syntax 0
read_lines (line ∷ lines) =
    if line.is_ended then read_versioned line.offset (version_of_line line.text) lines else fails Syntax line.offset

unfoldable pub certificate_of_text : List ℕ → Reading
certificate_of_text text = read_lines (lines_of text)
