-- What lines make of a certificate, one after another. (own)
use Rattle.std.specs.Prelude.{◌≡◌, List, [], ◌∷◌, Option, Some, None, Result, Ok, Err}
use Rattle.certificate.specs.Bounds.{PointBound, Authority, Certificate}
use Rattle.certificate.specs.Growth.{Refused, empty, taken}
use Rattle.certificate.specs.Lines.{Line, authority_lines, block_lines, lines_of}

abbrev pub grown_behind : (Certificate → Option Certificate) → Result Certificate Refused → Option Certificate
grown_behind rest (Ok c) = rest c
grown_behind rest (Err refused) = None

-- the certificate that has taken these lines too, if none is refused
unfoldable pub grown : List Line → Certificate → Option Certificate
grown [] c = Some c
grown (line ∷ lines) c = grown_behind (grown lines) (taken c line)

abbrev pub then_grown : (Certificate → Option Certificate) → Option Certificate → Option Certificate
then_grown rest None = None
then_grown rest (Some c) = rest c

-- the certificate that has taken these blocks too
unfoldable pub grown_by : List PointBound → Certificate → Option Certificate
grown_by [] c = Some c
grown_by (b ∷ points) c = then_grown (grown_by points) (grown (block_lines b) c)

-- the certificate that has taken these authorities too
unfoldable pub grown_with : List Authority → Certificate → Option Certificate
grown_with [] c = Some c
grown_with (a ∷ authorities) c = then_grown (grown_with authorities) (grown (authority_lines a) c)

-- A certificate is what its own lines make of nothing.
abbrev pub IsGrown : Certificate → Type 0
IsGrown c = grown (lines_of c) (empty c.version) ≡ Some c
