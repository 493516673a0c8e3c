-- What the code's reading of a certificate comes to.
use Rattle.std.specs.Prelude.{◌≡◌, ℕ, List, [], ◌∷◌, codes, Result, Ok, Err}
use Rattle.std.specs.Borrow.{Bor}
use Rattle.certificate_text.specs.declared.faults.LineFault.{LineFault}
use Rattle.certificate_text.specs.declared.faults.LineFault.TheVariants as line
use Rattle.certificate_text.specs.declared.faults.CertFault.{CertFault}
use Rattle.certificate_text.specs.declared.faults.CertFault.TheVariants as faults
use Rattle.certificate_text.specs.Faults.{Fault, Syntax, Limit, Order}
use Rattle.certificate.specs.declared.bounds.RightsRange.{RightsRange}
use Rattle.certificate.specs.declared.bounds.FcntlsRange.{FcntlsRange}
use Rattle.certificate.specs.Bounds.{Certificate}
use Rattle.certificate_text.specs.Readings.{Reading, fails}

abbrev pub fault_of : LineFault → Fault
fault_of line.Syntax = Syntax
fault_of line.Limit = Limit

abbrev pub faulty_at : LineFault → ℕ → CertFault
faulty_at line.Syntax offset = faults.Syntax offset
faulty_at line.Limit offset = faults.Limit offset

abbrev pub fault_number : CertFault → ℕ
fault_number (faults.Syntax offset) = 1
fault_number (faults.Limit offset) = 2
fault_number (faults.Order offset) = 3
fault_number faults.Memory = 4

abbrev pub fault_name : CertFault → List ℕ
fault_name (faults.Syntax offset) = codes "Syntax"
fault_name (faults.Limit offset) = codes "Limit"
fault_name (faults.Order offset) = codes "Order"
fault_name faults.Memory = codes "Memory"

-- the least and the greatest set
abbrev pub rights_in : RightsRange → ℕ × ℕ
rights_in range = (range.least.0, range.greatest.0)

abbrev pub fcntls_in : FcntlsRange → ℕ × ℕ
fcntls_in range = (range.least.0, range.greatest.0)

-- The next word of those that were left, or Syntax where none was.
abbrev pub IsNextWord : Result (Bor (List ℕ)) LineFault → List (List ℕ) → List (List ℕ) → Type 0
IsNextWord (Ok word) before after = before ≡ word.now ∷ after
IsNextWord (Err line.Syntax) before after = (before ≡ []) × (after ≡ [])
IsNextWord (Err line.Limit) before after = ⊥

-- What a line makes of a certificate, or the fault of the line, which begins there; want of memory aside.
abbrev pub TakesLine : Result (Unit {0}) CertFault → Certificate → ℕ → Result Certificate Fault → Type 0
TakesLine (Ok _) new offset answer = answer ≡ Ok new
TakesLine (Err (faults.Syntax n)) new offset answer = (answer ≡ Err Syntax) × (n ≡ offset)
TakesLine (Err (faults.Limit n)) new offset answer = (answer ≡ Err Limit) × (n ≡ offset)
TakesLine (Err (faults.Order n)) new offset answer = (answer ≡ Err Order) × (n ≡ offset)
TakesLine (Err faults.Memory) new offset answer = Unit {0}

-- What lines make of a certificate, or the fault of the first faulty one; want of memory aside.
abbrev pub MakesCert : Result (Unit {0}) CertFault → Certificate → Reading → Type 0
MakesCert (Ok _) new reading = reading ≡ Ok new
MakesCert (Err (faults.Syntax n)) new reading = reading ≡ fails Syntax n
MakesCert (Err (faults.Limit n)) new reading = reading ≡ fails Limit n
MakesCert (Err (faults.Order n)) new reading = reading ≡ fails Order n
MakesCert (Err faults.Memory) new reading = Unit {0}

-- A certificate, or a fault, want of memory aside.
abbrev pub ReadsCert : Result Certificate CertFault → Reading → Type 0
ReadsCert (Ok certificate) reading = reading ≡ Ok certificate
ReadsCert (Err (faults.Syntax n)) reading = reading ≡ fails Syntax n
ReadsCert (Err (faults.Limit n)) reading = reading ≡ fails Limit n
ReadsCert (Err (faults.Order n)) reading = reading ≡ fails Order n
ReadsCert (Err faults.Memory) reading = Unit {0}
