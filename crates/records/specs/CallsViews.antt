-- What the code reads a text as, want of memory aside.
use Rattle.std.specs.Prelude.{◌≡◌, Result, Ok, Err}
use Rattle.records.specs.declared.faults.CallsFault.{CallsFault}
use Rattle.records.specs.declared.faults.CallsFault.TheVariants as faults
use Rattle.records.specs.Calls.{RecordedCalls}
use Rattle.records.specs.Readings.{CallsReading, faulty, Form, Counts, NoEnd, Behind}

abbrev pub FailsCalls : CallsFault → CallsReading → Type 0
FailsCalls (faults.Form line) reading = reading ≡ faulty Form line
FailsCalls (faults.Counts line) reading = reading ≡ faulty Counts line
FailsCalls (faults.NoEnd line) reading = reading ≡ faulty NoEnd line
FailsCalls (faults.Behind line) reading = reading ≡ faulty Behind line
FailsCalls faults.Memory reading = Unit {0}

-- They are the calls, or it is the first fault.
abbrev pub ReadsCalls : {A : Type 0} → (A → RecordedCalls) → Result A CallsFault → CallsReading → Type 0
ReadsCalls view (Ok a) reading = reading ≡ Ok (view a)
ReadsCalls view (Err fault) reading = FailsCalls fault reading
