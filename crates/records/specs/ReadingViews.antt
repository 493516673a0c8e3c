-- What the code's reading comes to, want of memory aside.
use Rattle.std.specs.Prelude.{◌≡◌, Bool, Option, Some, None, Result, Ok, Err}
use Rattle.records.specs.declared.faults.LineFault.{LineFault}
use Rattle.records.specs.declared.faults.LineFault.TheVariants as line
use Rattle.records.specs.Readings.{WordField, Words}

-- It is what it is read as, or it isn't read.
abbrev pub FailsWords : {B : Type 0} → LineFault → Option B → Type 0
FailsWords line.Form read = read ≡ None
FailsWords line.Memory read = Unit {0}

abbrev pub Reads : {A B : Type 0} → (A → B) → Result A LineFault → Option B → Type 0
Reads view (Ok a) read = read ≡ Some (view a)
Reads view (Err fault) read = FailsWords fault read

-- A field is taken from the words, or they don't begin with one.
abbrev pub Takes : {A B : Type 0} → WordField B → (A → B) → Result A LineFault → Words → Words → Type 0
Takes field view (Ok a) before after = field before ≡ Some (view a, after)
Takes field view (Err fault) before after = FailsWords fault (field before)

-- what a test finds
abbrev pub Tests : Result Bool LineFault → Bool → Type 0
Tests (Ok is) test = is ≡ test
Tests (Err line.Form) test = ⊥
Tests (Err line.Memory) test = Unit {0}
