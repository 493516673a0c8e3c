-- What the code's reading comes to, want of memory aside.
use Rattle.std.specs.Prelude.{◌≡◌, ℕ, Bool, false, List, Option, Some, None, Result, Ok, Err, is_ok, if◌then◌else◌}
use Rattle.prog_asm.specs.declared.mistakes.Mistake.{Mistake as MistakeCode}
use Rattle.prog_asm.specs.declared.mistakes.Mistake.TheVariants as code
use Rattle.texts.specs.Names.{is_name}
use Rattle.instruction_set.specs.Assembly.{Line, Mistake, instruction_in, with_label}
use Rattle.instruction_set.specs.Assembly as assembly
use Rattle.prog_asm.specs.WordPlaces.{Span, Word}

-- A field is what it is read as, or stands for nothing.
abbrev pub FailsField : {Y : Type 0} → MistakeCode → Option Y → Type 0
FailsField code.Wrong field = field ≡ None
FailsField code.Memory field = Unit {0}

abbrev pub ReadsField : {X Y : Type 0} → (X → Y) → Result X MistakeCode → Option Y → Type 0
ReadsField view (Ok x) field = field ≡ Some (view x)
ReadsField view (Err mistake) field = FailsField mistake field

-- A line is what it is read as, or isn't read.
abbrev pub FailsReading : {Y : Type 0} → MistakeCode → Result Y Mistake → Type 0
FailsReading code.Wrong read = is_ok read ≡ false
FailsReading code.Memory read = Unit {0}

abbrev pub ReadsAssembly : {X Y : Type 0} → (X → Y) → Result X MistakeCode → Result Y Mistake → Type 0
ReadsAssembly view (Ok x) read = read ≡ Ok (view x)
ReadsAssembly view (Err mistake) read = FailsReading mistake read

-- The line with this label and these words behind it, in which a byte stands that no word has, or none.
abbrev pub line_of_parts : Bool → Option Span → Option Word → List (List ℕ) → Result Line Mistake
line_of_parts wide (Some stray) label words = Err assembly.Word
line_of_parts wide None None words = with_label None (instruction_in wide words)
line_of_parts wide None (Some label) words = if is_name label.text then with_label (Some label.text) (instruction_in wide words) else Err assembly.Word
