-- All that is wrong with a text of the language, and where. A line that is wrong by itself counts as a `halt` behind its label, and a second label as none, so
-- what stands on the other lines is judged as if these were mended. The first is the fault of `assembly_in`. (own)
use Rattle.std.specs.Prelude.{ℕ, ◌+◌, ◌-◌, ◌==◌, Bool, false, not, ◌||◌, List, [], ◌∷◌, ◌++◌, length, map, Option, Some, None, is_none, is_some, option_map, Result, Ok, Err, if◌then◌else◌}
use Rattle.std.specs.List.{flat_map, slice_get}
use Rattle.texts.specs.Bytes.{colon}
use Rattle.texts.specs.Names.{is_name}
use Rattle.instruction_set.specs.Assembly.{Fault, FallsOff, Line, Mistake, NoLabel, Operand, Step, TooMany, TwiceLabel, fault, is_one_too_many, is_twice, last_line_number}
use Rattle.instruction_set.specs.Assembly.{line_read, line_with, point_named, steps_of}
use Rattle.instruction_set.specs.Assembly as assembly
use Rattle.instruction_set.specs.Fields.{before_last}
use Rattle.instruction_set.specs.Forms.{Alone, Leading, Mnemonic, Written, led, mnemonic_of}
use Rattle.instruction_set.specs.Lines.{is_blank, is_word_byte, quoted_behind, text_lines, uncommented}
use Rattle.instruction_set.specs.Programs.{Halt, is_last}
use Rattle.prog_asm.specs.OperandForms.{Form, Unfit, first_unfit, forms_of}
use Rattle.prog_asm.specs.WordPlaces.{Span, Word, words_on}

-- What is wrong on a line, where, and what is wanted there, if that is a form.
pub record Wrong : Type 0 where
  pub mistake : Mistake
  pub span : Span
  pub wants : Option Form

abbrev pub wrong_word : Span → Wrong
wrong_word span = record { mistake = assembly.Word; span = span; wants = None }

-- the first byte outside quotes that is neither a blank nor one that words have
abbrev pub stray_from : Bool → ℕ → List ℕ → Option Span
stray_from quoted at [] = None
stray_from quoted at (b ∷ line) =
    if not (quoted || is_blank b || is_word_byte b) then Some (record { start = at; end = at + 1 }) else stray_from (quoted_behind quoted b) (at + 1) line

abbrev pub stray_in : List ℕ → Option Span
stray_in line = stray_from false 0 line

-- the label, good or not, that words begin with, without its colon; and the words behind it
abbrev pub label_in : List Word → Option Word
label_in [] = None
label_in (word ∷ words) = option_map (λ name. record { text = name; span = record { start = word.span.start; end = word.span.end - 1 } }) (before_last colon word.text)

abbrev pub behind_label : List Word → List Word
behind_label [] = []
behind_label (word ∷ words) = if is_some (before_last colon word.text) then words else word ∷ words

-- where a label stands that is not good
abbrev pub bad_label : Option Word → Option Span
bad_label None = None
bad_label (Some label) = if is_name label.text then None else Some label.span

-- the last of these words
abbrev pub last_word : Word → List Word → Word
last_word word [] = word
last_word word (next ∷ words) = last_word next words

-- where the operand of a number stands; behind the last word, where it is missing
abbrev pub operand_place : Word → List Word → ℕ → Span
operand_place word [] n = record { start = word.span.end; end = word.span.end }
operand_place word (operand ∷ operands) n = if n == 0 then operand.span else operand_place operand operands (n - 1)

abbrev pub unfit_operand : Word → List Word → Unfit → Wrong
unfit_operand word operands found = record { mistake = Operand; span = operand_place word operands found.fit; wants = found.wants }

abbrev pub wrong_operand : Bool → Option Mnemonic → Word → List Word → Option Wrong
wrong_operand wide None word operands = Some (wrong_word word.span)
wrong_operand wide (Some mnemonic) word operands = option_map (unfit_operand word operands) (first_unfit (forms_of wide mnemonic) (map (λ operand. operand.text) operands))

abbrev pub wrong_instruction : Bool → List Word → Option Wrong
wrong_instruction wide [] = None
wrong_instruction wide (word ∷ operands) = wrong_operand wide (mnemonic_of wide word.text) word operands

abbrev pub wrong_in : Bool → Option Span → Option Span → List Word → Option Wrong
wrong_in wide (Some label) stray words = Some (wrong_word label)
wrong_in wide None (Some stray) words = Some (wrong_word stray)
wrong_in wide None None words = wrong_instruction wide words

-- what is wrong with a line by itself, in the wide language or the other
abbrev pub wrong_on : Bool → List ℕ → Option Wrong
wrong_on wide line = wrong_in wide (bad_label (label_in (words_on line))) (stray_in (uncommented line)) (behind_label (words_on line))

-- where the label of a line stands, its instruction's word, and its last word; at its beginning where it has none
abbrev pub no_place : Span
no_place = record { start = 0; end = 0 }

abbrev pub label_place : Option Word → Span
label_place None = no_place
label_place (Some label) = label.span

abbrev pub first_place : List Word → Span
first_place [] = no_place
first_place (word ∷ words) = word.span

abbrev pub last_place : List Word → Span
last_place [] = no_place
last_place (word ∷ words) = (last_word word words).span

abbrev pub instruction_place : List ℕ → Span
instruction_place line = first_place (behind_label (words_on line))

-- What is wrong with a text at a line, counted from 1, where in that line, and what is wanted there.
pub record LineFault : Type 0 where
  pub mistake : Mistake
  pub line : ℕ
  pub span : Span
  pub wants : Option Form

abbrev pub placed_fault : Mistake → ℕ → Span → LineFault
placed_fault mistake number span = record { mistake = mistake; line = number; span = span; wants = None }

abbrev pub own_fault : ℕ → Option Wrong → List LineFault
own_fault number None = []
own_fault number (Some wrong) = record { mistake = wrong.mistake; line = number; span = wrong.span; wants = wrong.wants } ∷ []

-- what a line counts as behind others
abbrev pub name_if_good : Option Word → Option (List ℕ)
name_if_good None = None
name_if_good (Some label) = if is_name label.text then Some label.text else None

abbrev pub read_or_halt : List ℕ → Result Line Mistake → Line
read_or_halt line (Ok read) = read
read_or_halt line (Err mistake) = line_with (name_if_good (label_in (words_on line))) (Some (Alone Halt))

abbrev pub counted : Bool → List ℕ → Line
counted wide line = read_or_halt line (line_read wide line)

abbrev pub with_new_label : List Line → Line → Line
with_new_label before line = if is_twice before line.label then line_with None line.instruction else line

-- a label that a line before has already; an instruction that has 256 before it
abbrev pub second_label : Bool → List Line → ℕ → List ℕ → List LineFault
second_label wide before number line =
    if is_twice before (counted wide line).label then placed_fault TwiceLabel number (label_place (label_in (words_on line))) ∷ [] else []

abbrev pub is_beyond : Bool → List Line → List ℕ → Bool
is_beyond wide before line = is_one_too_many (length (steps_of before)) (counted wide line).instruction

-- what is wrong with a line behind others, but for an instruction too many
abbrev pub faults_on : Bool → List Line → List ℕ → List LineFault
faults_on wide before line = own_fault (length before + 1) (wrong_on wide line) ++ second_label wide before (length before + 1) line

-- the lines of a text by their numbers
abbrev pub line_or_none : Option (List ℕ) → List ℕ
line_or_none None = []
line_or_none (Some line) = line

abbrev pub line_numbered : List (List ℕ) → ℕ → List ℕ
line_numbered lines number = line_or_none (slice_get lines (number - 1))

-- a label that no line has, or that no instruction follows
abbrev pub missing_in : List (List ℕ) → (List ℕ → Option ℕ) → ℕ → Written → List LineFault
missing_in lines points number (Alone instruction) = []
missing_in lines points number (Leading jump name) =
    if is_none (points name) then placed_fault NoLabel number (last_place (words_on (line_numbered lines number))) ∷ [] else []

abbrev pub missing_label : List (List ℕ) → (List ℕ → Option ℕ) → Step → List LineFault
missing_label lines points step = missing_in lines points step.line step.written

-- nothing goes on past the last instruction
abbrev pub is_ending : Written → Bool
is_ending (Alone instruction) = is_last instruction
is_ending (Leading jump name) = is_last (led jump 0)

abbrev pub steps_end : List Step → Bool
steps_end [] = false
steps_end (step ∷ []) = is_ending step.written
steps_end (step ∷ next ∷ steps) = steps_end (next ∷ steps)

abbrev pub falls_off : List (List ℕ) → List Step → List LineFault
falls_off lines steps =
    if steps_end steps then [] else placed_fault FallsOff (last_line_number steps) (instruction_place (line_numbered lines (last_line_number steps))) ∷ []

-- what is wrong with all lines together
abbrev pub faults_together : List (List ℕ) → List Line → List LineFault
faults_together lines read = flat_map (missing_label lines (point_named read)) (steps_of read) ++ falls_off lines (steps_of read)

-- What is wrong from some lines on, behind others; behind an instruction too many nothing is looked at.
abbrev pub faults_behind : Bool → List (List ℕ) → List Line → List (List ℕ) → List LineFault
faults_behind wide all before [] = faults_together all before
faults_behind wide all before (line ∷ lines) =
    faults_on wide before line
    ++ (if is_beyond wide before line then placed_fault TooMany (length before + 1) (instruction_place line) ∷ []
    else faults_behind wide all (before ++ with_new_label before (counted wide line) ∷ []) lines)

abbrev pub faults_of : Bool → List ℕ → List LineFault
faults_of wide text = faults_behind wide (text_lines text) [] (text_lines text)

-- the first of these, and the fault of a text that is no program
abbrev pub first_fault : List LineFault → Option Fault
first_fault [] = None
first_fault (first ∷ faults) = Some (fault first.mistake first.line)

abbrev pub fault_in : {A : Type 0} → Result A Fault → Option Fault
fault_in (Ok a) = None
fault_in (Err told) = Some told
