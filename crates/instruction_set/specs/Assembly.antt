-- The program that a text stands for, or its fault. (own)
use Rattle.std.specs.Prelude.{◌+◌, ℕ, Bool, true, false, nat_le, List, [], ◌∷◌, ◌++◌, length, Option, Some, None, option_map, Result, Ok, Err, if◌then◌else◌}
use Rattle.std.specs.Str.{bytes_eq}
use Rattle.texts.specs.Bytes.{colon}
use Rattle.rights.specs.Limits.{most_instructions}
use Rattle.texts.specs.Names.{is_name}
use Rattle.instruction_set.specs.Programs.{Instruction, ends_well}
use Rattle.instruction_set.specs.Lines.{text_lines, uncommented, has_stray, quoted_words}
use Rattle.instruction_set.specs.Fields.{before_last}
use Rattle.instruction_set.specs.Forms.{Mnemonic, mnemonic_of, Written, Alone, Leading, led, written_of}

-- What can be wrong. On a line the first of these that applies is told.
pub data Mistake : Type 0 where
  Word : Mistake  -- a byte that no word has, a bad name before a colon, or an unknown instruction
  Operand : Mistake  -- a wrong operand, a wrong word in a list, or too few or too many operands
  NoLabel : Mistake  -- a label that no line has, or that no instruction follows
  TwiceLabel : Mistake  -- a label that a line before has already
  TooMany : Mistake  -- an instruction behind 256
  FallsOff : Mistake  -- the last instruction goes on, or there is none

abbrev pub mistake_number : Mistake → ℕ
mistake_number Word = 1
mistake_number Operand = 2
mistake_number NoLabel = 3
mistake_number TwiceLabel = 4
mistake_number TooMany = 5
mistake_number FallsOff = 6

-- a mistake, and its line, counted from 1
pub record Fault : Type 0 where
  pub mistake : Mistake
  pub line : ℕ

abbrev pub fault : Mistake → ℕ → Fault
fault mistake line = record { mistake = mistake; line = line }

-- What stands on a line: a label, an instruction, both or neither.
pub record Line : Type 0 where
  pub label : Option (List ℕ)
  pub instruction : Option Written

abbrev pub line_with : Option (List ℕ) → Option Written → Line
line_with label instruction = record { label = label; instruction = instruction }

-- the instruction that a line's words stand for behind the label
abbrev pub operands_read : Option Written → Result (Option Written) Mistake
operands_read None = Err Operand
operands_read (Some written) = Ok (Some written)

abbrev pub read_as : Bool → Option Mnemonic → List (List ℕ) → Result (Option Written) Mistake
read_as wide None operands = Err Word
read_as wide (Some mnemonic) operands = operands_read (written_of wide mnemonic operands)

abbrev pub instruction_in : Bool → List (List ℕ) → Result (Option Written) Mistake
instruction_in wide [] = Ok None
instruction_in wide (word ∷ operands) = read_as wide (mnemonic_of wide word) operands

abbrev pub with_label : Option (List ℕ) → Result (Option Written) Mistake → Result Line Mistake
with_label label (Err mistake) = Err mistake
with_label label (Ok instruction) = Ok (line_with label instruction)

-- A first word that ends with a colon is a label.
abbrev pub labelled : Bool → Option (List ℕ) → List ℕ → List (List ℕ) → Result Line Mistake
labelled wide None word words = with_label None (instruction_in wide (word ∷ words))
labelled wide (Some name) word words = if is_name name then with_label (Some name) (instruction_in wide words) else Err Word

abbrev pub line_read_of : Bool → List (List ℕ) → Result Line Mistake
line_read_of wide [] = Ok (line_with None None)
line_read_of wide (word ∷ words) = labelled wide (before_last colon word) word words

abbrev pub line_of_code : Bool → List ℕ → Result Line Mistake
line_of_code wide code = if has_stray code then Err Word else line_read_of wide (quoted_words code)

-- a line by itself, in the wide language or the other
unfoldable pub line_read : Bool → List ℕ → Result Line Mistake
line_read wide text = line_of_code wide (uncommented text)

-- An instruction, with its line.
pub record Step : Type 0 where
  pub line : ℕ
  pub written : Written

abbrev pub steps_on : ℕ → Option Written → List Step
steps_on n None = []
steps_on n (Some written) = record { line = n; written = written } ∷ []

-- the instructions of lines that are numbered from n on
abbrev pub steps_from : ℕ → List Line → List Step
steps_from n [] = []
steps_from n (line ∷ lines) = steps_on n line.instruction ++ steps_from (n + 1) lines

abbrev pub steps_of : List Line → List Step
steps_of lines = steps_from 1 lines

abbrev pub is_label : List ℕ → Option (List ℕ) → Bool
is_label name None = false
is_label name (Some label) = bytes_eq label name

abbrev pub has_label : List ℕ → List Line → Bool
has_label name [] = false
has_label name (line ∷ lines) = if is_label name line.label then true else has_label name lines

-- A line behind others: its label is not one of theirs, and its instruction has no 256 before it.
abbrev pub is_twice : List Line → Option (List ℕ) → Bool
is_twice before None = false
is_twice before (Some name) = has_label name before

abbrev pub is_one_too_many : ℕ → Option Written → Bool
is_one_too_many count None = false
is_one_too_many count (Some written) = nat_le most_instructions count

abbrev pub line_behind : List Line → Result Line Mistake → Result Line Mistake
line_behind before (Err mistake) = Err mistake
line_behind before (Ok line) =
    if is_twice before line.label then Err TwiceLabel
    else if is_one_too_many (length (steps_of before)) line.instruction then Err TooMany
    else Ok line

infixl 10 ◌>>=◌
abbrev pub ◌>>=◌ : {A B : Type 0} → Result A Fault → (A → Result B Fault) → Result B Fault
(Ok a) >>= f = f a
(Err e) >>= f = Err e

-- the line behind others, so many and one more
abbrev pub told_at : List Line → Result Line Mistake → Result Line Fault
told_at before (Err mistake) = Err (fault mistake (length before + 1))
told_at before (Ok line) = Ok line

-- All lines, or the first mistake.
abbrev pub lines_behind : Bool → List Line → List (List ℕ) → Result (List Line) Fault
lines_behind wide before [] = Ok before
lines_behind wide before (text ∷ texts) = do
  line ← told_at before (line_behind before (line_read wide text))
  lines_behind wide (before ++ line ∷ []) texts

-- A label names the next instruction: one on its own line, or else the first behind it. Where there is
-- none, the label is missing. The lines have points from `point` on.
abbrev pub next_point : ℕ → List Step → Option ℕ
next_point point [] = None
next_point point (step ∷ steps) = Some point

abbrev pub point_from : ℕ → List ℕ → List Line → Option ℕ
point_from point name [] = None
point_from point name (line ∷ lines) =
    if is_label name line.label then next_point point (steps_of (line ∷ lines))
    else point_from (point + length (steps_on 1 line.instruction)) name lines

abbrev pub point_named : List Line → List ℕ → Option ℕ
point_named lines name = point_from 0 name lines

-- The instructions with points in the place of labels, or the first line that names a missing one.
abbrev pub placed : (List ℕ → Option ℕ) → Written → Option Instruction
placed points (Alone instruction) = Some instruction
placed points (Leading jump name) = option_map (led jump) (points name)

abbrev pub placed_at : ℕ → Option Instruction → Result Instruction Fault
placed_at n None = Err (fault NoLabel n)
placed_at n (Some instruction) = Ok instruction

abbrev pub code_from : (List ℕ → Option ℕ) → List Step → Result (List Instruction) Fault
code_from points [] = Ok []
code_from points (step ∷ steps) = do
  instruction ← placed_at step.line (placed points step.written)
  code ← code_from points steps
  Ok (instruction ∷ code)

-- the line of the last instruction, or 1
abbrev pub last_line_number : List Step → ℕ
last_line_number [] = 1
last_line_number (step ∷ []) = step.line
last_line_number (step ∷ next ∷ steps) = last_line_number (next ∷ steps)

-- Nothing goes on past the end.
abbrev pub complete : List Step → List Instruction → Result (List Instruction) Fault
complete steps code = if ends_well code then Ok code else Err (fault FallsOff (last_line_number steps))

abbrev pub program_read : List Line → Result (List Instruction) Fault
program_read lines = do
  code ← code_from (point_named lines) (steps_of lines)
  complete (steps_of lines) code

-- What a text stands for in the wide language or in the other; and in the other.
unfoldable pub assembly_in : Bool → List ℕ → Result (List Instruction) Fault
assembly_in wide text = do
  lines ← lines_behind wide [] (text_lines text)
  program_read lines

abbrev pub assembly_of : List ℕ → Result (List Instruction) Fault
assembly_of text = assembly_in false text
