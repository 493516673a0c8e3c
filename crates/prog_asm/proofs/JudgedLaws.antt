-- What is wrong with lines is what they are not read for, and the first of all faults is that of the text.
use Rattle.std.proofs.Common.{◌≡◌, ◌+◌, ℕ, Bool, true, false, List, [], ◌∷◌, ◌++◌, length, refl, ap, sym, ◌∙◌}
use Rattle.std.specs.Prelude.{Option, Some, None, is_none, is_ok, is_some, option_map, cond, Result, Ok, Err}
use Rattle.std.specs.List.{flat_map}
use Rattle.texts.specs.Names.{is_name}
use Rattle.instruction_set.specs.Assembly.{FallsOff, Fault, Line, Mistake, NoLabel, Step, TooMany, TwiceLabel, Word, code_from, complete, fault, instruction_in, is_one_too_many, is_twice}
use Rattle.instruction_set.specs.Assembly.{last_line_number, line_behind, line_read, line_with, lines_behind, operands_read}
use Rattle.instruction_set.specs.Assembly.{placed, placed_at, point_named, program_read, read_as, steps_of, told_at, with_label}
use Rattle.instruction_set.specs.Assembly.{assembly_in, ◌>>=◌}
use Rattle.instruction_set.specs.Forms.{Alone, Jump, Leading, Mnemonic, Written, led, mnemonic_of, written_of, Always, If_equal, If_less, After_error}
use Rattle.instruction_set.specs.Lines.{text_lines, uncommented}
use Rattle.instruction_set.specs.Programs.{Halt, Instruction, ends_well, is_last}
use Rattle.prog_asm.specs.OperandForms.{Unfit, first_unfit, forms_of}
use Rattle.prog_asm.specs.LineFaults as model
use Rattle.prog_asm.specs.LineFaults.{LineFault, Wrong, bad_label, behind_label, counted, placed_fault, fault_in, falls_off, faults_behind, faults_on, is_beyond}
use Rattle.prog_asm.specs.LineFaults.{faults_of, faults_together, first_fault, instruction_place, is_ending, label_in, label_place, missing_label, name_if_good}
use Rattle.prog_asm.specs.LineFaults.{own_fault, read_or_halt, steps_end, stray_in, unfit_operand, with_new_label, wrong_in, wrong_instruction, wrong_on, wrong_operand}
use Rattle.prog_asm.specs.ReadingViews.{line_of_parts}
use Rattle.prog_asm.specs.WordPlaces.{Span, words_on}
use Rattle.prog_asm.specs.WordPlaces as places
use Rattle.prog_asm.proofs.FormLaws.{unfit-written}
use Rattle.prog_asm.proofs.LinesRead.{parts-read, said}

-- A LINE BY ITSELF
abbrev error_in : {A : Type 0} → Result A Mistake → Option Mistake
error_in (Ok a) = None
error_in (Err mistake) = Some mistake

abbrev mistake_in : Option Wrong → Option Mistake
mistake_in wrong = option_map (λ wrong. wrong.mistake) wrong

operand-mistake : (word : places.Word) (operands : List places.Word) (found : Option Unfit) (written : Option Written) → is_none found ≡ is_some written →
    mistake_in (option_map (unfit_operand word operands) found) ≡ error_in (operands_read written)
operand-mistake word operands None None same = absurd cc
operand-mistake word operands None (Some written) same = refl
operand-mistake word operands (Some unfit) None same = refl
operand-mistake word operands (Some unfit) (Some written) same = absurd cc

instruction-mistake : (wide : Bool) (words : List places.Word) → mistake_in (wrong_instruction wide words) ≡ error_in (instruction_in wide (said words))
instruction-mistake wide [] = refl
instruction-mistake wide (word ∷ operands) = go (mnemonic_of wide word.text)
  where
    go : (mnemonic : Option Mnemonic) → mistake_in (wrong_operand wide mnemonic word operands) ≡ error_in (read_as wide mnemonic (said operands))
    go None = refl
    go (Some mnemonic) = operand-mistake word operands (first_unfit (forms_of wide mnemonic) (said operands)) (written_of wide mnemonic (said operands)) (unfit-written wide mnemonic (said operands))

label-keeps : (label : Option (List ℕ)) (read : Result (Option Written) Mistake) → error_in read ≡ error_in (with_label label read)
label-keeps label (Ok read) = refl
label-keeps label (Err mistake) = refl

parts-mistake : (wide : Bool) (stray : Option Span) (label : Option places.Word) (words : List places.Word) →
    mistake_in (wrong_in wide (bad_label label) stray words) ≡ error_in (line_of_parts wide stray label (said words))
parts-mistake wide None None words = instruction-mistake wide words ∙ label-keeps None (instruction_in wide (said words))
parts-mistake wide (Some at) None words = refl
parts-mistake wide None (Some label) words = go (is_name label.text)
  where
    go : (is : Bool) → mistake_in (wrong_in wide (cond is None (Some label.span)) None words)
        ≡ error_in (cond is (with_label (Some label.text) (instruction_in wide (said words))) (Err Word))
    go true = instruction-mistake wide words ∙ label-keeps (Some label.text) (instruction_in wide (said words))
    go false = refl
parts-mistake wide (Some at) (Some label) words = go (is_name label.text)
  where
    go : (is : Bool) → mistake_in (wrong_in wide (cond is None (Some label.span)) (Some at) words) ≡ Some Word
    go true = refl
    go false = refl

-- What is wrong with a line by itself is why it isn't read.
pub line-mistake : (wide : Bool) (line : List ℕ) → option_map (λ wrong. wrong.mistake) (wrong_on wide line) ≡ error_in (line_read wide line)
line-mistake wide line = parts-mistake wide (stray_in (uncommented line)) (label_in (words_on line)) (behind_label (words_on line)) ∙ ap error_in (sym (parts-read wide line))

-- ALL LINES TOGETHER
-- instructions that go on where the steps do
abbrev EndAlike : List Step → List Instruction → Type 0
EndAlike [] [] = Unit {0}
EndAlike [] (instruction ∷ code) = ⊥
EndAlike (step ∷ steps) [] = ⊥
EndAlike (step ∷ steps) (instruction ∷ code) = (is_ending step.written ≡ is_last instruction) × EndAlike steps code

ends-alike : (steps : List Step) (code : List Instruction) → EndAlike steps code → steps_end steps ≡ ends_well code
ends-alike [] [] alike = refl
ends-alike [] (instruction ∷ code) alike = absurd alike
ends-alike (step ∷ steps) [] alike = absurd alike
ends-alike (step ∷ []) (instruction ∷ []) alike = alike.0
ends-alike (step ∷ []) (instruction ∷ next ∷ code) alike = absurd alike.1
ends-alike (step ∷ next ∷ steps) (instruction ∷ []) alike = absurd alike.1
ends-alike (step ∷ next ∷ steps) (instruction ∷ after ∷ code) alike = ends-alike (next ∷ steps) (after ∷ code) alike.1

led-ends : (jump : Jump) (target : ℕ) → is_last (led jump 0) ≡ is_last (led jump target)
led-ends Always target = refl
led-ends (If_equal register value) target = refl
led-ends (If_less register value) target = refl
led-ends (After_error call) target = refl

behind-one : (instruction : Instruction) (read : Result (List Instruction) Fault) (next : List Instruction → Result (List Instruction) Fault) →
    fault_in (read >>= (λ code. next (instruction ∷ code))) ≡ fault_in ((read >>= (λ code. Ok (instruction ∷ code))) >>= next)
behind-one instruction (Ok code) next = refl
behind-one instruction (Err told) next = refl

steps-first : (lines : List (List ℕ)) (points : List ℕ → Option ℕ) (steps : List Step) (rest : List LineFault) (next : List Instruction → Result (List Instruction) Fault) →
    ((code : List Instruction) → EndAlike steps code → first_fault rest ≡ fault_in (next code)) →
    first_fault (flat_map (missing_label lines points) steps ++ rest) ≡ fault_in (code_from points steps >>= next)
steps-first lines points [] rest next ends = ends [] tt
steps-first lines points (step ∷ steps) rest next ends = go step.written
    (λ instruction alike. steps-first lines points steps rest (λ code. next (instruction ∷ code)) (λ code more. ends (instruction ∷ code) (alike, more))
    ∙ behind-one instruction (code_from points steps) next)
  where
    more : List LineFault
    more = flat_map (missing_label lines points) steps

    named : (jump : Jump) (name : List ℕ) (point : Option ℕ) →
        ((instruction : Instruction) → is_last (led jump 0) ≡ is_last instruction →
        first_fault (more ++ rest) ≡ fault_in ((code_from points steps >>= (λ code. Ok (instruction ∷ code))) >>= next)) →
        first_fault ((cond (is_none point) (placed_fault NoLabel step.line (model.last_place (words_on (model.line_numbered lines step.line))) ∷ []) [] ++ more) ++ rest)
        ≡ fault_in ((placed_at step.line (option_map (led jump) point) >>= (λ i. code_from points steps >>= (λ code. Ok (i ∷ code)))) >>= next)
    named jump name None good = refl
    named jump name (Some point) good = good (led jump point) (led-ends jump point)

    go : (written : Written) → ((instruction : Instruction) → is_ending written ≡ is_last instruction →
        first_fault (more ++ rest) ≡ fault_in ((code_from points steps >>= (λ code. Ok (instruction ∷ code))) >>= next)) →
        first_fault ((model.missing_in lines points step.line written ++ more) ++ rest)
        ≡ fault_in ((placed_at step.line (placed points written) >>= (λ i. code_from points steps >>= (λ code. Ok (i ∷ code)))) >>= next)
    go (Alone instruction) good = good instruction refl
    go (Leading jump name) good = named jump name (points name) good

falls-first : (lines : List (List ℕ)) (steps : List Step) (code : List Instruction) → EndAlike steps code → first_fault (falls_off lines steps) ≡ fault_in (complete steps code)
falls-first lines steps code alike =
    ap (λ ends. first_fault (cond ends [] (placed_fault FallsOff (last_line_number steps) (instruction_place (model.line_numbered lines (last_line_number steps))) ∷ []))) (ends-alike steps code alike)
    ∙ go (ends_well code)
  where
    go : (ends : Bool) → first_fault (cond ends [] (placed_fault FallsOff (last_line_number steps) (instruction_place (model.line_numbered lines (last_line_number steps))) ∷ []))
        ≡ fault_in (cond ends (Ok code) (Err (fault FallsOff (last_line_number steps))))
    go true = refl
    go false = refl

together-first : (lines : List (List ℕ)) (read : List Line) → first_fault (faults_together lines read) ≡ fault_in (program_read read)
together-first lines read = steps-first lines (point_named read) (steps_of read) (falls_off lines (steps_of read)) (complete (steps_of read)) (falls-first lines (steps_of read))

-- LINE BY LINE
lines-first : (wide : Bool) (all : List (List ℕ)) (before : List Line) (lines : List (List ℕ))
    → first_fault (faults_behind wide all before lines) ≡ fault_in (lines_behind wide before lines >>= program_read)
lines-first wide all before [] = together-first all before
lines-first wide all before (line ∷ lines) = go (line_read wide line) (wrong_on wide line) (line-mistake wide line) (λ read. lines-first wide all (before ++ read ∷ []) lines)
  where
    number : ℕ
    number = length before + 1

    second : Bool → List LineFault
    second twice = cond twice (placed_fault TwiceLabel number (label_place (label_in (words_on line))) ∷ []) []

    rest : Bool → Bool → Line → List LineFault
    rest twice many read = cond many (placed_fault TooMany number (instruction_place line) ∷ []) (faults_behind wide all (before ++ cond twice (line_with None read.instruction) read ∷ []) lines)

    fine : (read : Line) (twice many : Bool) → first_fault (faults_behind wide all (before ++ read ∷ []) lines) ≡ fault_in (lines_behind wide (before ++ read ∷ []) lines >>= program_read) →
        first_fault (([] ++ second twice) ++ rest twice many read)
        ≡ fault_in ((told_at before (cond twice (Err TwiceLabel) (cond many (Err TooMany) (Ok read))) >>= (λ one. lines_behind wide (before ++ one ∷ []) lines)) >>= program_read)
    fine read true many next = refl
    fine read false true next = refl
    fine read false false next = next

    wrong_first : (mistake own : Mistake) (more : List LineFault) → own ≡ mistake → Some (fault own number) ≡ Some (fault mistake number)
    wrong_first mistake own more same = ap (λ m. Some (fault m number)) same

    go : (read : Result Line Mistake) (wrong : Option Wrong) → option_map (λ wrong. wrong.mistake) wrong ≡ error_in read →
        ((read : Line) → first_fault (faults_behind wide all (before ++ read ∷ []) lines) ≡ fault_in (lines_behind wide (before ++ read ∷ []) lines >>= program_read)) →
        first_fault ((own_fault number wrong ++ second (is_twice before (read_or_halt line read).label))
        ++ rest (is_twice before (read_or_halt line read).label) (is_one_too_many (length (steps_of before)) (read_or_halt line read).instruction) (read_or_halt line read))
        ≡ fault_in ((told_at before (line_behind before read) >>= (λ one. lines_behind wide (before ++ one ∷ []) lines)) >>= program_read)
    go (Ok read) None same good = fine read (is_twice before read.label) (is_one_too_many (length (steps_of before)) read.instruction) (good read)
    go (Ok read) (Some wrong) same good = absurd cc
    go (Err mistake) None same good = absurd cc
    go (Err mistake) (Some wrong) same good = let is : wrong.mistake ≡ mistake = cc in wrong_first mistake wrong.mistake [] is

-- The first of all faults of a text is the one that it isn't assembled for.
pub faults-first : (wide : Bool) (text : List ℕ) → first_fault (faults_of wide text) ≡ fault_in (assembly_in wide text)
unfolding assembly_in
faults-first wide text = lines-first wide (text_lines text) [] (text_lines text)

-- LINES WITH WHICH NOTHING IS WRONG
-- Such a line is read, and counts as what it is read as.
pub line-good : (wide : Bool) (before : List Line) (line : List ℕ) (lines : List (List ℕ)) → faults_on wide before line ≡ [] → is_beyond wide before line ≡ false →
    lines_behind wide before (line ∷ lines) ≡ lines_behind wide (before ++ with_new_label before (counted wide line) ∷ []) lines
line-good wide before line lines none fits = go (line_read wide line) (wrong_on wide line) (line-mistake wide line) none fits
  where
    told : Bool → List LineFault
    told twice = cond twice (placed_fault TwiceLabel (length before + 1) (label_place (label_in (words_on line))) ∷ []) []

    fine : (read : Line) (twice many : Bool) → told twice ≡ [] → many ≡ false →
        (told_at before (cond twice (Err TwiceLabel) (cond many (Err TooMany) (Ok read))) >>= (λ one. lines_behind wide (before ++ one ∷ []) lines))
        ≡ lines_behind wide (before ++ cond twice (line_with None read.instruction) read ∷ []) lines
    fine read true many none fits = absurd cc
    fine read false true none fits = absurd cc
    fine read false false none fits = refl

    go : (read : Result Line Mistake) (wrong : Option Wrong) → option_map (λ wrong. wrong.mistake) wrong ≡ error_in read →
        own_fault (length before + 1) wrong ++ told (is_twice before (read_or_halt line read).label) ≡ [] →
        is_one_too_many (length (steps_of before)) (read_or_halt line read).instruction ≡ false →
        (told_at before (line_behind before read) >>= (λ one. lines_behind wide (before ++ one ∷ []) lines))
        ≡ lines_behind wide (before ++ with_new_label before (read_or_halt line read) ∷ []) lines
    go (Ok read) None same none fits = fine read (is_twice before read.label) (is_one_too_many (length (steps_of before)) read.instruction) none fits
    go (Ok read) (Some wrong) same none fits = absurd cc
    go (Err mistake) None same none fits = absurd cc
    go (Err mistake) (Some wrong) same none fits = absurd cc

-- A line that is read has nothing wrong, and counts as what it is read as.
pub read-counted : (wide : Bool) (text : List ℕ) (line : Line) → line_read wide text ≡ Ok line → (line ≡ counted wide text) × (wrong_on wide text ≡ None)
read-counted wide text line is = (sym (ap (read_or_halt text) is), none (wrong_on wide text) (line-mistake wide text ∙ ap error_in is))
  where
    none : (wrong : Option Wrong) → option_map (λ wrong. wrong.mistake) wrong ≡ None → wrong ≡ None
    none None same = refl
    none (Some wrong) same = absurd cc

pub unread-counted : (wide : Bool) (text : List ℕ) → is_ok (line_read wide text) ≡ false → counted wide text ≡ line_with (name_if_good (label_in (words_on text))) (Some (Alone Halt))
unread-counted wide text is = go (line_read wide text) is
  where
    go : (read : Result Line Mistake) → is_ok read ≡ false → read_or_halt text read ≡ line_with (name_if_good (label_in (words_on text))) (Some (Alone Halt))
    go (Ok read) is = absurd cc
    go (Err mistake) is = refl

-- A line with which nothing is wrong by itself is read as it counts.
pub good-read : (wide : Bool) (text : List ℕ) (number : ℕ) → [] ≡ own_fault number (wrong_on wide text) → line_read wide text ≡ Ok (counted wide text)
good-read wide text number good = go (line_read wide text) (wrong_on wide text) (line-mistake wide text) good
  where
    go : (read : Result Line Mistake) (wrong : Option Wrong) → option_map (λ wrong. wrong.mistake) wrong ≡ error_in read → [] ≡ own_fault number wrong → read ≡ Ok (read_or_halt text read)
    go (Ok read) wrong same good = refl
    go (Err mistake) None same good = absurd cc
    go (Err mistake) (Some wrong) same good = absurd cc
