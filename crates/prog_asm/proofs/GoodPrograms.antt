-- What a text stands for is a program.
use Rattle.std.proofs.Common.{◌≡◌, ◌+◌, ◌<◌, ◌≤◌, ℕ, Bool, true, false, List, [], ◌∷◌, ◌++◌, length, refl, ap, sym, ◌∙◌, subst, arith, length-append}
use Rattle.std.specs.Prelude.{◌&&◌, Option, Some, None, Result, Ok, Err, cond, nat_lt, option_map}
use Rattle.std.specs.List.{list_all}
use Rattle.std.proofs.lemmas.Bool.{le-leb, leb-false}
use Rattle.prog_asm.specs.declared.drafts.Draft.{Draft}
use Rattle.instruction_set.specs.Programs.{Instruction, ends_well, is_instruction, is_program}
use Rattle.instruction_set.specs.Languages.{are_spoken, is_spoken}
use Rattle.instruction_set.specs.Lines.{has_stray, text_lines, uncommented, quoted_words}
use Rattle.texts.specs.Names.{is_name}
use Rattle.instruction_set.specs.Fields.{before_last}
use Rattle.instruction_set.specs.Forms.{Mnemonic, Written, Alone, Leading, led, mnemonic_among, mnemonic_of, mnemonics, written_of}
use Rattle.instruction_set.specs.Assembly.{Fault, FallsOff, Line, Mistake, Step, TooMany, TwiceLabel, Word, assembly_in, code_from, complete, fault, instruction_in, is_one_too_many}
use Rattle.instruction_set.specs.Assembly.{is_twice, labelled, last_line_number, line_behind, line_read, line_of_code, line_read_of, line_with, lines_behind, told_at, operands_read}
use Rattle.instruction_set.specs.Assembly.{placed, placed_at, point_named, program_read, read_as, steps_of, steps_on, with_label, ◌>>=◌}
use Rattle.prog_asm.specs.DraftViews.{Drafts, below, labelled_from}
use Rattle.prog_asm.proofs.DraftLaws.{length-drafts, steps_of-append}
use Rattle.prog_asm.proofs.GoodForms.{GoodWritten, Known, known-is, written-good}
use Rattle.prog_asm.proofs.Points.{point_of-labelled}

bound : {A B : Type 0} (r : Result A Fault) (f : A → Result B Fault) (b : B) → (r >>= f) ≡ Ok b → (a : A) × (r ≡ Ok a) × (f a ≡ Ok b)
bound (Ok a) f b h = (a, refl, h)
bound (Err e) f b h = absurd cc

-- an instruction, if there is one, is valid at any target and of the language
abbrev pub GoodInstruction : Bool → Option Written → Type 0
GoodInstruction wide None = Unit {0}
GoodInstruction wide (Some written) = GoodWritten wide written

operands-good : (wide : Bool) (o : Option Written) (i : Option Written) → ((w : Written) → o ≡ Some w → GoodWritten wide w) → operands_read o ≡ Ok i → GoodInstruction wide i
operands-good wide None i good h = absurd cc
operands-good wide (Some w) i good h = let same : Some w ≡ i = cc in subst (GoodInstruction wide) same (good w refl)

read-good : (wide : Bool) (m : Option Mnemonic) → ((n : Mnemonic) → m ≡ Some n → Known wide n) → (words : List (List ℕ)) (i : Option Written) →
    read_as wide m words ≡ Ok i → GoodInstruction wide i
read-good wide None known words i h = absurd cc
read-good wide (Some m) known words i h = operands-good wide (written_of wide m words) i (λ w is. written-good wide m words w (known m refl) is) h

instruction-good : (wide : Bool) (words : List (List ℕ)) (i : Option Written) → instruction_in wide words ≡ Ok i → GoodInstruction wide i
instruction-good wide [] i h = let same : None ≡ i = cc in subst (GoodInstruction wide) same tt
instruction-good wide (word ∷ words) i h = read-good wide (mnemonic_of wide word) (known-is wide (mnemonic_among mnemonics word)) words i h

label-good : (wide : Bool) (label : Option (List ℕ)) (words : List (List ℕ)) (line : Line) → with_label label (instruction_in wide words) ≡ Ok line → GoodInstruction wide line.instruction
label-good wide label words line h = go (instruction_in wide words) refl h
  where
    go : (r : Result (Option Written) Mistake) → instruction_in wide words ≡ r → with_label label r ≡ Ok line → GoodInstruction wide line.instruction
    go (Err m) is h = absurd cc
    go (Ok i) is h =
        let same : line_with label i ≡ line = cc in
        subst (λ l. GoodInstruction wide l.instruction) same (instruction-good wide words i is)

labelled-good : (wide : Bool) (o : Option (List ℕ)) (word : List ℕ) (words : List (List ℕ)) (line : Line) → labelled wide o word words ≡ Ok line → GoodInstruction wide line.instruction
labelled-good wide None word words line h = label-good wide None (word ∷ words) line h
labelled-good wide (Some name) word words line h = go (is_name name) h
  where
    go : (is : Bool) → cond is (with_label (Some name) (instruction_in wide words)) (Err Word) ≡ Ok line → GoodInstruction wide line.instruction
    go true h = label-good wide (Some name) words line h
    go false h = absurd cc

words-good : (wide : Bool) (words : List (List ℕ)) (line : Line) → line_read_of wide words ≡ Ok line → GoodInstruction wide line.instruction
words-good wide [] line h = let same : line_with None None ≡ line = cc in subst (λ l. GoodInstruction wide l.instruction) same tt
words-good wide (word ∷ words) line h = labelled-good wide (before_last 58 word) word words line h

code-line-good : (wide : Bool) (code : List ℕ) (line : Line) → line_of_code wide code ≡ Ok line → GoodInstruction wide line.instruction
code-line-good wide code line h = go (has_stray code) h
  where
    go : (stray : Bool) → cond stray (Err Word) (line_read_of wide (quoted_words code)) ≡ Ok line → GoodInstruction wide line.instruction
    go true h = absurd cc
    go false h = words-good wide (quoted_words code) line h

line-good : (wide : Bool) (text : List ℕ) (line : Line) → line_read wide text ≡ Ok line → GoodInstruction wide line.instruction
unfolding line_read
line-good wide text line h = code-line-good wide (uncommented text) line h

abbrev read_good : Line → Result Line Mistake
read_good line = Ok line

-- a line that is good behind others
behind-good : (before : List Line) (read : Result Line Mistake) (line : Line) → told_at before (line_behind before read) ≡ Ok line →
    (read ≡ Ok line) × (is_one_too_many (length (steps_of before)) line.instruction ≡ false)
behind-good before (Err m) line h = absurd cc
behind-good before (Ok own) line h = go (is_twice before own.label) (is_one_too_many (length (steps_of before)) own.instruction) refl h
  where
    go : (twice many : Bool) → is_one_too_many (length (steps_of before)) own.instruction ≡ many →
        told_at before (cond twice (Err TwiceLabel) (cond many (Err TooMany) (Ok own))) ≡ Ok line →
        (read_good own ≡ Ok line) × (is_one_too_many (length (steps_of before)) line.instruction ≡ false)
    go true many is h = absurd cc
    go false true is h = absurd cc
    go false false is h = let same : own ≡ line = cc in (ap read_good same, subst (λ l. is_one_too_many (length (steps_of before)) l.instruction ≡ false) same is)

-- each step's instruction is valid and of the language
abbrev pub GoodSteps : Bool → List Step → Type 0
GoodSteps wide [] = Unit {0}
GoodSteps wide (step ∷ steps) = GoodWritten wide step.written × GoodSteps wide steps

steps-append : (wide : Bool) (xs ys : List Step) → GoodSteps wide xs → GoodSteps wide ys → GoodSteps wide (xs ++ ys)
steps-append wide [] ys p q = q
steps-append wide (x ∷ xs) ys p q = (p.0, steps-append wide xs ys p.1 q)

steps_on-good : (wide : Bool) (n : ℕ) (i : Option Written) → GoodInstruction wide i → GoodSteps wide (steps_on n i)
steps_on-good wide n None good = tt
steps_on-good wide n (Some w) good = (good, tt)

few-more : (count n : ℕ) (i : Option Written) → count ≤ 256 → is_one_too_many count i ≡ false → count + length (steps_on n i) ≤ 256
few-more count n None few fits = omega (arith, few)
few-more count n (Some w) few fits = let more : count < 256 = leb-false 256 count fits in omega arith

-- at most 256 valid instructions of the language
pub record GoodLines (wide : Bool) (lines : List Line) : Type 0 where
  pub steps : GoodSteps wide (steps_of lines)
  pub few : length (steps_of lines) ≤ 256

line-more : (wide : Bool) (before : List Line) (line : Line) → GoodLines wide before → GoodInstruction wide line.instruction →
    is_one_too_many (length (steps_of before)) line.instruction ≡ false → GoodLines wide (before ++ line ∷ [])
line-more wide before line good here fits =
    let n : ℕ = length before + 1 in
    let all = steps_of-append before line in
    record {
      steps = subst (GoodSteps wide) (sym all) (steps-append wide (steps_of before) (steps_on n line.instruction) good.steps (steps_on-good wide n line.instruction here));
      few = omega (arith, ap length all, length-append (steps_of before) (steps_on n line.instruction), few-more (length (steps_of before)) n line.instruction good.few fits);
    }

pub lines-good : (wide : Bool) (before : List Line) (texts : List (List ℕ)) (lines : List Line) → GoodLines wide before → lines_behind wide before texts ≡ Ok lines → GoodLines wide lines
lines-good wide before [] lines good h = let same : before ≡ lines = cc in subst (GoodLines wide) same good
lines-good wide before (text ∷ texts) lines good h =
    let first = bound (told_at before (line_behind before (line_read wide text))) (λ line. lines_behind wide (before ++ line ∷ []) texts) lines h in
    let line = first.0 in
    let is = behind-good before (line_read wide text) line first.1 in
    lines-good wide (before ++ line ∷ []) texts lines (line-more wide before line good (line-good wide text line is.0) is.1) first.2

-- the instructions with their points
abbrev GoodHere : Bool → ℕ → Instruction → Type 0
GoodHere wide count i = (is_instruction count i ≡ true) × (is_spoken wide i ≡ true)

placed-good : (wide : Bool) (points : List ℕ → Option ℕ) (count : ℕ) → ((name : List ℕ) (p : ℕ) → points name ≡ Some p → nat_lt p count ≡ true) →
    (w : Written) (i : Instruction) → GoodWritten wide w → placed points w ≡ Some i → GoodHere wide count i
placed-good wide points count below (Alone own) i good h = let same : own ≡ i = cc in subst (GoodHere wide count) same (good count)
placed-good wide points count below (Leading jump name) i good h = go (points name) refl h
  where
    go : (o : Option ℕ) → points name ≡ o → option_map (led jump) o ≡ Some i → GoodHere wide count i
    go None is h = absurd cc
    go (Some p) is h = let same : led jump p ≡ i = cc in subst (GoodHere wide count) same (good count p (below name p is))

placed_at-is : (n : ℕ) (o : Option Instruction) (i : Instruction) → placed_at n o ≡ Ok i → o ≡ Some i
placed_at-is n None i h = absurd cc
placed_at-is n (Some own) i h = cc

-- valid instructions of the language, as many as there are steps
record GoodCode (wide : Bool) (count : ℕ) (steps : List Step) (code : List Instruction) : Type 0 where
  valid : list_all (is_instruction count) code ≡ true
  spoken : are_spoken wide code ≡ true
  long : length code ≡ length steps

code-good : (wide : Bool) (points : List ℕ → Option ℕ) (count : ℕ) → ((name : List ℕ) (p : ℕ) → points name ≡ Some p → nat_lt p count ≡ true) →
    (steps : List Step) (code : List Instruction) → GoodSteps wide steps → code_from points steps ≡ Ok code → GoodCode wide count steps code
code-good wide points count below [] code good h = let same : [] ≡ code = cc in subst (GoodCode wide count []) same (record { valid = refl; spoken = refl; long = refl })
code-good wide points count below (step ∷ steps) code good h =
    let first = bound (placed_at step.line (placed points step.written)) (λ i. code_from points steps >>= λ rest. Ok (i ∷ rest)) code h in
    let i = first.0 in
    let rest = bound (code_from points steps) (λ rest. Ok (i ∷ rest)) code first.2 in
    let others = code-good wide points count below steps rest.0 good.1 rest.1 in
    let here = placed-good wide points count below step.written i good.0 (placed_at-is step.line (placed points step.written) i first.1) in
    let same : i ∷ rest.0 ≡ code = let k = rest.2 in cc in
    subst (GoodCode wide count (step ∷ steps)) same (record {
      valid = ap (λ b. b && list_all (is_instruction count) rest.0) here.0 ∙ others.valid;
      spoken = ap (λ b. b && are_spoken wide rest.0) here.1 ∙ others.spoken;
      long = omega (arith, others.long);
    })

below-is : (count p : ℕ) (o : Option ℕ) → below count o ≡ Some p → nat_lt p count ≡ true
below-is count p None h = absurd cc
below-is count p (Some q) h = go (nat_lt q count) refl h
  where
    go : (b : Bool) → nat_lt q count ≡ b → cond b (Some q) None ≡ Some p → nat_lt p count ≡ true
    go true is h = let same : q ≡ p = cc in subst (λ n. nat_lt n count ≡ true) same is
    go false is h = absurd cc

complete-good : (steps : List Step) (code all : List Instruction) → complete steps code ≡ Ok all → (code ≡ all) × (ends_well code ≡ true)
complete-good steps code all h = go (ends_well code) refl h
  where
    go : (b : Bool) → ends_well code ≡ b → cond b (Ok code) (Err (fault FallsOff (last_line_number steps))) ≡ Ok all → (code ≡ all) × (ends_well code ≡ true)
    go true is h = (cc, is)
    go false is h = absurd cc

-- a program of the language
abbrev GoodProgram : Bool → List Instruction → Type 0
GoodProgram wide code = (is_program code ≡ true) × (are_spoken wide code ≡ true)

program-good : (wide : Bool) (lines : List Line) (code : List Instruction) → GoodLines wide lines → program_read lines ≡ Ok code → GoodProgram wide code
program-good wide lines code good h =
    let steps = steps_of lines in
    let count = length steps in
    let made = bound (code_from (point_named lines) steps) (complete steps) code h in
    let ends = complete-good steps made.0 code made.2 in
    let all = code-good wide (point_named lines) count (λ name p is. below-is count p (labelled_from 0 name lines) (sym (point_of-labelled lines name) ∙ is)) steps made.0 good.steps made.1 in
    let own = made.0 in
    let few : length own ≤ 256 = omega (arith, all.long, good.few) in
    let is : is_program own ≡ true =
    ap (λ b. b && list_all (is_instruction (length own)) own && ends_well own) (le-leb (length own) 256 few)
    ∙ ap (λ b. b && ends_well own) (subst (λ n. list_all (is_instruction n) own ≡ true) (sym all.long) all.valid)
    ∙ ends.1
    in
    subst (GoodProgram wide) ends.0 (is, all.spoken)

nothing-good : (wide : Bool) → GoodLines wide []
nothing-good wide = record { steps = tt; few = omega arith }

text-good : (wide : Bool) (text : List ℕ) (code : List Instruction) → assembly_in wide text ≡ Ok code → GoodProgram wide code
unfolding assembly_in
text-good wide text code h =
    let read = bound (lines_behind wide [] (text_lines text)) program_read code h in
    program-good wide read.0 code (lines-good wide [] (text_lines text) read.0 (nothing-good wide) read.1) read.2

-- The grammar gives programs alone, and of its language alone.
pub assembly-good : (wide : Bool) (text : List ℕ) (code : List Instruction) → assembly_in wide text ≡ Ok code → is_program code ≡ true
assembly-good wide text code h = (text-good wide text code h).0

pub assembly-spoken : (wide : Bool) (text : List ℕ) (code : List Instruction) → assembly_in wide text ≡ Ok code → are_spoken wide code ≡ true
assembly-spoken wide text code h = (text-good wide text code h).1

-- a draft of a text's lines has at most 256 instructions
pub draft-few : (wide : Bool) (text : List ℕ) (lines : List Line) (draft : Draft) → lines_behind wide [] (text_lines text) ≡ Ok lines → Drafts lines draft → length draft.steps.items ≤ 256
draft-few wide text lines draft is drafts =
    omega (arith, (lines-good wide [] (text_lines text) lines (nothing-good wide) is).few, length-drafts lines draft drafts)

-- what a text stands for, by its lines
pub assembly-lines : (wide : Bool) (text : List ℕ) (lines : List Line) → lines_behind wide [] (text_lines text) ≡ Ok lines → assembly_in wide text ≡ program_read lines
unfolding assembly_in
assembly-lines wide text lines is = ap (λ read. read >>= program_read) is
