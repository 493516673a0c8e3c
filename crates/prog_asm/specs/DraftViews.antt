-- What a draft, the code's reading of a text so far, stands for.
use Rattle.std.specs.Prelude.{◌≡◌, ◌+◌, ℕ, Bool, true, false, List, [], ◌∷◌, ◌++◌, length, map, nat_lt, Option, Some, None, Ok, if◌then◌else◌}
use Rattle.prog_asm.specs.declared.drafts.Step.{Step as StepCode}
use Rattle.prog_asm.specs.declared.drafts.Draft.{Draft}
use Rattle.instruction_set.specs.Assembly.{Line, Step, TooMany, TwiceLabel, is_label, is_one_too_many, lines_behind, steps_on, steps_of}
use Rattle.instruction_set.specs.Forms.{Written}
use Rattle.instruction_set.specs.Lines.{text_lines}
use Rattle.prog_asm.specs.FaultPlaceViews.{faults_seen}
use Rattle.prog_asm.specs.FormViews.{written_from}
use Rattle.prog_asm.specs.LineFaults.{LineFault, counted, faults_on, instruction_place, is_beyond, placed_fault, with_new_label}
use Rattle.prog_asm.specs.LineViews.{has_point, point_in}
use Rattle.prog_asm.specs.WordPlaces.{Span}

abbrev pub step_from : StepCode → Step
step_from step = record { line = step.line; written = written_from step.written }

-- how many instructions stand before the label, if a line has it
abbrev pub labelled_from : ℕ → List ℕ → List Line → Option ℕ
labelled_from point name [] = None
labelled_from point name (line ∷ lines) =
    if is_label name line.label then Some point
    else labelled_from (point + length (steps_on 1 line.instruction)) name lines

-- The draft has the instructions of these lines, and where their labels stand.
pub record Drafts (lines : List Line) (draft : Draft) : Type 0 where
  pub steps : map step_from draft.steps.items ≡ steps_of lines
  pub labels : (name : List ℕ) → point_in draft.labels name ≡ labelled_from 0 name lines

-- A draft in which nothing is wrong is that of all lines of the text.
abbrev pub ReadsAll : Bool → List ℕ → Draft → Type 0
ReadsAll wide text draft = faults_seen draft.faults.items ≡ [] → (lines : List Line) × (lines_behind wide [] (text_lines text) ≡ Ok lines) × Drafts lines draft

-- What is wrong with a line by itself is noted, and nothing else changes.
pub record OwnAdded (before after : Draft) (own : List LineFault) : Type 0 where
  pub faults : faults_seen after.faults.items ≡ faults_seen before.faults.items ++ own
  pub labels : after.labels ≡ before.labels
  pub steps : after.steps ≡ before.steps

-- a label, if no line before has it
abbrev pub new_label_of : Bool → Option (List ℕ) → Option (List ℕ)
new_label_of twice label = if twice then None else label

-- A line's label gets its point, or it is noted that a line before has it.
pub record LabelAdded (before after : Draft) (number : ℕ) (label : Option (List ℕ)) (span : Span) : Type 0 where
  pub faults : faults_seen after.faults.items ≡ faults_seen before.faults.items ++ (if has_point before.labels label then placed_fault TwiceLabel number span ∷ [] else [])
  pub labels : (name : List ℕ) → point_in after.labels name
      ≡ (if is_label name (new_label_of (has_point before.labels label) label) then Some (length before.steps.items) else point_in before.labels name)
  pub steps : after.steps ≡ before.steps

-- A line's instruction is added at the end, or it is noted that it is one too many.
abbrev pub StepAdded : Draft → Draft → ℕ → Option Written → Span → Bool → Type 0
StepAdded before after number instruction span true =
    (is_one_too_many (length before.steps.items) instruction ≡ false) × (map step_from after.steps.items ≡ map step_from before.steps.items ++ steps_on number instruction)
    × (after.labels ≡ before.labels) × (after.faults ≡ before.faults)
StepAdded before after number instruction span false =
    (is_one_too_many (length before.steps.items) instruction ≡ true) × (faults_seen after.faults.items ≡ faults_seen before.faults.items ++ placed_fault TooMany number span ∷ [])

-- What a line adds: its faults, and itself as it counts, or one instruction too many.
abbrev pub JudgesLine : Bool → List Line → List ℕ → Draft → Draft → Bool → Type 0
JudgesLine wide before line old new true =
    (is_beyond wide before line ≡ false) × Drafts (before ++ with_new_label before (counted wide line) ∷ []) new
    × (faults_seen new.faults.items ≡ faults_seen old.faults.items ++ faults_on wide before line)
JudgesLine wide before line old new false =
    (is_beyond wide before line ≡ true)
    × (faults_seen new.faults.items ≡ faults_seen old.faults.items ++ faults_on wide before line ++ placed_fault TooMany (length before + 1) (instruction_place line) ∷ [])

-- the point that a name leads to, where an instruction follows its label
abbrev pub below : ℕ → Option ℕ → Option ℕ
below points None = None
below points (Some point) = if nat_lt point points then Some point else None

abbrev pub draft_point : Draft → List ℕ → Option ℕ
draft_point draft name = below (length draft.steps.items) (point_in draft.labels name)
