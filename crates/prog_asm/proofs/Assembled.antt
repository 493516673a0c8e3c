-- What a text is assembled to, by its faults and its draft.
use Rattle.std.proofs.Common.{◌≡◌, ℕ, Bool, true, false, List, [], ◌∷◌, map, refl, ap, sym, ◌∙◌}
use Rattle.std.specs.Prelude.{Option, Some, None, cond, Result, Ok, Err}
use Rattle.std.specs.List.{cons_option, filter_map, slice_get}
use Rattle.prog_asm.specs.declared.drafts.Draft.{Draft}
use Rattle.prog_asm.specs.declared.faults.LineFault.{LineFault as LineFaultCode}
use Rattle.prog_asm.specs.declared.faults.LineMistake.{LineMistake}
use Rattle.prog_asm.specs.declared.faults.LineMistake.TheVariants as mistake
use Rattle.instruction_set.specs.Assembly.{FallsOff, Fault, Line, Step, assembly_in, code_from, complete, fault, last_line_number, lines_behind, placed, placed_at, ◌>>=◌}
use Rattle.instruction_set.specs.Lines.{text_lines}
use Rattle.instruction_set.specs.Programs.{Instruction, ends_well}
use Rattle.prog_asm.specs.DraftViews.{Drafts, draft_point, step_from}
use Rattle.prog_asm.specs.FaultPlaceViews.{faults_seen, mistake_of}
use Rattle.prog_asm.specs.FaultViews.{FaultIs, fault_at}
use Rattle.prog_asm.specs.LineFaults.{fault_in, faults_of, first_fault}
use Rattle.prog_asm.proofs.GoodPrograms.{assembly-lines}
use Rattle.prog_asm.proofs.JudgedLaws.{faults-first}
use Rattle.prog_asm.proofs.Points.{completed-drafts}

error-in : {A : Type 0} (read : Result A Fault) (told : Fault) → Some told ≡ fault_in read → read ≡ Err told
error-in (Ok a) told is = absurd cc
error-in (Err own) told is = let same : own ≡ told = cc in ap Err same

-- A text's first fault is why it isn't assembled.
pub fault-is : {A : Type 0} (kind : LineMistake) (line : ℕ) (read : Result A Fault) → Some (fault (mistake_of kind) line) ≡ fault_in read → FaultIs (fault_at kind line) read
fault-is mistake.Word line read is = error-in read _ is
fault-is mistake.Operand line read is = error-in read _ is
fault-is mistake.NoLabel line read is = error-in read _ is
fault-is mistake.TwiceLabel line read is = error-in read _ is
fault-is mistake.TooMany line read is = error-in read _ is
fault-is mistake.FallsOff line read is = error-in read _ is

-- the first of the code's faults, if there is one
pub first-seen : (faults : List LineFaultCode) (first : LineFaultCode) → Some first ≡ slice_get faults 0 → first_fault (faults_seen faults) ≡ Some (fault (mistake_of first.mistake) first.line)
first-seen [] first is = absurd cc
first-seen (own ∷ faults) first is = let same : own ≡ first = cc in ap (λ f. Some (fault (mistake_of f.mistake) f.line)) same

pub none-seen : (faults : List LineFaultCode) → None ≡ slice_get faults 0 → faults_seen faults ≡ []
none-seen [] none = refl
none-seen (own ∷ faults) none = absurd cc

-- The instructions, where each is placed.
code-good : (points : List ℕ → Option ℕ) (steps : List Step) (code : List Instruction) → code_from points steps ≡ Ok code →
    filter_map (λ step. placed points step.written) steps ≡ code
code-good points [] code is = cc
code-good points (step ∷ steps) code is = go (placed points step.written) (code_from points steps) (code-good points steps) is
  where
    go : (first : Option Instruction) (rest : Result (List Instruction) Fault) →
        ((code : List Instruction) → rest ≡ Ok code → filter_map (λ step. placed points step.written) steps ≡ code) →
        (placed_at step.line first >>= (λ i. rest >>= (λ code. Ok (i ∷ code)))) ≡ Ok code →
        cons_option first (filter_map (λ step. placed points step.written) steps) ≡ code
    go None rest good is = absurd cc
    go (Some i) (Ok code) good is = ap (λ rest. i ∷ rest) (good code refl) ∙ cc
    go (Some i) (Err told) good is = absurd cc

completed-good : (points : List ℕ → Option ℕ) (steps : List Step) → fault_in (code_from points steps >>= complete steps) ≡ None →
    (code_from points steps >>= complete steps) ≡ Ok (filter_map (λ step. placed points step.written) steps)
completed-good points steps none = go (code_from points steps) (code-good points steps) none
  where
    ends : (code : List Instruction) (is : Bool) → fault_in (cond is (Ok code) (Err (fault FallsOff (last_line_number steps)))) ≡ None →
        cond is (Ok code) (Err (fault FallsOff (last_line_number steps))) ≡ Ok code
    ends code true none = refl
    ends code false none = absurd cc

    go : (read : Result (List Instruction) Fault) → ((code : List Instruction) → read ≡ Ok code → filter_map (λ step. placed points step.written) steps ≡ code) →
        fault_in (read >>= complete steps) ≡ None → (read >>= complete steps) ≡ Ok (filter_map (λ step. placed points step.written) steps)
    go (Ok code) good none = ends code (ends_well code) none ∙ ap Ok (sym (good code refl))
    go (Err told) good none = absurd cc

-- A text with which nothing is wrong is assembled to its draft's instructions.
pub program-is : (wide : Bool) (text : List ℕ) (lines : List Line) (draft : Draft) → faults_of wide text ≡ [] → lines_behind wide [] (text_lines text) ≡ Ok lines → Drafts lines draft →
    assembly_in wide text ≡ Ok (filter_map (λ step. placed (draft_point draft) step.written) (map step_from draft.steps.items))
program-is wide text lines draft none is drafts =
    let read = assembly-lines wide text lines is ∙ sym (completed-drafts lines draft drafts) in
    read ∙ completed-good (draft_point draft) (map step_from draft.steps.items) (sym (ap fault_in read) ∙ sym (faults-first wide text) ∙ ap first_fault none)
