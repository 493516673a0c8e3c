-- Texts of instructions and of programs, one more.
use Rattle.std.proofs.Common.{◌≡◌, ◌<◌, ℕ, zero, suc, List, [], ◌∷◌, ◌++◌, length, map, get_or, ap, sym, subst, arith}
use Rattle.std.specs.Prelude.{Bool, Some}
use Rattle.std.specs.List.{slice_get}
use Rattle.instruction_set.specs.Programs.{Instruction}
use Rattle.prog_asm.specs.LineParts.{IsLineOf}
use Rattle.task_text.specs.Instructions.{AreLinesOf}
use Rattle.task_text.specs.ProgramViews.{AreTextsOf, codes_in, texts_at}
use Rattle.std.specs.List.Sorted.{IsNonDecreasingBy}
use Rattle.std.proofs.lemmas.List.{get_or-map, length-map}
use Rattle.task.specs.declared.programs.NamedProgram.{NamedProgram as ProgramCode}
use Rattle.task.specs.Views.{programs_of}
use Rattle.task_text.specs.FaultViews.{fault_of}
use Rattle.task_text.specs.declared.faults.Line.{Line}
use Rattle.task_text.specs.declared.program_texts.ProgramText.{ProgramText}

pub one-line : (wide : Bool) (texts : List (List ℕ)) (code : List Instruction) (text : List ℕ) (instruction : Instruction) → AreLinesOf wide texts code →
    slice_get code (length texts) ≡ Some instruction → IsLineOf wide text instruction → AreLinesOf wide (texts ++ text ∷ []) code
one-line wide [] [] text instruction are there is = absurd cc
one-line wide [] (first ∷ code) text instruction are there is = let same : first ≡ instruction = cc in (subst (IsLineOf wide text) (sym same) is, tt)
one-line wide (own ∷ texts) [] text instruction are there is = absurd are
one-line wide (own ∷ texts) (first ∷ code) text instruction are there is = (are.0, one-line wide texts code text instruction are.1 there is)

pub one-text : (wide : Bool) (texts : List ProgramText) (codes : List (List Instruction)) (text : ProgramText) (code : List Instruction) → AreTextsOf wide texts codes →
    slice_get codes (length texts) ≡ Some code → AreLinesOf wide (texts_at text.code.bytes.items text.instructions.items) code →
    AreTextsOf wide (texts ++ text ∷ []) codes
one-text wide [] [] text code are there lines = absurd cc
one-text wide [] (first ∷ codes) text code are there lines =
    let same : first ≡ code = cc in (subst (AreLinesOf wide (texts_at text.code.bytes.items text.instructions.items)) (sym same) lines, tt)
one-text wide (own ∷ texts) [] text code are there lines = absurd are
one-text wide (own ∷ texts) (first ∷ codes) text code are there lines = (are.0, one-text wide texts codes text code are.1 there lines)

-- Lines in the order of their offsets tell of faults in that order.
pub faults-ordered : (lines : List Line) → IsNonDecreasingBy (λ line. line.offset) lines → IsNonDecreasingBy (λ fault. fault.0) (map fault_of lines)
faults-ordered [] ordered i j d up within = absurd (omega arith)
faults-ordered (line ∷ lines) ordered i j d up within =
    let own = get_or-map fault_of (line ∷ lines) i line d (omega (arith, length-map (line ∷ lines) fault_of)) in
    let other = get_or-map fault_of (line ∷ lines) j line d (omega (arith, length-map (line ∷ lines) fault_of)) in
    rw (own, other) (ordered i j line up (omega (arith, length-map (line ∷ lines) fault_of)))

-- what stands at a place of a list, as it is seen
pub seen-there : {A B : Type 0} (view : A → B) (xs : List A) (n : ℕ) (x : A) → n < length xs → x ≡ get_or xs n x → slice_get (map view xs) n ≡ Some (view x)
seen-there view [] n x within is = absurd (omega arith)
seen-there view (y ∷ xs) zero x within is = ap (λ z. Some (view z)) (sym is)
seen-there view (y ∷ xs) (suc n) x within is = seen-there view xs n x (omega arith) is

pub code-there : (programs : List ProgramCode) (n : ℕ) (program : ProgramCode) → n < length programs → program ≡ get_or programs n program →
    slice_get (codes_in (programs_of programs)) n ≡ Some program.program
code-there [] n program within is = absurd (omega arith)
code-there (first ∷ programs) zero program within is = ap (λ p. Some p.program) (sym is)
code-there (first ∷ programs) (suc n) program within is = code-there programs n program (omega arith) is
