-- What the text of a program shows.
use Rattle.std.specs.Prelude.{ℕ, Bool, List, [], ◌∷◌, map, Option, option_map}
use Rattle.std.specs.List.{slice_get}
use Rattle.instruction_set.specs.Programs.{Instruction}
use Rattle.prog_asm.specs.declared.lines.Span.{Span}
use Rattle.task.specs.Plans.{NamedProgram}
use Rattle.task_text.specs.Instructions.{AreLinesOf}
use Rattle.task_text.specs.Places.{part}
use Rattle.task_text.specs.declared.program_texts.ProgramText.{ProgramText}

-- where the instruction of a point begins and ends
abbrev pub span_at : ProgramText → ℕ → Option (ℕ × ℕ)
span_at text point = option_map (λ span. (span.start, span.end)) (slice_get text.instructions.items point)

abbrev pub texts_at : List ℕ → List Span → List (List ℕ)
texts_at text spans = map (λ span. part text span.start span.end) spans

-- the code of programs
abbrev pub codes_in : List NamedProgram → List (List Instruction)
codes_in programs = map (λ program. program.code) programs

-- Each text shows lines of the program at its place alone, each for the point of its instruction, in the wide language or the other.
abbrev pub AreTextsOf : Bool → List ProgramText → List (List Instruction) → Type 0
AreTextsOf wide [] codes = Unit {0}
AreTextsOf wide (text ∷ texts) [] = ⊥
AreTextsOf wide (text ∷ texts) (code ∷ codes) = AreLinesOf wide (texts_at text.code.bytes.items text.instructions.items) code × AreTextsOf wide texts codes
