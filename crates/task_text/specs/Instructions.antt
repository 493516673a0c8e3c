-- The instructions that are shown of a program's text. (own)
use Rattle.std.specs.Prelude.{ℕ, Bool, List, [], ◌∷◌, Option, None, Some}
use Rattle.std.specs.List.{slice_get}
use Rattle.instruction_set.specs.Programs.{Instruction}
use Rattle.prog_asm.specs.LineParts.{IsLineOf}
use Rattle.task_text.specs.Places.{part, place_at}

-- Texts from point 0 on are each the line of the instruction at its point, in the wide language or the other.
abbrev pub AreLinesOf : Bool → List (List ℕ) → List Instruction → Type 0
AreLinesOf wide [] code = Unit {0}
AreLinesOf wide (text ∷ texts) [] = ⊥
AreLinesOf wide (text ∷ texts) (instruction ∷ code) = IsLineOf wide text instruction × AreLinesOf wide texts code

-- the text that begins and ends there; nothing where none is shown
abbrev pub text_there : List ℕ → Option (ℕ × ℕ) → List ℕ
text_there code None = []
text_there code (Some span) = part code span.0 span.1

-- the offset in a file that a byte of the text comes from, where the text ends before one; and the line of the file there
abbrev pub or_end : ℕ → Option ℕ → ℕ
or_end end None = end
or_end end (Some offset) = offset

abbrev pub offset_of : List ℕ → ℕ → ℕ → ℕ
offset_of offsets end at = or_end end (slice_get offsets at)

abbrev pub line_there : List ℕ → List ℕ → ℕ → Option (ℕ × ℕ) → ℕ
line_there file offsets end None = 0
line_there file offsets end (Some span) = (place_at file (offset_of offsets end span.0)).0
