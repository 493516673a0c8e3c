-- What stands where on a line, and when a text is the line of an instruction. (own)
use Rattle.std.specs.Prelude.{◌≡◌, ℕ, Bool, List, [], ◌∷◌, Option, Some, None, Ok, option_map}
use Rattle.instruction_set.specs.Assembly.{line_read, line_with, placed}
use Rattle.instruction_set.specs.Forms.{Written}
use Rattle.instruction_set.specs.Programs.{Instruction, Jmp, Jeq, Jlt, Invoke}
use Rattle.prog_asm.specs.LineFaults.{behind_label, label_in, last_place}
use Rattle.prog_asm.specs.WordPlaces.{Span, Word, words_on}

-- where its label stands, without the colon
abbrev pub label_span : List ℕ → Option Span
label_span line = option_map (λ label. label.span) (label_in (words_on line))

-- where its instruction does, from its first word to its last
abbrev pub span_over : List Word → Option Span
span_over [] = None
span_over (word ∷ words) = Some (record { start = word.span.start; end = (last_place (word ∷ words)).end })

abbrev pub instruction_span : List ℕ → Option Span
instruction_span line = span_over (behind_label (words_on line))

-- the point that an instruction leads to; 0 where it leads to none
abbrev pub led_point : Instruction → ℕ
led_point (Jmp target) = target
led_point (Jeq register value target) = target
led_point (Jlt register value target) = target
led_point (Invoke call otherwise) = otherwise
led_point instruction = 0

-- What stands on a line is an instruction, wherever the label leads that it names.
pub record IsWritten (found : Option Written) (instruction : Instruction) : Type 0 where
  pub written : Written
  pub there : found ≡ Some written
  pub same : placed (λ name. Some (led_point instruction)) written ≡ Some instruction

-- A text by itself is the line of an instruction, without a label, in the wide language or the other.
pub record IsLineOf (wide : Bool) (text : List ℕ) (instruction : Instruction) : Type 0 where
  pub found : Option Written
  pub read : line_read wide text ≡ Ok (line_with None found)
  pub instruction_is : IsWritten found instruction
