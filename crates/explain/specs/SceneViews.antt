-- What is shown of a point in a scene: the text of its program has it.
use Rattle.std.specs.Prelude.{ℕ, List, [], Option, None, Some}
use Rattle.task_text.specs.Instructions.{line_there, text_there}
use Rattle.task_text.specs.ProgramViews.{span_at}
use Rattle.task_text.specs.declared.program_texts.ProgramText.{ProgramText}

-- the instruction of a point as the file has it; nothing where that isn't known
abbrev pub shown_text : Option ProgramText → ℕ → List ℕ
shown_text None point = []
shown_text (Some text) point = text_there text.code.bytes.items (span_at text point)

-- its line in the file, or 0
abbrev pub shown_line : List ℕ → Option ProgramText → ℕ → ℕ
shown_line file None point = 0
shown_line file (Some text) point = line_there file text.code.offsets.items text.code.end (span_at text point)
