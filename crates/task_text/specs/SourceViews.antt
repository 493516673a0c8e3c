-- What is shown of the lines of a program's text.
use Rattle.std.specs.Prelude.{ℕ, List, ◌++◌, map}
use Rattle.texts.specs.Lines.{Line}
use Rattle.task_text.specs.declared.source_lines.SourceLine.{SourceLine}

-- all that is shown of a line
abbrev pub line_shown : SourceLine → List ℕ
line_shown line = line.before.now ++ (line.instruction.now ++ line.behind.now)

abbrev pub texts_in : List Line → List (List ℕ)
texts_in lines = map (λ line. line.text) lines
