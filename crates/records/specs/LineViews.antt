-- The lines that are told, as texts.
use Rattle.std.specs.Prelude.{List, ℕ, map}
use Rattle.records.specs.declared.strace.StraceLine.{StraceLine}

abbrev pub texts_told : List StraceLine → List (List ℕ)
texts_told lines = map (λ line. line.text.now) lines
