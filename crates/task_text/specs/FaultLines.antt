-- The faults of a file, and the lines that tell of them. (own)
use Rattle.std.specs.Prelude.{ℕ, ◌++◌, ◌-◌, ◌^◌, min, List, [], codes, nat_lt, if◌then◌else◌}
use Rattle.std.specs.Fmt.{decimal}
use Rattle.task_text.specs.Places.{place_at}

-- a fault: its line, its column, and what is told of it
pub record Fault : Type 0 where
  pub line : ℕ
  pub column : ℕ
  pub words : List ℕ

-- what is told at an offset of a file
abbrev pub fault_at : List ℕ → ℕ × List ℕ → Fault
fault_at file fault = record { line = (place_at file fault.0).0; column = (place_at file fault.0).1; words = fault.1 }

-- `line 3, column 7: ` and what is told
abbrev pub fault_line : Fault → List ℕ
fault_line fault = codes "line " ++ decimal fault.line ++ codes ", column " ++ decimal fault.column ++ codes ": " ++ fault.words ++ codes "\n"

abbrev pub placed_line : List ℕ → ℕ × List ℕ → List ℕ
placed_line file fault = fault_line (fault_at file fault)

-- how many faults are told, and the line of how many more there are
abbrev pub most_told : ℕ
most_told = 100

abbrev pub more_line : ℕ → List ℕ
more_line more = if nat_lt 0 more then codes "faults that are left out: " ++ decimal (min more (2 ^ 32 - 1)) ++ codes "\n" else []
