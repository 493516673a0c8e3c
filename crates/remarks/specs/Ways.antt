-- From which points of a program some come, by its text alone. (own)
use Rattle.std.specs.Prelude.{◌||◌, ◌==◌, ℕ, zero, suc, Bool, false, List, length, map}
use Rattle.std.specs.List.{list_any, range_with_len, slice_index_or}
use Rattle.instruction_set.specs.Programs.{Instruction}
use Rattle.instruction_set.specs.Successors.{successors_at}

-- the points of a program
abbrev pub points : List Instruction → List ℕ
points code = range_with_len 0 (length code)

abbrev pub is_flagged : List Bool → ℕ → Bool
is_flagged flags point = slice_index_or flags point false

-- the points that are flagged, or lead to one that is
abbrev pub or_before : List Instruction → List Bool → List Bool
or_before code flags = map (λ point. is_flagged flags point || list_any (is_flagged flags) (successors_at code point)) (points code)

-- what so many rounds of a step make
unfoldable pub rounds : {X : Type 0} → (X → X) → ℕ → X → X
rounds step zero x = x
rounds step (suc more) x = rounds step more (step x)

-- those from which a flagged one comes: no way to it is longer than there are points
abbrev pub from_which : List Instruction → List Bool → List Bool
from_which code flags = rounds (or_before code) (length code) flags

-- the flags of points of which one alone is set
abbrev pub only : List Instruction → ℕ → List Bool
only code point = map (λ (other : ℕ). other == point) (points code)

-- those to which instructions lead from the first
abbrev pub comes_to : List Instruction → ℕ → Bool
comes_to code point = is_flagged (from_which code (only code point)) 0

abbrev pub reached : List Instruction → List Bool
reached code = map (comes_to code) (points code)
