-- The points that a process may go to from a point, by the text of its program alone. (own; that the mode's two calls never fail:
-- cap_enter(2), cap_getmode(2), of a kernel that has the mode)
use Rattle.std.specs.Prelude.{◌+◌, ℕ, Bool, true, false, List, [], ◌∷◌, Option, Some, None, if◌then◌else◌}
use Rattle.std.specs.List.{slice_get}
use Rattle.instruction_set.specs.Programs.{Instruction, Set, Mov, Add, In, Jmp, Jeq, Jlt, Halt, Invoke, Syscall, Cap_enter, Cap_getmode}

abbrev pub always_succeeds : Syscall → Bool
always_succeeds Cap_enter = true
always_succeeds Cap_getmode = true
always_succeeds _ = false

-- whether it enters capability mode (cap_enter(2))
abbrev pub enters_mode : Instruction → Bool
enters_mode (Invoke Cap_enter otherwise) = true
enters_mode _ = false

-- the next point, and that of a jump or of an `else`
abbrev pub successors : Instruction → ℕ → List ℕ
successors (Set register value) point = (point + 1) ∷ []
successors (Mov register source) point = (point + 1) ∷ []
successors (Add register addend) point = (point + 1) ∷ []
successors (In register) point = (point + 1) ∷ []
successors (Jmp target) point = target ∷ []
successors (Jeq register value target) point = (point + 1) ∷ target ∷ []
successors (Jlt register value target) point = (point + 1) ∷ target ∷ []
successors Halt point = []
successors (Invoke call otherwise) point = (point + 1) ∷ (if always_succeeds call then [] else otherwise ∷ [])

abbrev pub successors_by : Option Instruction → ℕ → List ℕ
successors_by None point = []
successors_by (Some i) point = successors i point

-- the points that a point of a program leads to
abbrev pub successors_at : List Instruction → ℕ → List ℕ
successors_at code point = successors_by (slice_get code point) point
