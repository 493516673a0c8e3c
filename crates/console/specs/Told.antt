-- How a fault is told. (own)
use Rattle.std.specs.Prelude.{◌≡◌, ◌<◌, ◌⊎◌, ℕ, List, Option}
use Rattle.rights.specs.Output.{Took, TookFront}
use Rattle.console.specs.Faults.{Fault, No_memory, fault_status, fault_text}

-- The line was written, or a beginning of it before a failure of the writer.
abbrev pub TellsLine : Option (List ℕ) → Option (List ℕ) → ℕ → ℕ → List ℕ → Type 0
TellsLine before after failures failed line = Took before after line ⊎ (TookFront before after line × (failures < failed))

-- The fault, or in its place want of memory, was told so by the program of this name, with its status.
abbrev pub IsToldAs : List ℕ → Fault → ℕ → Option (List ℕ) → Option (List ℕ) → ℕ → ℕ → Type 0
IsToldAs name fault status before after failures failed =
    (status ≡ fault_status fault) × TellsLine before after failures failed (fault_text name fault)

abbrev pub IsTold : List ℕ → Fault → ℕ → Option (List ℕ) → Option (List ℕ) → ℕ → ℕ → Type 0
IsTold name fault status before after failures failed =
    IsToldAs name fault status before after failures failed ⊎ IsToldAs name No_memory status before after failures failed
