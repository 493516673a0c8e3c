-- The events that a search tries. (own)
use Rattle.std.specs.Prelude.{ℕ, true, false, List, [], ◌∷◌, map, if◌then◌else◌}
use Rattle.call_facts.specs.Facts.{may_be_refused}
use Rattle.instruction_set.specs.Programs.{Instruction, In, Invoke, called}
use Rattle.kernel.specs.Answers.{Event}

-- a step of a process, which gets this byte if it reads one
abbrev pub step_of : ℕ → ℕ → Event
step_of process byte = record { process = process; input = byte; refuse = false }

-- a step whose call the kernel refuses
abbrev pub refused_step : ℕ → Event
refused_step process = record { process = process; input = 0; refuse = true }

-- Of a process at an instruction: where it reads a byte, a step for each of these; else one step, and that its call is refused, where it may be.
abbrev pub tried : List ℕ → ℕ → Instruction → List Event
tried bytes process (In register) = map (step_of process) bytes
tried bytes process (Invoke call otherwise) = step_of process 0 ∷ (if may_be_refused (called call) then refused_step process ∷ [] else [])
tried bytes process _ = step_of process 0 ∷ []
