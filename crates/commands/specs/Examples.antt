-- Small tasks, and what their runs show. Each has one process `main` outside capability mode, with `/work/in` open for
-- reading as descriptor 2, and the grant `work` to look and read beneath `/work`.
use Rattle.std.specs.Prelude.{◌≡◌, ℕ, zero, suc, true, false, List, [], ◌∷◌, codes, Option}
use Rattle.rights.specs.Sets.{all_rights, all_commands, seek_right}
use Rattle.rights.specs.Operations.{Look, Read as Reads}
use Rattle.instruction_set.specs.Programs.{Instruction, Jeq, Halt, Invoke, Cap_enter, Read, Number}
use Rattle.kernel.specs.Answers.{Event}
use Rattle.kernel.specs.Steps.{Acted}
use Rattle.task.specs.Breaches.{small_tree}
use Rattle.task.specs.Plans.{On_node, Plan, Grant, Start, unmarked}
use Rattle.simulator.specs.Simulations.{IsRun}
use Rattle.simulator.specs.Traces.{trace_text}

abbrev pub work_grant : Grant
work_grant = record { name = codes "work"; path = codes "work" ∷ []; operations = Look ∷ Reads ∷ [] }

-- the one process, with these rights on the file
abbrev pub small_start : ℕ → Start
small_start rights = record {
  program = 0;
  mode = false;
  descriptors =
      record {
        number = 2;
        object = On_node 2 (record { readable = true; writable = false });
        rights = rights;
        fcntls = all_commands;
      }
      ∷ [];
}

abbrev pub small_plan : List Instruction → ℕ → Plan
small_plan code rights = record {
  wide = false;
  nodes = small_tree;
  grants = work_grant ∷ [];
  programs = unmarked (codes "main") code ∷ [];
  starts = small_start rights ∷ [];
}

-- enters the mode and reads a byte
abbrev pub enter_and_read : List Instruction
enter_and_read = Invoke Cap_enter 2 ∷ Invoke (Read (Number 2)) 2 ∷ Halt ∷ []

-- reads until the end, or until a byte is neither `A` nor `B`
abbrev pub read_on : List Instruction
read_on = Invoke (Read (Number 2)) 4 ∷ Jeq 0 256 4 ∷ Jeq 0 65 0 ∷ Jeq 0 66 0 ∷ Halt ∷ []

-- the task that runs without words
abbrev pub first_plan : Plan
first_plan = small_plan enter_and_read all_rights

-- the same without the right to read
abbrev pub bare_plan : Plan
bare_plan = small_plan enter_and_read seek_right

abbrev pub loop_plan : Plan
loop_plan = small_plan read_on all_rights

-- so many events of process 0
abbrev pub events_of_first : ℕ → List Event
events_of_first zero = []
events_of_first (suc n) = record { process = 0; input = 0; refuse = false } ∷ events_of_first n

-- an event of a process that none of these tasks makes
abbrev pub absent_event : Event
absent_event = record { process = 5; input = 0; refuse = false }

-- what runs without words
abbrev pub example_events : List Event
example_events = events_of_first 2

-- every run of these events shows this text
abbrev pub AlwaysShows : Plan → List Event → List ℕ → Type 0
AlwaysShows plan events text = (lines : List (Option Acted)) → IsRun plan events lines → trace_text plan events lines ≡ text
