-- What a step comes to, in a world that says the same of all that is named. (own)
use Rattle.std.specs.Prelude.{◌≡◌, ◌%◌, ◌+◌, ◌==◌, ◌^◌, ◌<◌, ℕ, nat_lt, List, map, Some}
use Rattle.std.specs.List.{slice_get}
use Rattle.std.specs.Option.{option_map}
use Rattle.process.specs.State.{ProcessState, moved_to}
use Rattle.instruction_set.specs.Programs.{Instruction, Set, Mov, Add, In, Jmp, Jeq, Jlt, Halt, Invoke}
use Rattle.kernel.specs.World.{World, Choice, IsFresh}
use Rattle.kernel.specs.Answers.{Event}
use Rattle.kernel.specs.Steps.{LineResult, Programs, executed, goes_on, jumped, register, step, stepped, with_register}
use Rattle.kernel.specs.Alike.{AlikeWorlds}
use Rattle.kernel.specs.Hostile.{Act, about}
use Rattle.kernel.specs.Walks.{FitsIfWalking, call_in}
use Rattle.kernel.specs.WellFormed.{IsWorld, Numbering}
use Rattle.syscalls.specs.Shows.{Shown, shown}
use Rattle.simulator.specs.Lines.{Line, line_at, shown_step}

-- Some choice of numbers that nobody names leads to this line, and to a world that is alike.
pub record StepsMachine (programs : Programs) (w : World) (e : Event) (line : Line) (next : World) : Type 0 where
  pub choice : Choice
  pub fresh : IsFresh w.files choice
  pub line_is : line ≡ line_at e (step programs w e choice).acted
  pub world_is : AlikeWorlds (step programs w e choice).world next

-- The same of a step in which the event's process does this.
abbrev pub StepsMachineAs : Programs → World → Event → Act → Line → World → Type 0
StepsMachineAs programs w e act line next = StepsMachine programs (about w e.process act) e line next

-- The same of an instruction of the event's process.
pub record Executes (w : World) (e : Event) (i : Instruction) (outcome : LineResult) (effects : List Shown) (next : World) : Type 0 where
  pub process : ProcessState
  pub made : slice_get w.processes e.process ≡ Some process
  pub choice : Choice
  pub fresh : IsFresh w.files choice
  pub outcome_is : outcome ≡ (executed w e choice process i).outcome
  pub prints : effects ≡ map shown (executed w e choice process i).effects
  pub world_is : AlikeWorlds (executed w e choice process i).world next

-- what holds of an instruction behind which there is another
abbrev pub NeedsNext : Instruction → Type 0 → Type 0
NeedsNext (Jmp target) Next = Unit {0}
NeedsNext Halt Next = Unit {0}
NeedsNext _ Next = Next

-- The world is well formed, for some programs, but for what its processes have under way; the process was made, and it has a next
-- point, where the instruction needs one; and what it has under way itself, if anything, is of this instruction's call.
pub record MayExecute (w : World) (p : ℕ) (i : Instruction) : Type 0 where
  pub programs : Programs
  pub numbering : Numbering
  pub good : IsWorld programs numbering w
  pub process : ProcessState
  pub made : slice_get w.processes p ≡ Some process
  pub next : NeedsNext i (process.point + 1 < 256)
  pub fits : FitsIfWalking w.tree w.files.objects (w.files.table p) process (call_in (Some i)) process.walk

-- The same of the event's process, which was made, and may have ended.
pub record DoesAs (programs : Programs) (w : World) (e : Event) (outcome : LineResult) (effects : List Shown) (next : World) : Type 0 where
  pub process : ProcessState
  pub made : slice_get w.processes e.process ≡ Some process
  pub choice : Choice
  pub fresh : IsFresh w.files choice
  pub does :
      option_map shown_step (stepped programs w e choice (Some process)).acted
      ≡ Some (record { program = process.program; point = process.point; outcome = outcome; effects = effects })
  pub world_is : AlikeWorlds (stepped programs w e choice (Some process)).world next

-- What an instruction does: it changes its process alone, it ends it, or it is a call.
pub data Action : Type 0 where
  Moves : Action
  Ends : Action
  Calls : Action

abbrev pub action : Instruction → Action
action Halt = Ends
action (Invoke call otherwise) = Calls
action _ = Moves

-- what it makes of its process by itself
abbrev pub acted_on : ProcessState → ℕ → Instruction → ProcessState
acted_on s input (Set r value) = goes_on (with_register s r value)
acted_on s input (Mov r source) = goes_on (with_register s r (register s source))
acted_on s input (Add r addend) = goes_on (with_register s r ((register s r + register s addend) % 2 ^ 32))
acted_on s input (In r) = goes_on (with_register s r input)
acted_on s input (Jmp target) = moved_to s target
acted_on s input (Jeq r value target) = jumped s (register s r == value) target
acted_on s input (Jlt r value target) = jumped s (nat_lt (register s r) value) target
acted_on s input Halt = s
acted_on s input (Invoke call otherwise) = s
