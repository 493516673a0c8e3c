-- One step of a run: the instruction of one process, and the line that a trace has of it. (own)
use Rattle.std.specs.Prelude.{◌+◌, ◌%◌, ◌^◌, ◌==◌, ℕ, zero, suc, Bool, true, false, nat_lt, List, [], ◌∷◌, length, slice_set, slice_index_or, Option, Some, None}
use Rattle.std.specs.List.{slice_get}
use Rattle.rights.specs.Values.{ProcessNumber}
use Rattle.rights.specs.Errors.{Errno, errno_number, Cause}
use Rattle.rights.specs.Maps.{put}
use Rattle.process.specs.State.{Deed, ProcessState, ended, handed_to, left_by, moved_to}
use Rattle.instruction_set.specs.Programs.{Instruction, Set, Mov, Add, In, Jmp, Jeq, Jlt, Halt, Invoke}
use Rattle.kernel.specs.World.{World, Choice}
use Rattle.kernel.specs.Answers.{Event, Effect, Answer, Fails, Waits, Gives, Walks}
use Rattle.kernel.specs.Calls.{answer}
use Rattle.kernel.specs.Changes.{given, changed}

-- what a step comes to
pub data LineResult : Type 0 where
  No_call : LineResult  -- an instruction that is no call
  Halted : LineResult
  Value : ℕ → LineResult  -- the call's, in the caller
  Failed : (errno : Errno) (cause : Cause) → LineResult
  Waiting : LineResult
  Walks_on : LineResult  -- the call has names of its path left to look up
  Ended : LineResult  -- the process had ended before

-- What an instruction does: the world after it, with the process in it.
pub record Executed : Type 0 where
  pub world : World
  pub outcome : LineResult
  pub effects : List Effect

abbrev pub register : ProcessState → ℕ → ℕ
register s r = slice_index_or s.registers r 0

abbrev pub with_register : ProcessState → ℕ → ℕ → ProcessState
with_register s r value = record s { registers = slice_set s.registers r value }

-- the process goes on to the next point
abbrev pub goes_on : ProcessState → ProcessState
goes_on s = moved_to s (s.point + 1)

-- the world with this state of the process
abbrev pub with_process : World → ProcessNumber → ProcessState → World
with_process w p s = record w { processes = slice_set w.processes p s }

-- An instruction that is no call changes its process alone.
abbrev pub plain : World → ProcessNumber → ProcessState → Executed
plain w p s = record { world = with_process w p s; outcome = No_call; effects = [] }

-- `halt` ends the process and closes its table.
abbrev pub halted : World → ProcessNumber → ProcessState → World
halted w p s = record w {
  processes = slice_set w.processes p (ended s);
  files = record w.files { table = put w.files.table p (λ n. None) };
}

-- An error sets register 7 and goes to its label, and changes nothing else; a success sets register 0 and
-- goes on; a call that waits changes nothing. A call that walks keeps what it has under way, and stays.
abbrev pub failed : ProcessState → Errno → ℕ → ProcessState
failed s errno otherwise = record s { registers = slice_set s.registers 7 (errno_number errno); point = otherwise; walk = None }

unfoldable pub answered : World → ProcessNumber → ProcessState → Choice → ℕ → Answer → Executed
answered w p s choice otherwise (Fails errno cause) =
    record { world = with_process w p (failed s errno otherwise); outcome = Failed errno cause; effects = [] }
answered w p s choice otherwise Waits = record { world = w; outcome = Waiting; effects = [] }
answered w p s choice otherwise (Gives value change effects) =
    record { world = changed w p (given s value change) choice change; outcome = Value value; effects = effects }
answered w p s choice otherwise (Walks walking) =
    record { world = with_process w p (record s { walk = Some walking }); outcome = Walks_on; effects = [] }

unfoldable pub jumped : ProcessState → Bool → ℕ → ProcessState
jumped s true target = moved_to s target
jumped s false target = goes_on s

unfoldable pub executed : World → Event → Choice → ProcessState → Instruction → Executed
executed w e choice s (Set r value) = plain w e.process (goes_on (with_register s r value))
executed w e choice s (Mov r source) = plain w e.process (goes_on (with_register s r (register s source)))
executed w e choice s (Add r addend) = plain w e.process (goes_on (with_register s r ((register s r + register s addend) % 2 ^ 32)))
executed w e choice s (In r) = plain w e.process (goes_on (with_register s r e.input))
executed w e choice s (Jmp target) = plain w e.process (moved_to s target)
executed w e choice s (Jeq r value target) = plain w e.process (jumped s (register s r == value) target)
executed w e choice s (Jlt r value target) = plain w e.process (jumped s (nat_lt (register s r) value) target)
executed w e choice s Halt = record { world = halted w e.process s; outcome = Halted; effects = [] }
executed w e choice s (Invoke call otherwise) = answered w e.process s choice otherwise (answer w e.process s e call)

-- ## Deeds
-- A process of an untrusted program that is in the mode may be made to do any instruction, whatever its program has at its point.
-- the instruction that a process goes on with
abbrev pub next_instruction : Option Deed → Option Instruction → Option Instruction
next_instruction None here = here
next_instruction (Some deed) here = Some deed.instruction

-- the list with the process of this number changed, if it was made
abbrev pub changed_at : List ProcessState → ProcessNumber → (ProcessState → ProcessState) → List ProcessState
changed_at [] p change = []
changed_at (s ∷ processes) zero change = change s ∷ processes
changed_at (s ∷ processes) (suc p) change = s ∷ changed_at processes p change

-- What comes after a deed of process p, before which so many processes were made: the process, and the child that it has made if it
-- has made one, have the registers and the point of the deed, after an error and where it waits too. While names of a path are
-- left, the deed goes on.
abbrev pub after_deed : Option Deed → ProcessNumber → ℕ → LineResult → List ProcessState → List ProcessState
after_deed None p made outcome processes = processes
after_deed (Some deed) p made Walks_on processes = processes
after_deed (Some deed) p made _ processes = changed_at (changed_at processes p (left_by deed)) made (left_by deed)

-- The process of an event, if it was made, with its program and point; and what its step comes to. A process
-- at a point without an instruction, where no run comes, changes nothing.
pub record Acted : Type 0 where
  pub program : ℕ
  pub point : ℕ
  pub outcome : LineResult
  pub effects : List Effect

pub record Stepped : Type 0 where
  pub world : World
  pub acted : Option Acted  -- nothing if the process was not made

abbrev pub acted_as : ProcessState → LineResult → List Effect → Option Acted
acted_as s outcome effects = Some (record { program = s.program; point = s.point; outcome = outcome; effects = effects })

abbrev pub Programs : Type 0
Programs = ℕ → List Instruction

unfoldable pub stepped_at : World → Event → Choice → ProcessState → Option Instruction → Stepped
stepped_at w e choice s None = record { world = w; acted = acted_as s Ended [] }
stepped_at w e choice s (Some i) =
    let x = executed w e choice s i in
    record {
      world = record x.world { processes = after_deed s.kept e.process (length w.processes) x.outcome x.world.processes };
      acted = acted_as s x.outcome x.effects;
    }

unfoldable pub stepped_by : Programs → World → Event → Choice → ProcessState → Bool → Stepped
stepped_by programs w e choice s false = record { world = w; acted = acted_as s Ended [] }
stepped_by programs w e choice s true = stepped_at w e choice s (next_instruction s.kept (slice_get (programs s.program) s.point))

unfoldable pub stepped : Programs → World → Event → Choice → Option ProcessState → Stepped
stepped programs w e choice None = record { world = w; acted = None }
stepped programs w e choice (Some s) = stepped_by programs w e choice s s.alive

-- The step of an event, under the numbers that are chosen for what it makes.
unfoldable pub step : Programs → World → Event → Choice → Stepped
step programs w e choice = stepped programs w e choice (slice_get w.processes e.process)

-- The world in which a process is about to do this deed, if it may do anything.
abbrev pub handed : World → ProcessNumber → Deed → World
handed w p deed = record w { processes = changed_at w.processes p (handed_to deed) }
