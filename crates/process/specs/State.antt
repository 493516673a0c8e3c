-- One process. (capsicum(4), cap_enter(2), fork(2); the registers, the walk and deeds are own)
use Rattle.std.specs.Prelude.{ℕ, Bool, true, false, not, ◌&&◌, List, replicate, slice_set, Option, Some, None, is_some, if◌then◌else◌}
use Rattle.rights.specs.Limits.{register_count}
use Rattle.lookup.specs.Walks.{WalkState}
use Rattle.instruction_set.specs.Programs.{Instruction}

-- The lookups that a call has under way between its events: of its path, or of the two paths of a rename.
pub data Walking : Type 0 where
  One : (walk : WalkState) → Walking
  Two : (first second : WalkState) → Walking

-- What a process is made to do that doesn't follow its program: an instruction, and the registers and the point that it has afterwards.
pub record Deed : Type 0 where
  pub instruction : Instruction
  pub registers : List ℕ  -- eight
  pub point : ℕ

pub record ProcessState : Type 0 where
  pub program : ℕ  -- the program's place in the task
  pub point : ℕ  -- the next instruction
  pub registers : List ℕ  -- eight
  pub mode : Bool  -- whether it is in capability mode
  pub alive : Bool
  pub walk : Option Walking  -- what its call has under way, once its first event has come
  pub marked : Bool  -- whether its program is untrusted
  pub kept : Option Deed  -- what it does next in the place of the instruction at its point

-- a living process at the start of its program, which is trusted
abbrev pub new_process : ℕ → Bool → ProcessState
new_process program mode = record {
  program = program;
  point = 0;
  registers = replicate register_count 0;
  mode = mode;
  alive = true;
  walk = None;
  marked = false;
  kept = None;
}

-- the child has all that the parent has, but that its call of fork answers 0, and it is to do nothing besides its program
abbrev pub forked : ProcessState → ProcessState
forked parent = record parent { registers = slice_set parent.registers 0 0; kept = None }

-- at another point no call is under way yet
abbrev pub moved_to : ProcessState → ℕ → ProcessState
moved_to s point = record s { point = point; walk = None }

-- an ended process has no call under way
abbrev pub ended : ProcessState → ProcessState
ended s = record s { alive = false; walk = None }

-- Whether a process may do anything: its program is untrusted, it is in capability mode, it lives, and no call of it is under way.
abbrev pub is_hostile : ProcessState → Bool
is_hostile s = s.marked && s.mode && s.alive && not (is_some s.walk)

-- such a process is made to do a deed
abbrev pub handed_to : Deed → ProcessState → ProcessState
handed_to deed s = if is_hostile s then record s { kept = Some deed } else s

-- what a deed leaves of its process, whatever came of it
abbrev pub left_by : Deed → ProcessState → ProcessState
left_by deed s = record s { point = deed.point; registers = deed.registers; walk = None; kept = None }
