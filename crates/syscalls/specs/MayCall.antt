-- What the caller of a call has to know. (own)
use Rattle.std.specs.Prelude.{◌≡◌, ◌+◌, ◌<◌, ℕ, List, Some}
use Rattle.std.specs.List.{slice_get}
use Rattle.process.specs.State.{ProcessState}
use Rattle.instruction_set.specs.Programs.{Instruction, Invoke, Syscall}
use Rattle.kernel.specs.World.{World}
use Rattle.kernel.specs.Answers.{Event}
use Rattle.kernel.specs.Steps.{LineResult, Programs}
use Rattle.kernel.specs.Walks.{FitsIfWalking}
use Rattle.kernel.specs.WellFormed.{IsWorld, Numbering}
use Rattle.syscalls.specs.Shows.{Shown}
use Rattle.syscalls.specs.CallViews.{Comes}

-- The world is well formed, for some programs, but for what its processes have under way; the process was made, and it has a next
-- point; and what it has under way itself, if anything, is of this call.
pub record MayCall (w : World) (p : ℕ) (call : Syscall) : Type 0 where
  pub programs : Programs
  pub numbering : Numbering
  pub good : IsWorld programs numbering w
  pub process : ProcessState
  pub made : slice_get w.processes p ≡ Some process
  pub next : process.point + 1 < 256
  pub fits : FitsIfWalking w.tree w.files.objects (w.files.table p) process (Some call) process.walk

-- The instruction is a call, and may be made.
abbrev pub MayInvoke : World → ℕ → Instruction → Type 0
MayInvoke w p (Invoke call otherwise) = MayCall w p call
MayInvoke w p _ = ⊥

-- what an instruction that is a call comes to, for the process of this number
abbrev pub CallComes : World → ℕ → Event → Instruction → LineResult → List Shown → World → Type 0
CallComes w p e (Invoke call otherwise) told shows v =
    (s : ProcessState) → slice_get w.processes p ≡ Some s → Comes w p s e call otherwise told shows v
CallComes w p e _ told shows v = ⊥
