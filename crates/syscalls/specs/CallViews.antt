-- What a call of a process comes to, with its process after it.
use Rattle.std.specs.Prelude.{◌≡◌, ℕ, List, map, slice_set, Some, Result, Ok, Err}
use Rattle.rights.specs.Views.{errno_of, cause_of}
use Rattle.process.specs.State.{ProcessState}
use Rattle.instruction_set.specs.Programs.{Syscall}
use Rattle.kernel.specs.World.{World, Choice, IsFresh}
use Rattle.kernel.specs.Answers.{Event}
use Rattle.kernel.specs.Calls.{answer}
use Rattle.kernel.specs.Changes.{given, processes_after}
use Rattle.kernel.specs.Steps.{LineResult, Value, Failed, Waiting, Walks_on, answered, failed}
use Rattle.kernel.specs.Alike.{AlikeWorlds}
use Rattle.syscalls.specs.declared.effects.Effects.{Effects}
use Rattle.syscalls.specs.declared.effects.Effects.TheVariants as effects
use Rattle.syscalls.specs.declared.outcomes.Besides.{Besides}
use Rattle.syscalls.specs.declared.outcomes.Outcome.{Outcome}
use Rattle.syscalls.specs.declared.outcomes.Outcome.TheVariants as outcome
use Rattle.syscalls.specs.Shows.{Shown, shown}
use Rattle.process.specs.Views.{walking_of}
use Rattle.syscalls.specs.declared.outcomes.Refusal.{Refusal}
use Rattle.syscalls.specs.declared.outcomes.Refusal.TheVariants as refusal
use Rattle.syscalls.specs.declared.outcomes.Success.{Success}
use Rattle.syscalls.specs.Views.{change_of}

abbrev pub result_of : Outcome → LineResult
result_of (outcome.Value value) = Value value
result_of (outcome.Error errno cause) = Failed (errno_of errno) (cause_of cause)
result_of outcome.Wait = Waiting
result_of outcome.Walk = Walks_on

-- a process after a success, and the processes that there are then
abbrev pub succeeded_as : ProcessState → ℕ → Besides → ProcessState
succeeded_as s value besides = given s value (change_of besides)

abbrev pub processes_as : List ProcessState → ℕ → ProcessState → ℕ → Besides → List ProcessState
processes_as processes p s value besides = processes_after processes p (succeeded_as s value besides) (change_of besides).table

-- What becomes of a call's process, and what is told, by what the call came to. After want of memory nothing is said.
abbrev pub Settles : List ProcessState → ℕ → ProcessState → ℕ → Result Success Refusal → LineResult → Effects → List ProcessState → Type 0
Settles processes p s otherwise (Ok success) told does after =
    (told ≡ Value success.value) × (does ≡ success.effects) × (after ≡ processes_as processes p s success.value success.besides)
Settles processes p s otherwise (Err (refusal.Fails errno cause)) told does after =
    (told ≡ Failed (errno_of errno) (cause_of cause)) × (does ≡ effects.Nothing) × (after ≡ slice_set processes p (failed s (errno_of errno) otherwise))
Settles processes p s otherwise (Err refusal.Waits) told does after = (told ≡ Waiting) × (does ≡ effects.Nothing) × (after ≡ processes)
Settles processes p s otherwise (Err (refusal.Walks walking)) told does after =
    (told ≡ Walks_on) × (does ≡ effects.Nothing) × (after ≡ slice_set processes p (record s { walk = Some (walking_of walking) }))
Settles processes p s otherwise (Err refusal.Memory) told does after = ⊥

-- Under some fresh numbers the call comes to this, with these effects, and to a world that is alike.
pub record Comes (w : World) (p : ℕ) (s : ProcessState) (e : Event) (call : Syscall) (otherwise : ℕ) (told : LineResult) (shows : List Shown) (v : World) : Type 0 where
  pub choice : Choice
  pub fresh : IsFresh w.files choice
  pub outcome : told ≡ (answered w p s choice otherwise (answer w p s e call)).outcome
  pub prints : shows ≡ map shown (answered w p s choice otherwise (answer w p s e call)).effects
  pub world : AlikeWorlds (answered w p s choice otherwise (answer w p s e call)).world v
