-- Worlds of which one says what the other says of all that is named. (own)
use Rattle.std.specs.Prelude.{◌≡◌, ℕ}
use Rattle.process.specs.State.{ProcessState}
use Rattle.instruction_set.specs.Programs.{Syscall}
use Rattle.fd_table.specs.OpenFiles.{Alike}
use Rattle.kernel.specs.World.{World, Choice, IsFresh}
use Rattle.kernel.specs.Answers.{Event, IsEvent}
use Rattle.kernel.specs.Calls.{answer}
use Rattle.kernel.specs.Steps.{Programs, step}
use Rattle.kernel.specs.WellFormed.{ArePrograms, IsWellFormed}
use Rattle.kernel.specs.Renamings.{DiffersInNumbers}

-- What stands at numbers that nobody names is left open, and so is the bound on the pairs with messages.
pub record AlikeWorlds (w v : World) : Type 0 where
  pub tree : v.tree ≡ w.tree
  pub processes : v.processes ≡ w.processes
  pub files : Alike w.files v.files

-- The line is the same, and the next worlds are alike again.
pub record StepsAsOne (programs : Programs) (w v : World) (e : Event) (choice : Choice) : Type 0 where
  pub line : (step programs v e choice).acted ≡ (step programs w e choice).acted
  pub next : AlikeWorlds (step programs w e choice).world (step programs v e choice).world

-- The second world is as well formed, answers the same, has the same fresh choices, and steps as the first.
pub record ActsAs (programs : Programs) (w v : World) : Type 0 where
  pub well_formed : IsWellFormed programs v
  pub answers : (p : ℕ) (s : ProcessState) (e : Event) (call : Syscall) → answer v p s e call ≡ answer w p s e call
  pub fresh_there : (choice : Choice) → IsFresh w.files choice → IsFresh v.files choice
  pub fresh_here : (choice : Choice) → IsFresh v.files choice → IsFresh w.files choice
  pub steps : (e : Event) (choice : Choice) → IsEvent e → IsFresh w.files choice → StepsAsOne programs w v e choice

abbrev pub AlikeWorldsActAlike : Type 0
AlikeWorldsActAlike =
    (programs : Programs) (w v : World) → ArePrograms programs → IsWellFormed programs w → AlikeWorlds w v → ActsAs programs w v

-- Worlds that are alike differ in no number.
abbrev pub AlikeWorldsShareNumbers : Type 0
AlikeWorldsShareNumbers = (w v : World) → AlikeWorlds w v → DiffersInNumbers w v

-- what is alike to what is alike is alike
abbrev pub AlikeWorldsTwice : Type 0
AlikeWorldsTwice = (u v w : World) → AlikeWorlds u v → AlikeWorlds v w → AlikeWorlds u w
