-- Runs: any list of events, one step after another.
use Rattle.std.specs.Prelude.{◌≡◌, ◌≢◌, ℕ, List, [], ◌∷◌, Option}
use Rattle.fd_table.specs.OpenFiles.{OpenFiles, IsUnnamed, IsUnused}
use Rattle.kernel.specs.World.{World, Choice, IsFresh}
use Rattle.kernel.specs.Answers.{Event, IsEvent, AreEvents}
use Rattle.kernel.specs.Steps.{Programs, Acted, step}
use Rattle.kernel.specs.Origins.{front_of, IsEnd}
use Rattle.kernel.specs.Walks.{IsDirectory}
use Rattle.kernel.specs.WellFormed.{ArePrograms, IsBetweenSteps, IsWellFormed}
use Rattle.kernel.specs.Renamings.{DiffersInNumbers}
use Rattle.kernel.specs.Alike.{AlikeWorlds}

-- From this world the events may show these lines, whatever fresh numbers are chosen at each step.
abbrev pub Runs : Programs → World → List Event → List (Option Acted) → Type 0
Runs programs w [] [] = Unit {0}
Runs programs w [] (line ∷ lines) = ⊥
Runs programs w (e ∷ events) [] = ⊥
Runs programs w (e ∷ events) (line ∷ lines) =
    (choice : Choice)
    × IsFresh w.files choice
    × ((step programs w e choice).acted ≡ line)
    × Runs programs (step programs w e choice).world events lines

-- There is a fresh choice, and every fresh choice leads to a well-formed world between two steps.
pub record HasNext (programs : Programs) (w : World) (e : Event) : Type 0 where
  pub some : (choice : Choice) × IsFresh w.files choice
  pub each : (choice : Choice) → IsFresh w.files choice → IsBetweenSteps programs (step programs w e choice).world

abbrev pub NextWorldExists : Type 0
NextWorldExists = (programs : Programs) (w : World) (e : Event) → ArePrograms programs → IsBetweenSteps programs w → IsEvent e → HasNext programs w e

-- Whatever number that nobody names a step takes for its first description, the rest can be chosen; and numbers that
-- are free one by one are a fresh choice together.
pub record MayChoose (f : OpenFiles) : Type 0 where
  pub with_first : (n : ℕ) → IsUnnamed f n → (choice : Choice) × (choice.first ≡ n) × IsFresh f choice
  pub all : (first second pair : ℕ) → IsUnnamed f first → IsUnnamed f second → first ≢ second → IsUnused f pair
      → IsFresh f (record { first = first; second = second; pair = pair })

abbrev pub FreshNumbersExist : Type 0
FreshNumbersExist = (programs : Programs) (w : World) → IsWellFormed programs w → MayChoose w.files

-- Events have a run from each well-formed world, and all its runs show the same lines: so do all runs from a world that
-- differs in numbers only.
abbrev pub RunExists : Type 0
RunExists =
    (programs : Programs) (w : World) (events : List Event)
    → ArePrograms programs
    → IsWellFormed programs w
    → AreEvents events
    → (lines : List (Option Acted)) × Runs programs w events lines

abbrev pub RunsShowTheSame : Type 0
RunsShowTheSame =
    (programs : Programs) (w v : World) (events : List Event) (lines others : List (Option Acted))
    → ArePrograms programs
    → IsWellFormed programs w
    → IsWellFormed programs v
    → DiffersInNumbers w v
    → AreEvents events
    → Runs programs w events lines
    → Runs programs v events others
    → lines ≡ others

abbrev pub RunsShowTheSameLines : Type 0
RunsShowTheSameLines =
    (programs : Programs) (w : World) (events : List Event) (lines others : List (Option Acted))
    → ArePrograms programs
    → IsWellFormed programs w
    → AreEvents events
    → Runs programs w events lines
    → Runs programs w events others
    → lines ≡ others

-- Worlds that are alike have the same runs.
pub record SameRuns (programs : Programs) (w v : World) (events : List Event) : Type 0 where
  pub there : (lines : List (Option Acted)) → Runs programs w events lines → Runs programs v events lines
  pub here : (lines : List (Option Acted)) → Runs programs v events lines → Runs programs w events lines

abbrev pub AlikeWorldsRunAlike : Type 0
AlikeWorldsRunAlike =
    (programs : Programs) (w v : World) (events : List Event)
    → ArePrograms programs
    → IsWellFormed programs w
    → AlikeWorlds w v
    → AreEvents events
    → SameRuns programs w v events

-- Some world is well formed, in which a process holds a directory and both ends of a pair, through which a directory is
-- on its way.
pub record HoldsEach (w : World) : Type 0 where
  pub directory : IsDirectory w.tree w.files.objects (w.files.table 0 0)
  pub first_end : IsEnd w (w.files.table 0 1) 0 0
  pub second_end : IsEnd w (w.files.table 0 2) 0 1
  pub under_way : IsDirectory w.tree w.files.objects (front_of (w.files.queue 0 0))

abbrev pub WellFormedWorldExists : Type 0
WellFormedWorldExists = (programs : Programs) × ArePrograms programs × (w : World) × IsBetweenSteps programs w × HoldsEach w
