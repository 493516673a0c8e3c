-- Deeds, as a machine does them. (own)
use Rattle.std.specs.Prelude.{◌||◌, not, ℕ, Bool, true, List, Option, Some, None, is_some}
use Rattle.std.specs.List.{slice_get}
use Rattle.rights.specs.Values.{ProcessNumber}
use Rattle.process.specs.State.{Deed, ProcessState, is_hostile, left_by}
use Rattle.kernel.specs.Steps.{LineResult, Walks_on, Programs, changed_at}

-- A deed's process stands at point 0 meanwhile, so that there is a next point, and keeps nothing.
abbrev pub set_aside : ProcessState → ProcessState
set_aside s = record s { point = 0; kept = None }

abbrev pub set_back : Deed → ℕ → ProcessState → ProcessState
set_back deed point s = record s { point = point; kept = Some deed }

-- What is made of the processes when its instruction was executed, where process p stood at this point before and so many were made.
abbrev pub finished : Deed → ℕ → ProcessNumber → ℕ → LineResult → List ProcessState → List ProcessState
finished deed point p made Walks_on processes = changed_at processes p (set_back deed point)
finished deed point p made _ processes = changed_at (changed_at processes p (left_by deed)) made (left_by deed)

-- This is a point of its program, if the process may do anything.
abbrev pub may_stand_at : Programs → Option ProcessState → ℕ → Bool
may_stand_at programs None point = true
may_stand_at programs (Some s) point = not (is_hostile s) || is_some (slice_get (programs s.program) point)
