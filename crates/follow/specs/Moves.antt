-- What a machine's moves make of where a run stands.
use Rattle.std.specs.Prelude.{◌≡◌, ℕ, Option}
use Rattle.std.specs.List.{slice_get}
use Rattle.kernel.specs.World.{World}
use Rattle.kernel.specs.Answers.{Event, IsEvent}
use Rattle.simulator.specs.Lines.{Line}
use Rattle.simulator.specs.Steps.{StepsMachine}
use Rattle.task.specs.Plans.{programs_of_plan}
use Rattle.follow.specs.Outcomes.{seen_at}
use Rattle.follow.specs.Progress.{Setting, MatchProgress, after_skip, after_step}
use Rattle.follow.specs.Shows.{Move, Steps, Skips}

-- A step, with its line, leads to this world, and where the run stands then is what its line makes of that.
pub record ShownStep (g : Setting) (w : World) (s : MatchProgress) (e : Event) (shows : Option ℕ) (next : World) (after : Option MatchProgress) : Type 0 where
  pub line : Line
  pub steps : StepsMachine (programs_of_plan g.plan) w e line next
  pub byte : IsEvent e
  pub stands : after ≡ after_step g s e.process (seen_at (programs_of_plan g.plan) (slice_get w.processes e.process) line.acted (slice_get next.processes e.process)) shows

-- A skip changes no world.
pub record SkippedCall (g : Setting) (w : World) (s : MatchProgress) (i : ℕ) (next : World) (after : Option MatchProgress) : Type 0 where
  pub same : next ≡ w
  pub stands : after ≡ after_skip g s w.processes i

abbrev pub Moves : Setting → World → MatchProgress → Move → World → Option MatchProgress → Type 0
Moves g w s (Steps e shows) next after = ShownStep g w s e shows next after
Moves g w s (Skips i) next after = SkippedCall g w s i next after
