-- The worked rows, by computation.
use Rattle.std.proofs.Common.{◌≡◌, ℕ, zero, suc, List, [], ◌∷◌, ◌++◌, codes, refl, sym, ◌∙◌}
use Rattle.std.specs.Prelude.{Option}
use Rattle.std.proofs.Math.Decide.{ℕ_discrete}
use Rattle.std.specs.Fmt.{digits}
use Rattle.kernel.specs.World.{World, Choice}
use Rattle.kernel.specs.Answers.{Event, unless, held, at_object}
use Rattle.kernel.specs.Calls.{answer}
use Rattle.kernel.specs.Changes.{files_after, changed}
use Rattle.kernel.specs.Runs.{Runs}
use Rattle.kernel.specs.Steps.{Acted, answered, jumped, executed, stepped_at, stepped_by, stepped, step}
use Rattle.task.specs.Begins.{first_files, first_world}
use Rattle.task.specs.Plans.{Plan, programs_of_plan}
use Rattle.simulator.specs.Lines.{line_at}
use Rattle.simulator.specs.Traces.{line_text, trace_text}
use Rattle.commands.specs.Examples.{AlwaysShows, first_plan, bare_plan, loop_plan, absent_event, events_of_first, example_events}

-- The trace of these events, under the numbers that are chosen at each step.
abbrev trace : Plan → World → List Event → (ℕ → Choice) → List ℕ
trace plan w [] choose = []
trace plan w (e ∷ events) choose =
    let s = step (programs_of_plan plan) w e (choose 0) in
    line_text plan (line_at e s.acted) ++ trace plan s.world events (λ n. choose (suc n))

-- the choices of a run, of which the first is this one
abbrev and_then : Choice → (ℕ → Choice) → ℕ → Choice
and_then choice choose zero = choice
and_then choice choose (suc n) = choose n

-- where there is no step
no_choice : Choice
no_choice = record { first = 0; second = 0; pair = 0 }

-- What a run shows is the trace under the numbers that it chooses.
run_shows : (plan : Plan) (w : World) (events : List Event) (lines : List (Option Acted)) → Runs (programs_of_plan plan) w events lines →
    (choose : ℕ → Choice) × (trace_text plan events lines ≡ trace plan w events choose)
run_shows plan w [] [] run = ((λ n. no_choice), refl)
run_shows plan w [] (line ∷ lines) run = absurd run
run_shows plan w (e ∷ events) [] run = absurd run
run_shows plan w (e ∷ events) (line ∷ lines) (choice, fresh, here, rest) =
    let others = run_shows plan (step (programs_of_plan plan) w e choice).world events lines rest in (
      and_then choice others.0,
      (λ i. line_text plan (line_at e (sym here i)) ++ others.1 i),
    )

-- None of the rows depends on the numbers that are chosen.
pub always : (plan : Plan) (events : List Event) (text : List ℕ) → ((choose : ℕ → Choice) → trace plan (first_world plan) events choose ≡ text) → AlwaysShows plan events text
always plan events text is lines run =
    let shown = run_shows plan (first_world plan) events lines run in
    shown.1 ∙ is shown.0

pub every_first : AlwaysShows first_plan (events_of_first 5) (codes "0 main:0 = 0\n0 main:1 = 65 read /work/in\n0 main:2 halt\n0 main:2 ended\n0 main:2 ended\n")
unfolding ℕ_discrete digits unless held at_object answer files_after changed answered jumped executed stepped_at stepped_by stepped step first_world first_files
every_first = always first_plan (events_of_first 5) _ (λ choose. refl)

pub every_bare : AlwaysShows bare_plan (events_of_first 3) (codes "0 main:0 = 0\n0 main:1 ! ENOTCAPABLE MissingRight\n0 main:2 halt\n")
unfolding ℕ_discrete digits unless held at_object answer files_after changed answered jumped executed stepped_at stepped_by stepped step first_world first_files
every_bare = always bare_plan (events_of_first 3) _ (λ choose. refl)

pub every_loop : AlwaysShows loop_plan (events_of_first 10)
    (codes "0 main:0 = 65 read /work/in\n0 main:1 ok\n0 main:2 ok\n0 main:0 = 66 read /work/in\n0 main:1 ok\n0 main:2 ok\n0 main:3 ok\n0 main:0 = 256 read /work/in\n0 main:1 ok\n0 main:4 halt\n")
unfolding ℕ_discrete digits unless held at_object answer files_after changed answered jumped executed stepped_at stepped_by stepped step first_world first_files
every_loop = always loop_plan (events_of_first 10) _ (λ choose. refl)

-- the event of a process that was not made
pub every_absent : AlwaysShows first_plan (absent_event ∷ events_of_first 1) (codes "5 - none\n0 main:0 = 0\n")
unfolding ℕ_discrete digits unless held at_object answer files_after changed answered jumped executed stepped_at stepped_by stepped step first_world first_files
every_absent = always first_plan (absent_event ∷ events_of_first 1) _ (λ choose. refl)

pub every_example : AlwaysShows first_plan example_events (codes "0 main:0 = 0\n0 main:1 = 65 read /work/in\n")
unfolding ℕ_discrete digits unless held at_object answer files_after changed answered jumped executed stepped_at stepped_by stepped step first_world first_files
every_example = always first_plan example_events _ (λ choose. refl)
