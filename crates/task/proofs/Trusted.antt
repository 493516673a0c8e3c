-- A task without an untrusted program that is confined is sandboxed.
use Rattle.std.proofs.Common.{◌≡◌, ℕ, zero, suc, Bool, true, false, List, [], ◌∷◌, refl, ◌∙◌}
use Rattle.std.specs.Prelude.{not, map, Option, Some, None}
use Rattle.std.specs.List.{slice_get, list_all}
use Rattle.rights.proofs.Tests.{both_left, both_right, not_true}
use Rattle.process.specs.State.{ProcessState}
use Rattle.kernel.specs.World.{World}
use Rattle.kernel.specs.Answers.{Event, AreEvents}
use Rattle.kernel.specs.Hostile.{Act, Own}
use Rattle.kernel.specs.Steps.{Programs, step}
use Rattle.kernel.proofs.Marks.{AreMarkedAs, IsMarkedAs, step_marked}
use Rattle.task.specs.Begins.{first_process, first_world}
use Rattle.task.specs.Confined.{AreSpoken, Confined, IsTrusted, TrustedTasksAreSandboxed}
use Rattle.task.specs.Plans.{Grant, NamedProgram, Start, marked_in, programs_of_plan}
use Rattle.task.specs.Sandboxed.{Sandboxed}

-- no program of such a task is marked, by its number
pub none_marked_in : (programs : List NamedProgram) (n : ℕ) → list_all (λ (p : NamedProgram). not p.marked) programs ≡ true → marked_in (slice_get programs n) ≡ false
none_marked_in [] n none = refl
none_marked_in (p ∷ programs) zero none = not_true p.marked (both_left _ (list_all (λ (p : NamedProgram). not p.marked) programs) none)
none_marked_in (p ∷ programs) (suc n) none = none_marked_in programs n (both_right (not p.marked) _ none)

-- a first process is marked as its program is
pub first_marked : (programs : List NamedProgram) (starts : List Start) (p : ℕ) → IsMarkedAs (λ n. marked_in (slice_get programs n)) (slice_get (map (first_process programs) starts) p)
first_marked programs [] p = tt
first_marked programs (s ∷ starts) zero = refl
first_marked programs (s ∷ starts) (suc p) = first_marked programs starts p

abbrev own_acts : List Event → List (Event × Act)
own_acts [] = []
own_acts (e ∷ events) = (e, Own) ∷ own_acts events

own_are_spoken : (wide : Bool) (events : List Event) → AreSpoken wide (own_acts events)
own_are_spoken wide [] = tt
own_are_spoken wide (e ∷ events) = (tt, own_are_spoken wide events)

module _ (programs : Programs) (grants : List Grant) (marks : ℕ → Bool) (none : (n : ℕ) → marks n ≡ false) where
  is_trusted : (o : Option ProcessState) → IsMarkedAs marks o → IsTrusted o
  is_trusted None is = tt
  is_trusted (Some s) is = is ∙ none s.program

  runs : (w : World) (events : List Event) → AreMarkedAs marks w → AreEvents events → Confined programs grants w (own_acts events) → Sandboxed programs grants w events
  runs w [] are bytes confined = tt
  runs w (e ∷ events) are bytes confined = λ choice fresh.
      let here = confined choice fresh bytes.0 tt in (
        record { allowed = here.0.allowed; unrefused = here.0.unrefused (is_trusted (slice_get w.processes e.process) (are e.process)); gains = here.0.gains },
        runs (step programs w e choice).world events (step_marked marks w are e choice programs) bytes.1 here.1,
      )

pub trusted_tasks_are_sandboxed : TrustedTasksAreSandboxed
unfolding first_world
trusted_tasks_are_sandboxed plan valid none confined events bytes =
    runs (programs_of_plan plan) plan.grants (λ n. marked_in (slice_get plan.programs n)) (λ n. none_marked_in plan.programs n none) (first_world plan) events
    (first_marked plan.programs plan.starts) bytes (confined (own_acts events) (own_are_spoken plan.wide events))
