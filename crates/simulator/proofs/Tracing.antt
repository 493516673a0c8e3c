-- What a simulation has written so far, and where it is in the run.
use Rattle.std.proofs.Common.{◌≡◌, ℕ, zero, suc, ◌+◌, ◌<◌, arith, length, take, true, List, [], ◌∷◌, ◌++◌, refl, ap, sym, ◌∙◌, subst, append_assoc, append-nil}
use Rattle.std.specs.Prelude.{Option, Some, None}
use Rattle.std.specs.List.{slice_index_or}
use Rattle.rights.specs.Output.{Took, TookFront}
use Rattle.rights.proofs.Taken.{took_more, front_after, front_of_more}
use Rattle.kernel.specs.World.{World}
use Rattle.kernel.specs.Answers.{Event, IsEvent, AreEvents}
use Rattle.kernel.specs.Steps.{Acted, Programs, step}
use Rattle.kernel.specs.Runs.{Runs}
use Rattle.kernel.specs.Renamings.{DiffersInNumbers}
use Rattle.kernel.specs.WellFormed.{ArePrograms, IsWellFormed}
use Rattle.kernel.proofs.AlikeWorlds.{act_alike}
use Rattle.kernel.proofs.Determined.{alike_share, differs_twice, run_exists}
use Rattle.kernel.proofs.Aimed.{steps_alike}
use Rattle.kernel.proofs.Keeping.{next_formed}
use Rattle.task.specs.Plans.{Plan, programs_of_plan}
use Rattle.task.specs.Begins.{first_world}
use Rattle.task.specs.Limits.{is_plan}
use Rattle.task.proofs.FirstWorlds.{first_well_formed}
use Rattle.simulator.specs.Lines.{Line, line_at}
use Rattle.simulator.specs.Steps.{StepsMachine}
use Rattle.simulator.specs.Simulations.{IsRun, WritesFront, WritesTrace}
use Rattle.simulator.specs.Pages.{MovesLines}
use Rattle.simulator.specs.Traces.{line_text, trace_text}

-- a step leads to a well-formed world
pub steps_good : (programs : Programs) (w next : World) (e : Event) (line : Line) → ArePrograms programs → IsWellFormed programs w → IsEvent e →
    StepsMachine programs w e line next → IsWellFormed programs next
steps_good programs w next e line valid good byte s =
    (act_alike programs (step programs w e s.choice).world next valid ((next_formed programs w e valid good byte).each s.choice s.fresh) s.world_is).well_formed

-- Where a run of these events is: what it showed so far is written so, and it goes on from a world that differs from
-- this one in numbers alone.
pub record IsAhead (plan : Plan) (events : List Event) (lines : List (Option Acted)) (begun : List ℕ) (w : World) (left : List Event) : Type 0 where
  pub world : World
  pub rest : List (Option Acted)
  pub good : IsWellFormed (programs_of_plan plan) world
  pub same : DiffersInNumbers world w
  pub run : Runs (programs_of_plan plan) world left rest
  pub text : begun ++ trace_text plan left rest ≡ trace_text plan events lines

-- So much is taken, these lines are gathered, and each run of the events is there.
pub record IsTraced (plan : Plan) (events : List Event) (before after : Option (List ℕ)) (gathered : List ℕ) (w : World) (left : List Event) : Type 0 where
  pub begun : List ℕ
  pub took : Took before after begun
  pub each : (lines : List (Option Acted)) → IsRun plan events lines → IsAhead plan events lines (begun ++ gathered) w left

pub took_nothing : (before : Option (List ℕ)) → Took before before []
took_nothing None = refl
took_nothing (Some bytes) = ap Some (sym (append-nil bytes))

pub traced-start : (plan : Plan) (events : List Event) (before : Option (List ℕ)) (gathered : List ℕ) (w : World) → gathered ≡ [] → is_plan plan ≡ true →
    DiffersInNumbers (first_world plan) w → IsTraced plan events before before gathered w events
traced-start plan events before gathered w none test differs = record {
  begun = [];
  took = took_nothing before;
  each = λ lines run. record {
    world = first_world plan;
    rest = lines;
    good = (first_well_formed plan test).1.formed;
    same = differs;
    run = run;
    text = ap (λ t. t ++ trace_text plan events lines) none;
  };
}

-- one line more
trace_more : (plan : Plan) (e : Event) (left : List Event) (acted : Option Acted) (rest : List (Option Acted)) →
    line_text plan (line_at e acted) ++ trace_text plan left rest ≡ trace_text plan (e ∷ left) (acted ∷ rest)
trace_more plan e left acted rest = refl

ahead-step : (plan : Plan) (events : List Event) (lines : List (Option Acted)) (begun : List ℕ) (w next : World) (e : Event) (left : List Event)
    (line : Line) → is_plan plan ≡ true → IsWellFormed (programs_of_plan plan) w → IsEvent e → StepsMachine (programs_of_plan plan) w e line next →
    IsAhead plan events lines begun w (e ∷ left) → IsAhead plan events lines (begun ++ line_text plan line) next left
ahead-step plan events lines begun w next e left line test good byte s at = go at.rest at.run at.text
  where
    programs : Programs
    programs = programs_of_plan plan

    go : (rest : List (Option Acted)) → Runs programs at.world (e ∷ left) rest →
        begun ++ trace_text plan (e ∷ left) rest ≡ trace_text plan events lines → IsAhead plan events lines (begun ++ line_text plan line) next left
    go [] run text = absurd run
    go (acted ∷ rest) (choice, fresh, is, run) text =
        let valid = (first_well_formed plan test).0 in
        let both = steps_alike programs at.world w e choice s.choice valid at.good good at.same fresh s.fresh in
        let own : line ≡ line_at e acted = s.line_is ∙ ap (line_at e) (both.line ∙ is) in
        record {
          world = (step programs at.world e choice).world;
          rest = rest;
          good = (next_formed programs at.world e valid at.good byte).each choice fresh;
          same = differs_twice _ _ _ both.next (alike_share _ _ s.world_is);
          run = run;
          text =
              append_assoc begun (line_text plan line) (trace_text plan left rest)
              ∙ ap (λ (l : Line). begun ++ (line_text plan l ++ trace_text plan left rest)) own
              ∙ ap (λ t. begun ++ t) (trace_more plan e left acted rest)
              ∙ text;
        }

-- a line more is gathered
pub traced-step : (plan : Plan) (events : List Event) (before after : Option (List ℕ)) (gathered more : List ℕ) (w next : World) (e : Event) (left : List Event)
    (line : Line) → is_plan plan ≡ true → IsWellFormed (programs_of_plan plan) w → IsEvent e → IsTraced plan events before after gathered w (e ∷ left) →
    StepsMachine (programs_of_plan plan) w e line next → more ≡ gathered ++ line_text plan line → IsTraced plan events before after more next left
traced-step plan events before after gathered more w next e left line test good byte so_far s is = record {
  begun = so_far.begun;
  took = so_far.took;
  each = λ lines run.
      subst (λ begun. IsAhead plan events lines begun next left) (append_assoc so_far.begun gathered (line_text plan line) ∙ ap (λ t. so_far.begun ++ t) (sym is))
      (ahead-step plan events lines (so_far.begun ++ gathered) w next e left line test good byte s (so_far.each lines run));
}

-- some of what is gathered is taken
pub traced-moved : (plan : Plan) (events : List Event) (before mid after : Option (List ℕ)) (gathered more : List ℕ) (w : World) (left : List Event) →
    IsTraced plan events before mid gathered w left → MovesLines mid after gathered more → IsTraced plan events before after more w left
traced-moved plan events before mid after gathered more w left so_far moves = record {
  begun = so_far.begun ++ moves.moved;
  took = took_more before mid after _ _ so_far.took moves.took;
  each = λ lines run.
      subst (λ begun. IsAhead plan events lines begun w left) (ap (λ t. so_far.begun ++ t) (sym moves.whole) ∙ sym (append_assoc so_far.begun moves.moved more))
      (so_far.each lines run);
}

-- what is left is taken at the end
pub traced-end : (plan : Plan) (events : List Event) (before mid after : Option (List ℕ)) (gathered : List ℕ) (w : World) → is_plan plan ≡ true → AreEvents events →
    IsTraced plan events before mid gathered w [] → Took mid after gathered → WritesTrace plan events before after
traced-end plan events before mid after gathered w test bytes so_far took =
    let first = first_well_formed plan test in
    let run = run_exists (programs_of_plan plan) (first_world plan) events first.0 first.1.formed bytes in
    record {
      lines = run.0;
      run = run.1;
      every = λ others other.
          let at = so_far.each others other in
          subst (Took before after) (sym (append-nil (so_far.begun ++ gathered)) ∙ at.text) (took_more before mid after _ _ so_far.took took);
    }

-- what was taken, with a beginning of what is gathered, is a beginning of every run's trace
pub traced-front : (plan : Plan) (events : List Event) (before mid after : Option (List ℕ)) (gathered : List ℕ) (w : World) (left : List Event) →
    IsTraced plan events before mid gathered w left → TookFront mid after gathered → WritesFront plan events before after
traced-front plan events before mid after gathered w left so_far front lines run =
    let at = so_far.each lines run in
    subst (TookFront before after) at.text
    (front_of_more before after (so_far.begun ++ gathered) (trace_text plan left at.rest)
    (front_after before mid after so_far.begun gathered so_far.took front))

-- the events so far are bytes
pub bytes_more : (events : List Event) (k : ℕ) (none : Event) → k < length events → AreEvents (take k events) → IsEvent (slice_index_or events k none) → AreEvents (take (k + 1) events)
bytes_more [] k none low so_far byte = absurd (omega arith)
bytes_more (e ∷ events) zero none low so_far byte = (byte, tt)
bytes_more (e ∷ events) (suc k) none low so_far byte =
    let next : suc k + 1 ≡ suc (k + 1) = omega arith in
    subst (λ n. AreEvents (take n (e ∷ events))) (sym next) (so_far.0, bytes_more events k none (omega arith) so_far.1 byte)

pub nothing-front : (plan : Plan) (events : List Event) (before after : Option (List ℕ)) → after ≡ before → WritesFront plan events before after
nothing-front plan events before after same lines run = record {
  front = [];
  rest = trace_text plan events lines;
  whole = refl;
  took = same ∙ took_nothing before;
}
