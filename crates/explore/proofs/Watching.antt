-- How far a machine has come in the runs of some moves, and what the last step broke.
use Rattle.std.proofs.Common.{◌≡◌, true, List, [], ◌∷◌, refl, ap, sym, subst, ◌∙◌}
use Rattle.std.specs.Prelude.{Option, None, option_map}
use Rattle.std.specs.List.{slice_get}
use Rattle.kernel.specs.World.{World, Choice, IsFresh}
use Rattle.kernel.specs.Answers.{Event, IsEvent}
use Rattle.kernel.specs.Hostile.{Act, IsAct, about, step_as}
use Rattle.kernel.specs.Steps.{Programs}
use Rattle.kernel.specs.Renamings.{DiffersInNumbers}
use Rattle.kernel.specs.WellFormed.{ArePrograms, IsWellFormed}
use Rattle.kernel.proofs.Aimed.{steps_alike}
use Rattle.kernel.proofs.Determined.{alike_share, differs_twice}
use Rattle.kernel.proofs.Hostile.{about_well_formed, differs_about, files_about}
use Rattle.kernel.proofs.Keeping.{next_formed}
use Rattle.task.specs.Begins.{first_world}
use Rattle.task.specs.Limits.{is_plan}
use Rattle.task.specs.Plans.{Plan, programs_of_plan}
use Rattle.task.proofs.FirstWorlds.{first_well_formed}
use Rattle.simulator.specs.Lines.{Line, line_at, shown_step}
use Rattle.simulator.specs.Steps.{StepsMachineAs}
use Rattle.explore.specs.Breaches.{Breach, breach_in}
use Rattle.explore.specs.Broken.{Breaks, BreaksIf, EndsWith, Move, are_all_spoken, broken_at}

-- What ends so from each world that differs from this one in numbers alone ends so from the first world on.
abbrev pub Leads : Plan → List Move → World → Option Breach → List Move → Type 0
Leads plan moves w before left =
    (last : Option Breach)
    → ((v : World) → IsWellFormed (programs_of_plan plan) v → DiffersInNumbers v w → EndsWith (programs_of_plan plan) plan.grants v before left last)
    → Breaks plan moves last

pub leads-start : (plan : Plan) (moves : List Move) (w : World) → are_all_spoken plan.wide moves ≡ true → is_plan plan ≡ true →
    DiffersInNumbers (first_world plan) w → Leads plan moves w None moves
leads-start plan moves w spoken valid differs last ends =
    subst (λ all. BreaksIf all plan moves last) (sym spoken) (ends (first_world plan) (first_well_formed plan valid).1.formed differs)

-- what a step breaks is the same in worlds that differ in numbers alone
same-broken : (plan : Plan) (w v : World) (e : Event) (act : Act) (line : Line) (j k : Choice) → DiffersInNumbers v w →
    (step_as (programs_of_plan plan) w e act k).acted ≡ (step_as (programs_of_plan plan) v e act j).acted → line ≡ line_at e (step_as (programs_of_plan plan) w e act k).acted →
    broken_at plan.grants v e (step_as (programs_of_plan plan) v e act j).acted ≡ breach_in plan.grants (slice_get w.processes e.process) line.acted
same-broken plan w v e act line j k differs same is =
    ap (λ processes. breach_in plan.grants (slice_get processes e.process) (option_map shown_step (step_as (programs_of_plan plan) v e act j).acted)) (sym differs.processes)
    ∙ ap (λ acted. breach_in plan.grants (slice_get w.processes e.process) (option_map shown_step acted)) (sym same)
    ∙ ap (λ (l : Line). breach_in plan.grants (slice_get w.processes e.process) l.acted) (sym is)

-- A machine's step, and one beside it: from a world that differs in numbers alone, the line is the same, and so is the next world but for numbers.
pub record Beside (programs : Programs) (w v next : World) (e : Event) (act : Act) (j k : Choice) : Type 0 where
  pub line : (step_as programs w e act k).acted ≡ (step_as programs v e act j).acted
  pub formed : IsWellFormed programs (step_as programs v e act j).world
  pub differs : DiffersInNumbers (step_as programs v e act j).world next

pub beside : (plan : Plan) (w v next : World) (e : Event) (act : Act) (line : Line) (choice : Choice) → is_plan plan ≡ true →
    IsWellFormed (programs_of_plan plan) w → IsWellFormed (programs_of_plan plan) v → IsEvent e →
    ((u : World) → IsWellFormed (programs_of_plan plan) u → IsAct (programs_of_plan plan) u e.process act) → DiffersInNumbers v w →
    (s : StepsMachineAs (programs_of_plan plan) w e act line next) → IsFresh v.files choice → Beside (programs_of_plan plan) w v next e act choice s.choice
beside plan w v next e act line choice valid good fine byte may differs s fresh =
    let programs : Programs = programs_of_plan plan in
    let formed : ArePrograms programs = (first_well_formed plan valid).0 in
    let there = about_well_formed programs v e.process act fine (may v fine) in
    let here : IsFresh (about v e.process act).files choice = subst (λ f. IsFresh f choice) (sym (files_about v e.process act)) fresh in
    let both =
    steps_alike programs (about v e.process act) (about w e.process act) e choice s.choice formed there (about_well_formed programs w e.process act good (may w good))
    (differs_about v w e.process act differs) here s.fresh
    in
    record {
      line = both.line;
      formed = (next_formed programs (about v e.process act) e formed there byte).each choice here;
      differs = differs_twice _ _ _ both.next (alike_share _ _ s.world_is);
    }

pub leads-step : (plan : Plan) (moves : List Move) (w next : World) (before breach : Option Breach) (e : Event) (act : Act) (left : List Move) (line : Line) →
    is_plan plan ≡ true → IsWellFormed (programs_of_plan plan) w → IsEvent e →
    ((v : World) → IsWellFormed (programs_of_plan plan) v → IsAct (programs_of_plan plan) v e.process act) →
    StepsMachineAs (programs_of_plan plan) w e act line next →
    breach ≡ breach_in plan.grants (slice_get w.processes e.process) line.acted → Leads plan moves w before ((e, act) ∷ left) → Leads plan moves next breach left
leads-step plan moves w next before breach e act left line valid good byte may s is leads last ends = leads last go
  where
    programs : Programs
    programs = programs_of_plan plan

    go : (v : World) → IsWellFormed programs v → DiffersInNumbers v w → EndsWith programs plan.grants v before ((e, act) ∷ left) last
    go v fine differs = (
      may v fine,
      λ choice fresh.
          let other = beside plan w v next e act line choice valid good fine byte may differs s fresh in
          subst (λ b. EndsWith programs plan.grants (step_as programs v e act choice).world b left last)
          (is ∙ sym (same-broken plan w v e act line choice s.choice differs other.line s.line_is))
          (ends (step_as programs v e act choice).world other.formed other.differs),
    )

pub leads-end : (plan : Plan) (moves : List Move) (w : World) (before : Option Breach) → Leads plan moves w before [] → Breaks plan moves before
leads-end plan moves w before leads = leads before (λ v fine differs. refl)
