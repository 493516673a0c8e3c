-- A task some run of which breaks something isn't confined, and without an attacker's move it isn't sandboxed.
use Rattle.std.proofs.Common.{◌≡◌, Bool, true, false, List, [], ◌∷◌, map, refl, ap, subst, ◌∙◌}
use Rattle.std.specs.Prelude.{Option, Some, None, option_map, IfSome, if◌then◌else◌}
use Rattle.std.specs.List.{list_any, slice_get}
use Rattle.std.proofs.lemmas.Bool.{and_parts}
use Rattle.rights.specs.Errors.{Cause, CapMode, BadDescriptor, MissingRight, Kind, Escape, Path, Access, Full, Refused}
use Rattle.process.specs.State.{ProcessState}
use Rattle.kernel.specs.World.{World, Choice, IsFresh}
use Rattle.kernel.specs.Answers.{Effect, AreEvents}
use Rattle.kernel.specs.Hostile.{Act, Own, Does, IsSpoken, about, step_as}
use Rattle.kernel.specs.Steps.{LineResult, No_call, Halted, Value, Failed, Waiting, Walks_on, Ended, Acted, Programs, step}
use Rattle.kernel.specs.WellFormed.{ArePrograms, IsWellFormed}
use Rattle.kernel.proofs.Hostile.{about_well_formed, files_about}
use Rattle.kernel.proofs.Keeping.{next_formed}
use Rattle.syscalls.specs.Shows.{shown}
use Rattle.task.specs.Begins.{first_world}
use Rattle.task.specs.Confined.{AreSpoken, Confined, IsTrusted}
use Rattle.task.specs.Limits.{is_plan}
use Rattle.task.specs.Plans.{Grant, Plan, programs_of_plan}
use Rattle.task.specs.Sandboxed.{AreAllowed, IsInMode, IsOtherCause, IsUnrefused, Sandboxed}
use Rattle.task.proofs.Allowances.{allowed_is_tested}
use Rattle.task.proofs.FirstWorlds.{first_well_formed}
use Rattle.simulator.specs.Lines.{shown_step}
use Rattle.explore.specs.Breaches.{Breach, Outside, allows_shown, breach_in, either_breach, outside, refusal, refusal_for}
use Rattle.explore.specs.Broken.{BreachesRefute, Breaks, BreaksIf, EndsWith, IsRefuted, Move, are_all_spoken, are_own, broken_at, events_in, is_spoken_act}
use Rattle.explore.specs.BreachViews.{breach_of}
use Rattle.explore.specs.declared.breaches.Breach.{Breach as BreachCode}
use Rattle.explore.proofs.Shown.{allowed-shown}

nothing-outside : (grants : List Grant) (effects : List Effect) → AreAllowed grants effects → outside grants (map shown effects) ≡ None
nothing-outside grants [] allowed = refl
nothing-outside grants (f ∷ effects) allowed =
    let here : list_any (allows_shown (shown f)) grants ≡ true = allowed-shown grants f ((allowed_is_tested grants f.operation f.place).1 allowed.0) in
    ap (λ b. if b then outside grants (map shown effects) else Some (Outside f.operation (shown f).place)) here ∙ nothing-outside grants effects allowed.1

no-refusal-for : (cause : Cause) → IsOtherCause cause → refusal_for cause ≡ None
no-refusal-for CapMode other = absurd other
no-refusal-for MissingRight other = absurd other
no-refusal-for BadDescriptor other = refl
no-refusal-for Kind other = refl
no-refusal-for Escape other = refl
no-refusal-for Path other = refl
no-refusal-for Access other = refl
no-refusal-for Full other = refl
no-refusal-for Refused other = refl

no-refusal : (outcome : LineResult) → IsUnrefused outcome → refusal outcome ≡ None
no-refusal No_call unrefused = refl
no-refusal Halted unrefused = refl
no-refusal (Value n) unrefused = refl
no-refusal (Failed errno cause) unrefused = no-refusal-for cause unrefused
no-refusal Waiting unrefused = refl
no-refusal Walks_on unrefused = refl
no-refusal Ended unrefused = refl

neither-breach : (one other : Option Breach) → one ≡ None → other ≡ None → either_breach one other ≡ None
neither-breach None other first second = second
neither-breach (Some breach) other first second = absurd cc

if-true : (b : Bool) (o : Option Breach) → (b ≡ true → o ≡ None) → (if b then o else None) ≡ None
if-true true o is = is refl
if-true false o is = refl

if-false : (b : Bool) (o : Option Breach) → (b ≡ false → o ≡ None) → (if b then None else o) ≡ None
if-false true o is = refl
if-false false o is = is refl

-- a step that keeps to what a run has to keep to breaks nothing
nothing-broken : (grants : List Grant) (process : Option ProcessState) (acted : Option Acted) →
    (IsInMode process → IfSome acted (λ (a : Acted). AreAllowed grants a.effects)) → (IsTrusted process → IfSome acted (λ (a : Acted). IsUnrefused a.outcome)) →
    breach_in grants process (option_map shown_step acted) ≡ None
nothing-broken grants None acted allowed unrefused = refl
nothing-broken grants (Some s) None allowed unrefused = refl
nothing-broken grants (Some s) (Some a) allowed unrefused =
    neither-breach _ _ (if-true s.mode (outside grants (map shown a.effects)) (λ on. nothing-outside grants a.effects (allowed on)))
    (if-false s.marked (refusal a.outcome) (λ off. no-refusal a.outcome (unrefused off)))

module _ (programs : Programs) (grants : List Grant) (valid : ArePrograms programs) (breach : Breach) where
  not-sandboxed : (w : World) (before : Option Breach) (moves : List Move) → are_own moves ≡ true → IsWellFormed programs w → AreEvents (events_in moves) → before ≡ None →
      EndsWith programs grants w before moves (Some breach) → Sandboxed programs grants w (events_in moves) → ⊥
  not-sandboxed w before [] own good bytes none ends sandboxed = absurd cc
  not-sandboxed w before ((e, Does deed) ∷ moves) own good bytes none ends sandboxed = absurd cc
  not-sandboxed w before ((e, Own) ∷ moves) own good bytes none ends sandboxed =
      let next = next_formed programs w e valid good bytes.0 in
      let choice : Choice = next.some.0 in
      let fresh : IsFresh w.files choice = next.some.1 in
      let here = sandboxed choice fresh in
      not-sandboxed (step programs w e choice).world (broken_at grants w e (step programs w e choice).acted) moves own (next.each choice fresh) bytes.1
      (nothing-broken grants (slice_get w.processes e.process) (step programs w e choice).acted here.0.allowed (λ trusted. here.0.unrefused))
      (ends.1 choice fresh) here.1

  not-confined : (w : World) (before : Option Breach) (moves : List Move) → IsWellFormed programs w → AreEvents (events_in moves) → before ≡ None →
      EndsWith programs grants w before moves (Some breach) → Confined programs grants w moves → ⊥
  not-confined w before [] good bytes none ends confined = absurd cc
  not-confined w before ((e, act) ∷ moves) good bytes none ends confined =
      let next = next_formed programs (about w e.process act) e valid (about_well_formed programs w e.process act good ends.0) bytes.0 in
      let choice : Choice = next.some.0 in
      let fresh : IsFresh w.files choice = subst (λ f. IsFresh f choice) (files_about w e.process act) next.some.1 in
      let here = confined choice fresh bytes.0 ends.0 in
      not-confined (step_as programs w e act choice).world (broken_at grants w e (step_as programs w e act choice).acted) moves (next.each choice next.some.1) bytes.1
      (nothing-broken grants (slice_get w.processes e.process) (step_as programs w e act choice).acted here.0.allowed here.0.unrefused)
      (ends.1 choice fresh) here.1

-- what is done at each move is of the language
act-spoken : (wide : Bool) (act : Act) → is_spoken_act wide act ≡ true → IsSpoken wide act
act-spoken wide Own is = tt
act-spoken wide (Does deed) is = is

all-spoken : (wide : Bool) (moves : List Move) → are_all_spoken wide moves ≡ true → AreSpoken wide moves
all-spoken wide [] is = tt
all-spoken wide ((e, act) ∷ moves) is =
    let parts = and_parts (is_spoken_act wide act) (are_all_spoken wide moves) is in (act-spoken wide act parts.0, all-spoken wide moves parts.1)

-- moves that break something are of the task's language
refuted : (plan : Plan) (moves : List Move) (breach : Breach) (all : Bool) → are_all_spoken plan.wide moves ≡ all → is_plan plan ≡ true →
    AreEvents (events_in moves) → BreaksIf all plan moves (Some breach) → IsRefuted plan moves
refuted plan moves breach false is valid bytes breaks = absurd cc
refuted plan moves breach true is valid bytes breaks =
    let formed = first_well_formed plan valid in
    record {
      confinement = λ confined.
          not-confined (programs_of_plan plan) plan.grants formed.0 breach (first_world plan) None moves formed.1.formed bytes refl breaks
          (confined moves (all-spoken plan.wide moves is));
      sandbox = λ own sandboxed.
          not-sandboxed (programs_of_plan plan) plan.grants formed.0 breach (first_world plan) None moves own formed.1.formed bytes refl breaks (sandboxed (events_in moves) bytes);
    }

pub breaches_refute : BreachesRefute
breaches_refute plan moves breach valid bytes breaks = refuted plan moves breach (are_all_spoken plan.wide moves) refl valid bytes breaks

-- what a run breaks, if it breaks something, refutes the task
pub refuted-if : (plan : Plan) (moves : List Move) (found : Option BreachCode) → is_plan plan ≡ true → AreEvents (events_in moves) →
    Breaks plan moves (option_map breach_of found) → IfSome found (λ breach. IsRefuted plan moves)
refuted-if plan moves None valid bytes breaks = tt
refuted-if plan moves (Some breach) valid bytes breaks = breaches_refute plan moves (breach_of breach) valid bytes breaks
