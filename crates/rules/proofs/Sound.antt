-- Soundness: where the rules are met, each run is confined.
use Rattle.std.proofs.Common.{◌≡◌, ℕ, zero, suc, Bool, true, false, List, [], ◌∷◌, refl, ap, sym, ◌∙◌, subst, length}
use Rattle.std.specs.Prelude.{◌&&◌, map, not, Option, Some, None, IfSome}
use Rattle.std.specs.List.{slice_get}
use Rattle.std.specs.Option.{option_map}
use Rattle.std.specs.Cmp.Derive.{both_true}
use Rattle.rights.proofs.Tests.{both_left, both_right}
use Rattle.process.specs.State.{Deed, ProcessState, handed_to}
use Rattle.certificate.specs.Bounds.{Certificate}
use Rattle.instruction_set.specs.Programs.{Instruction}
use Rattle.kernel.specs.World.{World, Choice, IsFresh}
use Rattle.kernel.specs.Answers.{Event, IsEvent}
use Rattle.kernel.specs.Hostile.{Act, Own, Does, about}
use Rattle.kernel.specs.Origins.{caller_of}
use Rattle.kernel.specs.Steps.{Acted, Executed, Stepped, acted_as, after_deed, executed, next_instruction, stepped_at, stepped_by, stepped, step}
use Rattle.kernel.specs.Walks.{call_in, under_way}
use Rattle.kernel.specs.WellFormed.{ArePrograms, IfKept, IsPoint, IsProcess, IsProcessIfMade, IsWellFormed}
use Rattle.kernel.proofs.Deeds.{changed_at_there}
use Rattle.kernel.proofs.Gains.{gains_nothing}
use Rattle.kernel.proofs.Hostile.{files_about, gains_about, handed_cases}
use Rattle.kernel.proofs.Keeping.{kept}
use Rattle.kernel.proofs.KeptWalks.{call_here}
use Rattle.kernel.proofs.Marks.{AreMarkedAs, IsMarkedAs, step_marked}
use Rattle.kernel.proofs.Spoken.{AreSpokenNext, IsSpokenNext, about_spoken, step_spoken}
use Rattle.task.specs.Plans.{Plan, Start, program_name, programs_of_plan}
use Rattle.task.specs.Begins.{first_process, first_world}
use Rattle.task.specs.Confined.{AreSpoken, Confined, IsTrusted}
use Rattle.task.specs.KeptLimits.{KeepsLimits}
use Rattle.task.specs.Sandboxed.{AreAllowed, IsInMode, IsUnrefused}
use Rattle.task.proofs.FirstWorlds.{first_well_formed}
use Rattle.task.proofs.KeptLimits.{plans_keep_limits}
use Rattle.task.proofs.Trusted.{trusted_tasks_are_sandboxed}
use Rattle.instruction_set.specs.Successors.{enters_mode}
use Rattle.rules.specs.Outcomes.{is_followed}
use Rattle.rules.specs.Points.{instruction_at}
use Rattle.rules.specs.Rules.{marked_at}
use Rattle.rules.specs.Verdicts.{IsConfining, IsHeldWithin, IsSound, MeetsRules}
use Rattle.rules.specs.Within.{HoldsWithin, StayWithin}
use Rattle.rules.proofs.calls.Owing.{Owed, Standing, invariant_after}
use Rattle.rules.proofs.hostile.About.{invariant_about}
use Rattle.rules.proofs.hostile.Confining.{Roams}
use Rattle.rules.proofs.hostile.Entering.{entering, enters_freely}
use Rattle.rules.proofs.hostile.Leaves.{Freely, after_leaves, executed_freely, executed_roams}
use Rattle.rules.proofs.points.AskedCalls.{if_passes}
use Rattle.rules.proofs.points.Marked.{AuthorityAsked, PointAsked, first_asked, marked_by_name, point_asked}
use Rattle.rules.proofs.points.Stands.{stands}
use Rattle.rules.proofs.Step.{owed_executed}
use Rattle.rules.proofs.frames.ChangeKinds.{Acts}
use Rattle.rules.proofs.worlds.FirstStates.{first_invariant}
use Rattle.rules.proofs.worlds.Invariant.{IfAlive, IsLiving, Invariant, IsDescribed, LivesBy, is_free, marks, bounds}
use Rattle.rules.specs.Seen.{seen_of, table_seen}

-- what holds of a step, and the invariant after it
record IsHeld (plan : Plan) (w : World) (e : Event) (next : Stepped) : Type 0 where
  allowed : IsInMode (slice_get w.processes e.process) → IfSome next.acted (λ (a : Acted). AreAllowed plan.grants a.effects)
  unrefused : IsTrusted (slice_get w.processes e.process) → IfSome next.acted (λ (a : Acted). IsUnrefused a.outcome)

abbrev Fine : Plan → Certificate → World → Event → Stepped → Type 0
Fine plan certificate w e next = IsHeld plan w e next × Invariant plan (bounds plan certificate) next.world

-- what the kernel's laws say of the world after it
record Lawful (plan : Plan) (v : World) : Type 0 where
  formed : IsWellFormed (programs_of_plan plan) v
  marked : AreMarkedAs (marks plan) v

-- a program with a point has a first one
first_point : (code : List Instruction) (k : ℕ) → IsPoint (slice_get code k) → (i : Instruction) × (slice_get code 0 ≡ Some i)
first_point [] k there = absurd there
first_point (i ∷ code) k there = (i, refl)

unmarked_follows : (m enters : Bool) → enters ≡ false → not (m && enters) ≡ true
unmarked_follows true true is = absurd cc
unmarked_follows true false is = refl
unmarked_follows false enters is = refl

module _ (plan : Plan) (certificate : Certificate) (keeps : KeepsLimits plan) (meets : MeetsRules plan certificate) where
  module _ (w : World) (e : Event) (byte : IsEvent e) (choice : Choice) (fresh : IsFresh w.files choice) (spoken : AreSpokenNext plan.wide w)
      (inv : Invariant plan (bounds plan certificate) w) where
    module _ (s : ProcessState) (made : slice_get w.processes e.process ≡ Some s) (alive : s.alive ≡ true) where
      acts : Acts plan w e.process s choice
      acts = record { grants = keeps.grants; formed = inv.formed; made = made; fresh = fresh }

      lives : IsLiving plan (bounds plan certificate) w e.process s
      lives = (subst (IfAlive (IsLiving plan (bounds plan certificate) w e.process)) made (inv.living e.process)) alive

      process : IsProcess (programs_of_plan plan) s
      process = subst (IsProcessIfMade (programs_of_plan plan)) made (inv.formed.world.processes e.process)

      -- its mark is that of its program's name
      by_name : s.marked ≡ marked_at plan s.program
      by_name = subst (IsMarkedAs (marks plan)) made (inv.marked e.process) ∙ marked_by_name plan keeps.programs s.program

      authority : s.marked ≡ true → AuthorityAsked plan certificate s.program
      authority is =
          let first = first_point (programs_of_plan plan s.program) s.point process.placed in
          (first_asked plan certificate s.program (sym by_name ∙ is) first.0 first.1 (meets s.program 0)).authority

      after : (i : Instruction) (x : Executed) → Owed plan certificate w e.process s choice inv.classes x → Lawful plan x.world
          → Fine plan certificate w e (record { world = x.world; acted = acted_as s x.outcome x.effects })
      after i x owed lawful = (
        record { allowed = λ on. owed.allowed (subst IsInMode made on); unrefused = λ trusted. owed.unrefused },
        invariant_after plan certificate w x.world e.process s choice acts inv owed.leaves lawful.formed lawful.marked,
      )

      -- ## It follows its program
      module _ (follows : is_free s ≡ false) (rests : s.kept ≡ None) where
        described : IsDescribed plan certificate w e.process s
        described = subst (λ b. LivesBy plan certificate b w e.process s) follows lives.asked

        standing : (i : Instruction) → instruction_at plan s.program s.point ≡ Some i → is_followed plan (program_name plan s.program) i ≡ true
            → (enters_mode i ≡ true → s.marked ≡ false) → Standing plan certificate w e.process s choice i
        standing i here followed stays = record {
          acts = acts;
          inv = inv;
          alive = alive;
          follows = follows;
          rests = rests;
          stays = stays;
          here = here;
          stands =
              stands plan certificate s (table_seen plan w e.process) i described.bound here described.at described.is
              (λ m far. ap (option_map (seen_of plan w)) (inv.formed.world.numbers e.process m far)) followed (meets s.program s.point);
        }

        stands_fine : (i : Instruction) → instruction_at plan s.program s.point ≡ Some i → is_followed plan (program_name plan s.program) i ≡ true
            → (enters_mode i ≡ true → s.marked ≡ false) → Lawful plan (executed w e choice s i).world
            → Fine plan certificate w e (record {
              world = (executed w e choice s i).world;
              acted = acted_as s (executed w e choice s i).outcome (executed w e choice s i).effects;
            })
        unfolding standing
        stands_fine i here followed stays lawful =
            after i (executed w e choice s i) (owed_executed plan certificate w e s choice i byte (standing i here followed stays)) lawful

        -- one of a marked program that enters the mode
        enters_fine : (i : Instruction) → instruction_at plan s.program s.point ≡ Some i → enters_mode i ≡ true → s.marked ≡ true
            → Lawful plan (executed w e choice s i).world
            → Fine plan certificate w e (record {
              world = (executed w e choice s i).world;
              acted = acted_as s (executed w e choice s i).outcome (executed w e choice s i).effects;
            })
        enters_fine i here enters marked lawful =
            let asked : PointAsked plan certificate s.program (sym by_name ∙ marked) i described.bound =
            point_asked plan certificate s.program (sym by_name ∙ marked) s.point i described.bound here described.at (meets s.program s.point) in
            let is = entering i enters in
            let freely = subst (λ j. Freely plan certificate w e.process choice inv.classes (executed w e choice s j)) (sym is.1)
            (enters_freely plan certificate w e s choice acts inv marked (authority marked) described (if_passes (enters_mode i) _ asked.enters enters) is.0) in (
              record { allowed = λ on. freely.allowed; unrefused = λ trusted. absurd (let clash : true ≡ false = sym marked ∙ subst IsTrusted made trusted in cc) },
              invariant_after plan certificate w (executed w e choice s i).world e.process s choice acts inv freely.leaves lawful.formed lawful.marked,
            )

        follows_fine : (i : Instruction) → instruction_at plan s.program s.point ≡ Some i → Lawful plan (executed w e choice s i).world
            → Fine plan certificate w e (record {
              world = (executed w e choice s i).world;
              acted = acted_as s (executed w e choice s i).outcome (executed w e choice s i).effects;
            })
        follows_fine i here lawful = by_enters (enters_mode i) refl s.marked refl
          where
            by_enters : (enters : Bool) → enters_mode i ≡ enters → (marked : Bool) → s.marked ≡ marked
                → Fine plan certificate w e (record {
                  world = (executed w e choice s i).world;
                  acted = acted_as s (executed w e choice s i).outcome (executed w e choice s i).effects;
                })
            by_enters false stays marked is =
                stands_fine i here (unmarked_follows (marked_at plan s.program) (enters_mode i) stays) (λ enters. absurd (let clash : true ≡ false = sym enters ∙ stays in cc)) lawful
            by_enters true enters false is =
                stands_fine i here (ap (λ m. not (m && enters_mode i)) (sym by_name ∙ is)) (λ enters. is) lawful
            by_enters true enters true is = enters_fine i here enters is lawful

      -- ## It may do anything
      module _ (roams : is_free s ≡ true) where
        roaming : Roams plan certificate w e.process s choice
        roaming = record {
          acts = acts;
          inv = inv;
          alive = alive;
          marked = both_left s.marked s.mode roams;
          mode = both_right s.marked s.mode roams;
          asked = authority (both_left s.marked s.mode roams);
          code = keeps.programs.spoken s.program;
          next = subst (IsSpokenNext plan.wide) made (spoken e.process);
        }

        roams_fine : (i : Instruction) → under_way (programs_of_plan plan) s ≡ call_in (Some i)
            → Lawful plan (record (executed w e choice s i).world {
              processes = after_deed s.kept e.process (length w.processes) (executed w e choice s i).outcome (executed w e choice s i).world.processes;
            })
            → Fine plan certificate w e (record {
              world = record (executed w e choice s i).world {
                processes = after_deed s.kept e.process (length w.processes) (executed w e choice s i).outcome (executed w e choice s i).world.processes;
              };
              acted = acted_as s (executed w e choice s i).outcome (executed w e choice s i).effects;
            })
        unfolding roaming
        roams_fine i here lawful =
            let x = executed w e choice s i in
            let freely = executed_freely plan certificate w e s choice roaming i here in (
              record {
                allowed = λ on. freely.allowed;
                unrefused = λ trusted. absurd (let clash : true ≡ false = sym (both_left s.marked s.mode roams) ∙ subst IsTrusted made trusted in cc);
              },
              invariant_after plan certificate w _ e.process s choice acts inv
                  (after_leaves plan certificate w e s choice roaming x.world (executed_roams plan certificate w e s choice roaming i) s.kept x.outcome freely.leaves)
                  lawful.formed lawful.marked,
            )

      -- ## Either
      -- a process that isn't free is to do nothing besides its program
      none_kept : is_free s ≡ false → (o : Option Deed) → IfKept (programs_of_plan plan) s o → o ≡ None
      none_kept follows None is = refl
      none_kept follows (Some deed) is = absurd (let clash : true ≡ false = sym (both_true is.marked is.mode) ∙ follows in cc)

      at_fine : (o : Option Instruction) → next_instruction s.kept (instruction_at plan s.program s.point) ≡ o → Lawful plan (stepped_at w e choice s o).world
          → Fine plan certificate w e (stepped_at w e choice s o)
      unfolding stepped_at
      at_fine None here lawful = (record { allowed = λ on. tt; unrefused = λ trusted. tt }, inv)
      at_fine (Some i) here lawful = by_free (is_free s) refl
        where
          Result : Option Deed → Stepped
          Result o = record {
            world = record (executed w e choice s i).world {
              processes = after_deed o e.process (length w.processes) (executed w e choice s i).outcome (executed w e choice s i).world.processes;
            };
            acted = acted_as s (executed w e choice s i).outcome (executed w e choice s i).effects;
          }

          by_free : (b : Bool) → is_free s ≡ b → Fine plan certificate w e (Result s.kept)
          by_free true roams = roams_fine roams i (call_here (programs_of_plan plan) s i here) lawful
          by_free false follows =
              let none : s.kept ≡ None = none_kept follows s.kept process.kept in
              subst (λ o. Fine plan certificate w e (Result o)) (sym none)
              (follows_fine follows none i (subst (λ o. next_instruction o (instruction_at plan s.program s.point) ≡ Some i) none here)
              (subst (λ o. Lawful plan (Result o).world) none lawful))

      by_fine : (living : Bool) → s.alive ≡ living → Lawful plan (stepped_by (programs_of_plan plan) w e choice s living).world
          → Fine plan certificate w e (stepped_by (programs_of_plan plan) w e choice s living)
      unfolding stepped_by
      by_fine false is lawful = absurd (let clash : true ≡ false = sym alive ∙ is in cc)
      by_fine true is lawful = at_fine (next_instruction s.kept (instruction_at plan s.program s.point)) refl lawful

    of_process : (s : ProcessState) → slice_get w.processes e.process ≡ Some s → (living : Bool) → s.alive ≡ living
        → Lawful plan (stepped_by (programs_of_plan plan) w e choice s living).world → Fine plan certificate w e (stepped_by (programs_of_plan plan) w e choice s living)
    unfolding stepped_by
    of_process s made false is lawful = (record { allowed = λ on. tt; unrefused = λ trusted. tt }, inv)
    of_process s made true is lawful = by_fine s made is true is lawful

    step_fine : (o : Option ProcessState) → slice_get w.processes e.process ≡ o → Lawful plan (stepped (programs_of_plan plan) w e choice o).world
        → Fine plan certificate w e (stepped (programs_of_plan plan) w e choice o)
    unfolding stepped
    step_fine None made lawful = (record { allowed = λ on. tt; unrefused = λ trusted. tt }, inv)
    step_fine (Some s) made lawful = of_process s made s.alive refl lawful

    -- One step: what is asked of it holds, and the invariant goes on.
    one_step : ArePrograms (programs_of_plan plan) → Fine plan certificate w e (step (programs_of_plan plan) w e choice)
    unfolding step
    one_step valid =
        let programs = programs_of_plan plan in
        step_fine (slice_get w.processes e.process) refl (record {
          formed = kept programs valid inv.formed.numbering w inv.formed.world inv.formed.walks e byte choice fresh;
          marked = step_marked (marks plan) w inv.marked e choice programs;
        })

  -- ## Whatever is done at an event
  -- what is in the mode or trusted is so where it is about to act
  mode_about : (w : World) (p : ℕ) (act : Act) → IsInMode (slice_get w.processes p) → IsInMode (slice_get (about w p act).processes p)
  mode_about w p Own on = on
  mode_about w p (Does deed) on =
      changed_at_there (λ b o. IsInMode b → IsInMode o) w.processes p (handed_to deed) p (λ o. λ is. is)
      (λ s. handed_cases (λ t. s.mode ≡ true → t.mode ≡ true) deed s (λ hostile. λ is. is) (λ is. is)) on

  trust_about : (w : World) (p : ℕ) (act : Act) → IsTrusted (slice_get w.processes p) → IsTrusted (slice_get (about w p act).processes p)
  trust_about w p Own trusted = trusted
  trust_about w p (Does deed) trusted =
      changed_at_there (λ b o. IsTrusted b → IsTrusted o) w.processes p (handed_to deed) p (λ o. λ is. is)
      (λ s. handed_cases (λ t. s.marked ≡ false → t.marked ≡ false) deed s (λ hostile. λ is. is) (λ is. is)) trusted

  next_spoken : (u : World) → AreSpokenNext plan.wide u → (e : Event) (choice : Choice) → AreSpokenNext plan.wide (step (programs_of_plan plan) u e choice).world
  next_spoken u spoken e choice = step_spoken plan.wide u spoken e choice (programs_of_plan plan)

  -- Each run from a world of the invariant is confined.
  runs : ArePrograms (programs_of_plan plan) → (w : World) (events : List (Event × Act)) → AreSpoken plan.wide events → AreSpokenNext plan.wide w
      → Invariant plan (bounds plan certificate) w → Confined (programs_of_plan plan) plan.grants w events
  runs valid w [] speak spoken inv = tt
  runs valid w ((e, act) ∷ events) speak spoken inv = λ choice fresh byte is.
      let programs = programs_of_plan plan in
      let u : World = about w e.process act in
      let here = one_step u e byte choice (subst (λ f. IsFresh f choice) (sym (files_about w e.process act)) fresh) (about_spoken plan.wide w e.process act speak.0 spoken)
      (invariant_about plan certificate w e.process act is inv) valid in (
        record {
          allowed = λ on. here.0.allowed (mode_about w e.process act on);
          unrefused = λ trusted. here.0.unrefused (trust_about w e.process act trusted);
          gains = gains_about w e.process act (caller_of programs u e) (step programs u e choice).world (gains_nothing programs u e choice);
        },
        runs valid (step programs u e choice).world events speak.1 (next_spoken u (about_spoken plan.wide w e.process act speak.0 spoken) e choice) here.1,
      )

  -- What is held in each world of such a run is within the authority.
  holds_within : (w : World) → Invariant plan (bounds plan certificate) w → HoldsWithin plan certificate w
  holds_within w inv p s made lives marked mode =
      let living = subst (IfAlive (IsLiving plan (bounds plan certificate) w p)) made (inv.living p) in
      subst (λ free. LivesBy plan certificate free w p s) (both_true marked mode) (living lives).asked

  stay_within : ArePrograms (programs_of_plan plan) → (w : World) (events : List (Event × Act)) → AreSpoken plan.wide events → AreSpokenNext plan.wide w
      → Invariant plan (bounds plan certificate) w → StayWithin plan certificate w events
  stay_within valid w [] speak spoken inv = holds_within w inv
  stay_within valid w ((e, act) ∷ events) speak spoken inv = (
    holds_within w inv,
    λ choice fresh byte is.
        let u : World = about w e.process act in
        let here = one_step u e byte choice (subst (λ f. IsFresh f choice) (sym (files_about w e.process act)) fresh) (about_spoken plan.wide w e.process act speak.0 spoken)
        (invariant_about plan certificate w e.process act is inv) valid in
        stay_within valid (step (programs_of_plan plan) u e choice).world events speak.1 (next_spoken u (about_spoken plan.wide w e.process act speak.0 spoken) e choice) here.1,
  )

-- at first nothing is to be done besides the programs
first_spoken : (plan : Plan) → AreSpokenNext plan.wide (first_world plan)
unfolding first_world
first_spoken plan p = go plan.starts p
  where
    go : (starts : List Start) (p : ℕ) → IsSpokenNext plan.wide (slice_get (map (first_process plan.programs) starts) p)
    go [] p = tt
    go (s ∷ starts) zero = tt
    go (s ∷ starts) (suc p) = go starts p

-- Soundness, whatever programs are marked.
pub confining : IsConfining
confining plan certificate valid meets events speak =
    runs plan certificate (plans_keep_limits plan valid) meets (first_well_formed plan valid).0 (first_world plan) events speak (first_spoken plan) (first_invariant plan certificate valid meets)

pub sound : IsSound
sound plan certificate valid none meets = trusted_tasks_are_sandboxed plan valid none (confining plan certificate valid meets)

pub held_within : IsHeldWithin
held_within plan certificate valid meets events speak =
    stay_within plan certificate (plans_keep_limits plan valid) meets (first_well_formed plan valid).0 (first_world plan) events speak (first_spoken plan)
    (first_invariant plan certificate valid meets)
