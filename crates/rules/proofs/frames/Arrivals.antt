-- The invariant of each world that a step leads to, from what the acting process owes.
use Rattle.std.proofs.Common.{◌≡◌, ◌≢◌, ℕ, true, List, [], ◌++◌, refl, ap, sym, ◌∙◌, subst, length, append-nil}
use Rattle.std.specs.Prelude.{slice_set, Option, Some, None}
use Rattle.std.specs.List.{slice_get}
use Rattle.std.proofs.Math.ListN.{length-set}
use Rattle.std.proofs.lemmas.Bool.{eq-eqb, both_ways}
use Rattle.rights.proofs.Changes.{put-cases}
use Rattle.rights.proofs.Lists.{slice_get-set_cases, slice_get-set_same}
use Rattle.process.specs.State.{ProcessState, ended, forked}
use Rattle.fd_table.specs.Descriptions.{PairClass, At_end, Descriptor, IfHeld}
use Rattle.fd_table.specs.OpenFiles.{is_end}
use Rattle.kernel.specs.World.{World, Choice}
use Rattle.kernel.specs.Answers.{TableChange, Same_table, Set_entry, Clear_entry, New_file, New_pair, New_process, Same_queue, Change}
use Rattle.kernel.specs.Changes.{processes_after, changed}
use Rattle.kernel.specs.Steps.{with_process, halted}
use Rattle.kernel.specs.WellFormed.{IsWellFormed}
use Rattle.kernel.proofs.KeptWalks.{slice_get-more_cases}
use Rattle.task.specs.Plans.{Plan, programs_of_plan}
use Rattle.rules.proofs.worlds.Invariant.{Asks, IfAlive, IsLiving, IsOfClass, HasClass, IsCarried, Invariant}
use Rattle.rules.proofs.worlds.Walks.{rests}
use Rattle.rules.proofs.frames.KeptTrees.{IsDeepChange}
use Rattle.rules.proofs.frames.Frames.{Persists, IfPushed, next, carried_later}
use Rattle.rules.proofs.frames.ChangeKinds.{Acts, get_front, frame_process, frame_halted, frame_changed}
use Rattle.rules.proofs.frames.PairClasses.{classes_after, classes_kept, IsNamed, BringsNamed, classes_changed}

-- what a child owes, where there is one
abbrev pub IfChild : TableChange → Type 0 → Type 0
IfChild Same_table Owed = Unit {0}
IfChild (Set_entry number d) Owed = Unit {0}
IfChild (Clear_entry number) Owed = Unit {0}
IfChild (New_file number n access append rights fcntls) Owed = Unit {0}
IfChild (New_pair first second class) Owed = Unit {0}
IfChild New_process Owed = Owed

pub if_child : (table : TableChange) {A B : Type 0} → (A → B) → IfChild table A → IfChild table B
if_child Same_table f owed = tt
if_child (Set_entry number d) f owed = tt
if_child (Clear_entry number) f owed = tt
if_child (New_file number n access append rights fcntls) f owed = tt
if_child (New_pair first second class) f owed = tt
if_child New_process f owed = f owed

-- What a process owes that goes on at t after a call's change.
pub record OwesChange (plan : Plan) (asks : Asks) (w : World) (classes : ℕ → PairClass) (p : ℕ) (t : ProcessState) (choice : Choice) (change : Change) : Type 0 where
  pub deep : IsDeepChange plan.grants w.tree change.tree
  pub named : BringsNamed w choice classes change.table
  pub own : t.alive ≡ true → asks.Lives (changed w p t choice change) p t
  pub child : IfChild change.table ((forked t).alive ≡ true → asks.Lives (changed w p t choice change) (length w.processes) (forked t))
  pub pushed : IfPushed (IsCarried asks (changed w p t choice change) (classes_after classes choice change.table)) change.queue

module _ (plan : Plan) (w : World) (p : ℕ) (s : ProcessState) (choice : Choice) (acts : Acts plan w p s choice) (asks : Asks) (inv : Invariant plan asks w) where
  -- ## Processes
  -- one that has nothing under way
  pub lives_on : (v : World) (q : ℕ) (t : ProcessState) → t.walk ≡ None → asks.Lives v q t → IsLiving plan asks v q t
  lives_on v q t none asked = record { asked = asked; walker = rests plan v.tree v.files.objects (v.files.table q) t none }

  none_made : (P : ProcessState → Type 0) (t : ProcessState) (q : ℕ) → slice_get w.processes q ≡ None → IfAlive P (slice_get (slice_set w.processes p t) q)
  none_made P t q none =
      slice_get-set_cases (IfAlive P) w.processes p t q
      (λ same. let both : Some s ≡ None = sym acts.made ∙ ap (slice_get w.processes) (sym same) ∙ none in absurd cc)
      (subst (IfAlive P) (sym none) tt)

  none_added : (P : ProcessState → Type 0) (t : ProcessState) (q : ℕ) → slice_get w.processes q ≡ None → IfAlive P (slice_get (slice_set w.processes p t ++ []) q)
  none_added P t q none =
      subst (λ (xs : List ProcessState). IfAlive P (slice_get xs q)) (sym (append-nil (slice_set w.processes p t))) (none_made P t q none)

  pub child_owed : (P : ℕ → ProcessState → Type 0) (t : ProcessState) (table : TableChange)
      → IfChild table ((forked t).alive ≡ true → P (length w.processes) (forked t)) → (q : ℕ) → slice_get w.processes q ≡ None
      → IfAlive (P q) (slice_get (processes_after w.processes p t table) q)
  child_owed P t Same_table owed q none = none_added (P q) t q none
  child_owed P t (Set_entry number d) owed q none = none_added (P q) t q none
  child_owed P t (Clear_entry number) owed q none = none_added (P q) t q none
  child_owed P t (New_file number n access append rights fcntls) owed q none = none_added (P q) t q none
  child_owed P t (New_pair first second class) owed q none = none_added (P q) t q none
  child_owed P t New_process owed q none =
      slice_get-more_cases (IfAlive (P q)) (slice_set w.processes p t) (forked t) q
      (λ same. subst (λ k. (forked t).alive ≡ true → P k (forked t)) (sym (same ∙ length-set w.processes p t)) owed)
      (λ _. none_made (P q) t q none)

  pub own_owed : (P : ProcessState → Type 0) (t : ProcessState) (more : List ProcessState) → (t.alive ≡ true → P t) → IfAlive P (slice_get (slice_set w.processes p t ++ more) p)
  own_owed P t more owed =
      subst (IfAlive P) (sym (get_front (slice_set w.processes p t) more p t (slice_get-set_same w.processes p s t acts.made))) owed

  -- ## What is sent
  -- A descriptor that is named is of no new pair, and of the class of its pair.
  pub named_end : (d : Descriptor) (pair side : ℕ) (class : PairClass) → IsNamed w choice inv.classes d
      → w.files.objects d.description ≡ At_end pair side class → (pair ≢ choice.pair) × (inv.classes pair ≡ class)
  named_end d pair side class named is = (
    (λ same. both_ways (is_end choice.pair side (At_end pair side class)) (ap (is_end choice.pair side) (sym is) ∙ named.apart.ends side)
        (rw (eq-eqb pair choice.pair same, eq-eqb side side refl) refl)),
    subst (IsOfClass inv.classes) is named.class,
  )

  -- Through such an end a named descriptor is sent that satisfies what is asked of its channel.
  pub sent_arrives : (t : ProcessState) (change : Change) → IsDeepChange plan.grants w.tree change.tree
      → Persists asks w (changed w p t choice change) → (pair side : ℕ) → pair ≢ choice.pair → (d : Descriptor) → IsNamed w choice inv.classes d
      → asks.Carries w (inv.classes pair) side d
      → IsCarried asks (changed w p t choice change) (classes_after inv.classes choice change.table) pair side d
  sent_arrives t change deep persists pair side other d named carries =
      carried_later plan w (changed w p t choice change) choice change.queue p (frame_changed plan w p s choice acts t change deep) asks persists inv.classes
      (classes_after inv.classes choice change.table) (classes_kept inv.classes choice change.table) pair side other d named.apart (named.class, carries)
