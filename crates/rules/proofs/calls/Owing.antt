-- What is owed of a step of a living process, so that it is safe and the invariant holds after it; and that steps owe it
-- that change neither the tree nor a table.
use Rattle.std.proofs.Common.{◌≡◌, ℕ, false, true, List, [], refl, ap, sym, ◌∙◌, subst}
use Rattle.std.specs.Prelude.{slice_set, Option, Some, None}
use Rattle.std.specs.List.{slice_get}
use Rattle.rights.specs.Errors.{Errno, Cause}
use Rattle.rights.proofs.Changes.{put-cases}
use Rattle.rights.proofs.Lists.{slice_get-set_same, slice_get-set_cases}
use Rattle.process.specs.State.{ProcessState, ended}
use Rattle.fd_table.specs.Descriptions.{PairClass, Descriptor, IfHeld}
use Rattle.instruction_set.specs.Programs.{Instruction}
use Rattle.certificate.specs.Bounds.{Certificate}
use Rattle.kernel.specs.World.{World, Choice}
use Rattle.kernel.specs.Answers.{QueueChange, Same_queue, Fails, Waits}
use Rattle.kernel.specs.Steps.{Executed, Halted, with_process, plain, failed, answered, halted}
use Rattle.kernel.specs.WellFormed.{IsWellFormed}
use Rattle.task.specs.Plans.{Plan, programs_of_plan}
use Rattle.task.specs.Sandboxed.{AreAllowed, IsOtherCause, IsUnrefused}
use Rattle.kernel.proofs.Marks.{AreMarkedAs}
use Rattle.instruction_set.specs.Successors.{enters_mode}
use Rattle.rules.specs.Points.{instruction_at}
use Rattle.rules.specs.Seen.{table_seen}
use Rattle.rules.proofs.worlds.Walks.{rests}
use Rattle.rules.proofs.worlds.Invariant.{IfAlive, IsLiving, HasClass, Invariant, IsDescribed, LivesBy, is_free, marks, bounds}
use Rattle.rules.proofs.frames.Frames.{Frame, KeepsClasses, Owes, bounds_persist, next}
use Rattle.rules.proofs.frames.ChangeKinds.{Acts, frame_same, frame_process, frame_halted}
use Rattle.rules.proofs.points.Stands.{Stands}
use Rattle.rules.proofs.outcomes.Plain.{Arrives}

-- What is known before the step: the invariant, a fresh choice, and a process that lives and stands at a point with an
-- instruction and a bound, and follows its program: it isn't of a marked one and in the mode, nor enters it.
pub record Standing (plan : Plan) (certificate : Certificate) (w : World) (p : ℕ) (s : ProcessState) (choice : Choice) (i : Instruction) : Type 0 where
  pub acts : Acts plan w p s choice
  pub inv : Invariant plan (bounds plan certificate) w
  pub alive : s.alive ≡ true
  pub follows : is_free s ≡ false
  pub rests : s.kept ≡ None
  pub stays : enters_mode i ≡ true → s.marked ≡ false
  pub here : instruction_at plan s.program s.point ≡ Some i
  pub stands : Stands plan certificate s (table_seen plan w p) i

-- What a step leaves: the frame, the classes of pairs, and what the acting process owes of itself, of a child, and of what
-- it has sent.
pub record Leaves (plan : Plan) (certificate : Certificate) (w v : World) (p : ℕ) (choice : Choice) (classes : ℕ → PairClass) : Type 0 where
  pub queue : QueueChange
  pub frame : Frame plan w v choice queue p
  pub after : ℕ → PairClass
  pub kept : KeepsClasses v choice classes after
  pub owes : Owes plan (bounds plan certificate) w v after queue p

-- What is owed of a step: in the mode its effects are allowed, no call is refused for a right or by the mode, and it
-- leaves what it must.
pub record Owed (plan : Plan) (certificate : Certificate) (w : World) (p : ℕ) (s : ProcessState) (choice : Choice) (classes : ℕ → PairClass) (x : Executed) : Type 0 where
  pub allowed : s.mode ≡ true → AreAllowed plan.grants x.effects
  pub unrefused : IsUnrefused x.outcome
  pub leaves : Leaves plan certificate w x.world p choice classes

-- so the invariant holds after it
pub invariant_after :
    (plan : Plan) (certificate : Certificate) (w v : World) (p : ℕ) (s : ProcessState) (choice : Choice) → Acts plan w p s choice
    → (inv : Invariant plan (bounds plan certificate) w) → Leaves plan certificate w v p choice inv.classes
    → IsWellFormed (programs_of_plan plan) v → AreMarkedAs (marks plan) v → Invariant plan (bounds plan certificate) v
invariant_after plan certificate w v p s choice acts inv leaves formed marked =
    next plan w v choice leaves.queue p leaves.frame (bounds plan certificate)
    (bounds_persist plan w v choice leaves.queue p leaves.frame certificate) inv leaves.after leaves.kept acts.grants formed marked leaves.owes

-- what a process comes to, in the world after it, with nothing under way
pub described_there :
    (plan : Plan) (certificate : Certificate) (v : World) (p : ℕ) (t : ProcessState) → Arrives plan certificate t (table_seen plan v p)
    → IsDescribed plan certificate v p t
described_there plan certificate v p t there = record { bound = there.bound; at = there.at; is = there.is }

-- one that follows its program is asked to be described
pub lives_described :
    (plan : Plan) (certificate : Certificate) (v : World) (p : ℕ) (t : ProcessState) → is_free t ≡ false → IsDescribed plan certificate v p t
    → LivesBy plan certificate (is_free t) v p t
lives_described plan certificate v p t follows there = subst (λ b. LivesBy plan certificate b v p t) (sym follows) there

pub living_there :
    (plan : Plan) (certificate : Certificate) (v : World) (p : ℕ) (t : ProcessState) → is_free t ≡ false → t.walk ≡ None
    → Arrives plan certificate t (table_seen plan v p) → IsLiving plan (bounds plan certificate) v p t
living_there plan certificate v p t follows none there = record {
  asked = lives_described plan certificate v p t follows (described_there plan certificate v p t there);
  walker = rests plan v.tree v.files.objects (v.files.table p) t none;
}

module _ (plan : Plan) (certificate : Certificate) (w : World) (p : ℕ) (s : ProcessState) (choice : Choice) (acts : Acts plan w p s choice)
    (inv : Invariant plan (bounds plan certificate) w) where
  -- the process in its place in the list
  pub in_place :
      (v : World) (t : ProcessState) → v.processes ≡ slice_set w.processes p t → IfAlive (IsLiving plan (bounds plan certificate) v p) (Some t)
      → IfAlive (IsLiving plan (bounds plan certificate) v p) (slice_get v.processes p)
  in_place v t is inside =
      let at : slice_get v.processes p ≡ Some t = ap (λ ps. slice_get ps p) is ∙ slice_get-set_same w.processes p s t acts.made in
      subst (IfAlive (IsLiving plan (bounds plan certificate) v p)) (sym at) inside

  -- and no process made
  pub no_child :
      (v : World) (t : ProcessState) → v.processes ≡ slice_set w.processes p t → (q : ℕ) → slice_get w.processes q ≡ None
      → IfAlive (IsLiving plan (bounds plan certificate) v q) (slice_get v.processes q)
  no_child v t is q none =
      let P : Option ProcessState → Type 0 = IfAlive (IsLiving plan (bounds plan certificate) v q) in
      subst (λ (ps : List ProcessState). P (slice_get ps q)) (sym is)
      (slice_get-set_cases P w.processes p t q
      (λ same. absurd (let clash : Some s ≡ None = sym acts.made ∙ ap (slice_get w.processes) (sym same) ∙ none in cc))
      (subst P (sym none) tt))

  -- a step that changes the process alone
  pub leaves_process : (t : ProcessState) → IfAlive (IsLiving plan (bounds plan certificate) (with_process w p t) p) (Some t)
      → Leaves plan certificate w (with_process w p t) p choice inv.classes
  leaves_process t inside = record {
    queue = Same_queue;
    frame = frame_process plan w p s choice acts t;
    after = inv.classes;
    kept = record { same = λ pair other. refl; ends = inv.ends };
    owes = record {
      own = in_place (with_process w p t) t refl inside;
      child = no_child (with_process w p t) t refl;
      pushed = tt;
    };
  }

  -- nothing changes
  pub leaves_same : Leaves plan certificate w w p choice inv.classes
  leaves_same = record {
    queue = Same_queue;
    frame = frame_same plan w p s choice acts;
    after = inv.classes;
    kept = record { same = λ pair other. refl; ends = inv.ends };
    owes = record {
      own = inv.living p;
      child = λ q none. inv.living q;
      pushed = tt;
    };
  }

  -- the process ended
  pub leaves_halted : Leaves plan certificate w (halted w p s) p choice inv.classes
  leaves_halted = record {
    queue = Same_queue;
    frame = frame_halted plan w p s choice acts s;
    after = inv.classes;
    kept = record {
      same = λ pair other. refl;
      ends = λ q n.
          put-cases (λ (row : ℕ → Option Descriptor). IfHeld (HasClass w.files.objects inv.classes) (row n)) w.files.table p (λ k. None) q
          (λ _. tt) (λ _. inv.ends q n);
    };
    owes = record {
      own = in_place (halted w p s) (ended s) refl (λ alive. absurd cc);
      child = no_child (halted w p s) (ended s) refl;
      pushed = tt;
    };
  }

module _ (plan : Plan) (certificate : Certificate) (w : World) (p : ℕ) (s : ProcessState) (choice : Choice) (i : Instruction)
    (known : Standing plan certificate w p s choice i) where
  -- an instruction that is neither `halt` nor a call
  pub owed_plain : (t : ProcessState) → is_free t ≡ false → t.walk ≡ None → Arrives plan certificate t (table_seen plan w p) → Owed plan certificate w p s choice known.inv.classes (plain w p t)
  owed_plain t follows none there = record {
    allowed = λ on. tt;
    unrefused = tt;
    leaves = leaves_process plan certificate w p s choice known.acts known.inv t (λ alive. living_there plan certificate (with_process w p t) p t follows none there);
  }

  -- `halt`
  pub owed_halt : Owed plan certificate w p s choice known.inv.classes (record { world = halted w p s; outcome = Halted; effects = [] })
  owed_halt = record { allowed = λ on. tt; unrefused = tt; leaves = leaves_halted plan certificate w p s choice known.acts known.inv }

  -- a call that waits
  pub owed_waits : (otherwise : ℕ) → Owed plan certificate w p s choice known.inv.classes (answered w p s choice otherwise Waits)
  unfolding answered
  owed_waits otherwise = record { allowed = λ on. tt; unrefused = tt; leaves = leaves_same plan certificate w p s choice known.acts known.inv }

  -- a call that fails, of another cause than a right or the mode
  pub owed_failed : (errno : Errno) (cause : Cause) (otherwise : ℕ) → IsOtherCause cause → Arrives plan certificate (failed s errno otherwise) (table_seen plan w p)
      → Owed plan certificate w p s choice known.inv.classes (answered w p s choice otherwise (Fails errno cause))
  unfolding answered
  owed_failed errno cause otherwise other there =
      let t : ProcessState = failed s errno otherwise in
      record {
        allowed = λ on. tt;
        unrefused = other;
        leaves = leaves_process plan certificate w p s choice known.acts known.inv t (λ alive. living_there plan certificate (with_process w p t) p t known.follows refl there);
      }
