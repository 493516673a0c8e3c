-- What is owed of the answer of a call, by its tests; and that plain instructions, and successes that change neither the tree
-- nor a table, owe it.
use Rattle.std.proofs.Common.{◌≡◌, ℕ, Bool, true, false, List, refl, sym, ◌∙◌, subst, append-nil}
use Rattle.std.specs.Prelude.{◌&&◌, ◌||◌, slice_set, Option, Some, None}
use Rattle.rights.specs.Errors.{Errno, Cause, EBADF, BadDescriptor, EMFILE, Full}
use Rattle.process.specs.State.{ProcessState}
use Rattle.fd_table.specs.Descriptions.{PairClass, Access, Object, At_node, At_end, Descriptor}
use Rattle.instruction_set.specs.Programs.{Syscall, Instruction, Invoke}
use Rattle.certificate.specs.Bounds.{Interval, with_interval, Bound, Certificate}
use Rattle.certificate.specs.Describes.{interval_describes}
use Rattle.kernel.specs.World.{World, Choice}
use Rattle.kernel.specs.Answers.{Event, IsEvent, Effect, TreeChange, Same_table, QueueChange, StateChange, Change, Answer, Fails, Waits, Gives, unless, held, at_object, at_number}
use Rattle.kernel.specs.Changes.{given, files_after, changed}
use Rattle.kernel.specs.Steps.{answered, executed}
use Rattle.task.specs.Plans.{Plan}
use Rattle.task.specs.Policies.{grant_holds}
use Rattle.task.specs.Sandboxed.{AreAllowed, IsOtherCause}
use Rattle.rules.specs.Demands.{demands}
use Rattle.rules.specs.Seen.{table_seen}
use Rattle.rules.proofs.worlds.Invariant.{IsCarried, IsDescribed, bounds}
use Rattle.rules.proofs.frames.KeptTrees.{IsDeepChange}
use Rattle.rules.proofs.frames.Frames.{KeepsClasses, IfPushed, described_stays}
use Rattle.rules.proofs.frames.ChangeKinds.{frame_changed}
use Rattle.rules.proofs.bounds.Describing.{Described, described, from_described, register_changed}
use Rattle.rules.proofs.outcomes.Outcomes.{GoesOn}
use Rattle.rules.proofs.outcomes.Plain.{arrives, Moves}
use Rattle.rules.proofs.outcomes.Failing.{failed_arrives}
use Rattle.rules.proofs.calls.Owing.{Standing, Owed, living_there, in_place, no_child, owed_plain, owed_failed, owed_waits}

-- A plain instruction owes what it should.
pub plain_owed :
    (plan : Plan) (certificate : Certificate) (w : World) (e : Event) (s : ProcessState) (choice : Choice) (i : Instruction) → IsEvent e
    → (known : Standing plan certificate w e.process s choice i)
    → Moves plan certificate w e choice s (table_seen plan w e.process) i
    → Owed plan certificate w e.process s choice known.inv.classes (executed w e choice s i)
plain_owed plan certificate w e s choice i byte known moves =
    subst (Owed plan certificate w e.process s choice known.inv.classes) (sym moves.is)
    (owed_plain plan certificate w e.process s choice i known moves.to ((λ k. moves.marked k && moves.mode k) ∙ known.follows) moves.resting moves.arrives)

-- a call that changes neither the tree, but for contents, nor a table
abbrev pub quiet : TreeChange → QueueChange → StateChange → Bool → Change
quiet tree queue state enters = record { tree = tree; table = Same_table; queue = queue; state = state; enters = enters }

pub off_stays : (a : Bool) → (a || false) ≡ a
off_stays true = refl
off_stays false = refl

module _ (plan : Plan) (certificate : Certificate) (w : World) (p : ℕ) (s : ProcessState) (choice : Choice) (call : Syscall) (otherwise : ℕ)
    (known : Standing plan certificate w p s choice (Invoke call otherwise)) where
  abbrev pub OwedOf : Answer → Type 0
  OwedOf a = Owed plan certificate w p s choice known.inv.classes (answered w p s choice otherwise a)

  -- The answer of a call owes what it should, whatever the tests of the call come to.
  unfoldable pub OwedBy : Answer → Type 0
  OwedBy a = OwedOf a

  pub owed_by : (a : Answer) → OwedOf a → OwedBy a
  unfolding OwedBy
  owed_by a owed = owed

  pub owed_of : (a : Answer) → OwedBy a → OwedOf a
  unfolding OwedBy
  owed_of a owed = owed

  pub owed_fails : (demands call).never_fails ≡ false → (errno : Errno) (cause : Cause) → IsOtherCause cause → OwedBy (Fails errno cause)
  owed_fails may errno cause other =
      owed_by (Fails errno cause)
      (owed_failed plan certificate w p s choice (Invoke call otherwise) known errno cause otherwise other
      (failed_arrives plan certificate s (table_seen plan w p) call otherwise known.stands may errno))

  pub owed_wait : OwedBy Waits
  owed_wait = owed_by Waits (owed_waits plan certificate w p s choice (Invoke call otherwise) known otherwise)

  -- ## Tests
  pub owed_unless : (demands call).never_fails ≡ false → (c : Bool) (errno : Errno) (cause : Cause) (rest : Answer) → IsOtherCause cause
      → (c ≡ true → OwedBy rest) → OwedBy (unless c errno cause rest)
  unfolding unless
  owed_unless may true errno cause rest other owed = owed refl
  owed_unless may false errno cause rest other owed = owed_fails may errno cause other

  -- a test that is passed
  pub owed_passed : (c : Bool) (errno : Errno) (cause : Cause) (rest : Answer) → c ≡ true → OwedBy rest → OwedBy (unless c errno cause rest)
  unfolding unless
  owed_passed true errno cause rest passed owed = owed
  owed_passed false errno cause rest passed owed = absurd cc

  pub owed_held : (demands call).never_fails ≡ false → (o : Option Descriptor) (rest : Descriptor → Answer)
      → ((d : Descriptor) → o ≡ Some d → OwedBy (rest d)) → OwedBy (held o rest)
  unfolding held
  owed_held may None rest owed = owed_fails may EBADF BadDescriptor tt
  owed_held may (Some d) rest owed = owed d refl

  pub owed_object : (o : Object) (on_node : ℕ → Access → Answer) (on_end : ℕ → ℕ → Answer)
      → ((n : ℕ) (access : Access) → o ≡ At_node n access → OwedBy (on_node n access))
      → ((pair side : ℕ) (class : PairClass) → o ≡ At_end pair side class → OwedBy (on_end pair side)) → OwedBy (at_object o on_node on_end)
  unfolding at_object
  owed_object (At_node n access) on_node on_end node end = node n access refl
  owed_object (At_end pair side class) on_node on_end node end = end pair side class refl

  pub owed_number : (demands call).never_fails ≡ false → (o : Option ℕ) (rest : ℕ → Answer) → ((n : ℕ) → o ≡ Some n → OwedBy (rest n)) → OwedBy (at_number o rest)
  unfolding at_number
  owed_number may None rest owed = owed_fails may EMFILE Full tt
  owed_number may (Some n) rest owed = owed n refl

  -- ## A success that changes neither a table nor a place
  processes_same : (t : ProcessState) (tree : TreeChange) (queue : QueueChange) (state : StateChange) (enters : Bool)
      → (changed w p t choice (quiet tree queue state enters)).processes ≡ slice_set w.processes p t
  unfolding changed
  processes_same t tree queue state enters = append-nil (slice_set w.processes p t)

  classes_same : (t : ProcessState) (tree : TreeChange) (queue : QueueChange) (state : StateChange) (enters : Bool)
      → KeepsClasses (changed w p t choice (quiet tree queue state enters)) choice known.inv.classes known.inv.classes
  unfolding changed files_after
  classes_same t tree queue state enters = record { same = λ pair other. refl; ends = known.inv.ends }

  pub owed_quiet :
      (value : ℕ) (tree : TreeChange) (queue : QueueChange) (state : StateChange) (enters : Bool) (effects : List Effect) (after : Bound) (i : Interval)
      → (s.marked && (s.mode || enters)) ≡ false
      → IsDeepChange plan.grants w.tree tree → (s.mode ≡ true → AreAllowed plan.grants effects)
      → IfPushed (IsCarried (bounds plan certificate) (changed w p (given s value (quiet tree queue state enters)) choice (quiet tree queue state enters)) known.inv.classes) queue
      → GoesOn plan certificate s after i → interval_describes i value ≡ true
      → Described (grant_holds plan.grants) after (s.mode || enters) s.registers
      (table_seen plan (changed w p (given s value (quiet tree queue state enters)) choice (quiet tree queue state enters)) p)
      → OwedBy (Gives value (quiet tree queue state enters) effects)
  unfolding OwedBy answered
  owed_quiet value tree queue state enters effects after i follows deep allowed pushed leads fits inside =
      let change : Change = quiet tree queue state enters in
      let t : ProcessState = given s value change in
      let v : World = changed w p t choice change in
      record {
        allowed = allowed;
        unrefused = tt;
        leaves = record {
          queue = queue;
          frame = frame_changed plan w p s choice known.acts t change deep;
          after = known.inv.classes;
          kept = classes_same t tree queue state enters;
          owes = record {
            own =
                in_place plan certificate w p s choice known.acts known.inv v t (processes_same t tree queue state enters)
                (λ alive. living_there plan certificate v p t follows refl
                (arrives plan certificate t (table_seen plan v p) (with_interval after 0 i) leads
                (register_changed (grant_holds plan.grants) after (s.mode || enters) s.registers (table_seen plan v p) 0 value i fits inside)));
            child = no_child plan certificate w p s choice known.acts known.inv v t (processes_same t tree queue state enters);
            pushed = pushed;
          };
        };
      }

  table_same : (t : ProcessState) (tree : TreeChange) (queue : QueueChange) (state : StateChange) (enters : Bool) (n : ℕ)
      → (changed w p t choice (quiet tree queue state enters)).files.table p n ≡ w.files.table p n
  unfolding changed files_after
  table_same t tree queue state enters n = refl

  -- what the bound says of the process as it was, it says in the world after
  pub inside_later : (t : ProcessState) (tree : TreeChange) (queue : QueueChange) (state : StateChange) (enters : Bool) → IsDeepChange plan.grants w.tree tree
      → Described (grant_holds plan.grants) known.stands.bound s.mode s.registers (table_seen plan (changed w p t choice (quiet tree queue state enters)) p)
  inside_later t tree queue state enters deep =
      let holds = grant_holds plan.grants in
      let change : Change = quiet tree queue state enters in
      let v : World = changed w p t choice change in
      let b : Bound = known.stands.bound in
      let before : IsDescribed plan certificate w p s = record {
        bound = b;
        at = known.stands.at;
        is = from_described holds b s.mode s.registers (table_seen plan w p) known.stands.inside;
      } in
      let after : IsDescribed plan certificate v p s =
      described_stays plan w v choice queue p (frame_changed plan w p s choice known.acts t change deep) certificate p s
      (table_same t tree queue state enters) before in
      let clash : Some after.bound ≡ Some b = sym after.at ∙ known.stands.at in
      let same : after.bound ≡ b = cc in
      subst (λ x. Described holds x s.mode s.registers (table_seen plan v p)) same
      (described holds after.bound s.mode s.registers (table_seen plan v p) after.is)

  -- one that gives a value alone, of an interval
  pub owed_value :
      (value : ℕ) (tree : TreeChange) (queue : QueueChange) (state : StateChange) (effects : List Effect) (i : Interval)
      → IsDeepChange plan.grants w.tree tree → (s.mode ≡ true → AreAllowed plan.grants effects)
      → IfPushed (IsCarried (bounds plan certificate) (changed w p (given s value (quiet tree queue state false)) choice (quiet tree queue state false)) known.inv.classes) queue
      → GoesOn plan certificate s known.stands.bound i → interval_describes i value ≡ true
      → OwedBy (Gives value (quiet tree queue state false) effects)
  owed_value value tree queue state effects i deep allowed pushed leads fits =
      let t : ProcessState = given s value (quiet tree queue state false) in
      owed_quiet value tree queue state false effects known.stands.bound i (subst (λ on. (s.marked && on) ≡ false) (sym (off_stays s.mode)) known.follows) deep allowed pushed leads fits
      (subst (λ on. Described (grant_holds plan.grants) known.stands.bound on s.registers (table_seen plan (changed w p t choice (quiet tree queue state false)) p))
      (sym (off_stays s.mode)) (inside_later t tree queue state false deep))
