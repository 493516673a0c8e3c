-- What is owed of a success that changes a table.
use Rattle.std.proofs.Common.{◌≡◌, ℕ, true, false, List, length, refl, sym, subst}
use Rattle.std.specs.Prelude.{◌&&◌, ◌||◌, slice_set, Some}
use Rattle.process.specs.State.{ProcessState, forked}
use Rattle.fd_table.specs.Descriptions.{Descriptor, IfHeld}
use Rattle.instruction_set.specs.Programs.{Syscall, Invoke}
use Rattle.certificate.specs.Bounds.{Interval, with_interval, Bound, Certificate}
use Rattle.certificate.specs.Describes.{interval_describes}
use Rattle.kernel.specs.World.{World, Choice}
use Rattle.kernel.specs.Answers.{Effect, Change, Gives}
use Rattle.kernel.specs.Changes.{second_number, given, changed}
use Rattle.kernel.specs.Steps.{answered}
use Rattle.task.specs.Plans.{Plan}
use Rattle.task.specs.Policies.{grant_holds}
use Rattle.task.specs.Sandboxed.{AreAllowed}
use Rattle.rules.specs.Seen.{table_seen}
use Rattle.rules.proofs.worlds.Invariant.{IsLiving, LivesBy, is_free, bounds}
use Rattle.rules.proofs.frames.ChangeKinds.{frame_changed}
use Rattle.rules.proofs.frames.PairClasses.{classes_after, IsNamed, entry_named, classes_changed}
use Rattle.rules.proofs.bounds.Describing.{Described, register_changed}
use Rattle.rules.proofs.frames.Arrivals.{OwesChange, if_child, lives_on, own_owed, child_owed}
use Rattle.rules.proofs.outcomes.Outcomes.{GoesOn}
use Rattle.rules.proofs.outcomes.Plain.{arrives}
use Rattle.rules.proofs.calls.Owing.{Standing, described_there, lives_described}
use Rattle.rules.proofs.calls.OwedCalls.{OwedBy, off_stays, owed_by}

module _ (plan : Plan) (certificate : Certificate) (w : World) (p : ℕ) (s : ProcessState) (choice : Choice) (call : Syscall) (otherwise : ℕ)
    (known : Standing plan certificate w p s choice (Invoke call otherwise)) where
  -- a success, whatever it changes
  pub owed_change :
      (value : ℕ) (change : Change) (effects : List Effect) → (s.mode ≡ true → AreAllowed plan.grants effects)
      → OwesChange plan (bounds plan certificate) w known.inv.classes p (given s value change) choice change
      → OwedBy plan certificate w p s choice call otherwise known (Gives value change effects)
  unfolding answered changed
  owed_change value change effects allowed owes =
      let t : ProcessState = given s value change in
      let v : World = changed w p t choice change in
      owed_by plan certificate w p s choice call otherwise known (Gives value change effects) (record {
        allowed = allowed;
        unrefused = tt;
        leaves = record {
          queue = change.queue;
          frame = frame_changed plan w p s choice known.acts t change owes.deep;
          after = classes_after known.inv.classes choice change.table;
          kept = classes_changed plan w p s choice known.acts (bounds plan certificate) known.inv t change owes.deep owes.named;
          owes = record {
            own =
                own_owed plan w p s choice known.acts (bounds plan certificate) known.inv (IsLiving plan (bounds plan certificate) v p) t _
                (λ alive. lives_on plan w p s choice known.acts (bounds plan certificate) known.inv v p t refl (owes.own alive));
            child =
                child_owed plan w p s choice known.acts (bounds plan certificate) known.inv (IsLiving plan (bounds plan certificate) v) t change.table
                (if_child change.table
                (λ owed alive. lives_on plan w p s choice known.acts (bounds plan certificate) known.inv v (length w.processes) (forked t) refl (owed alive)) owes.child);
            pushed = owes.pushed;
          };
        };
      })

  -- what the acting process comes to
  pub own_described :
      (value : ℕ) (change : Change) (after : Bound) (i : Interval) (registers : List ℕ) → change.enters ≡ false
      → second_number change.table (slice_set s.registers 0 value) ≡ slice_set registers 0 value
      → GoesOn plan certificate s after i → interval_describes i value ≡ true
      → Described (grant_holds plan.grants) after s.mode registers (table_seen plan (changed w p (given s value change) choice change) p)
      → LivesBy plan certificate (is_free (given s value change)) (changed w p (given s value change) choice change) p (given s value change)
  own_described value change after i registers enters second leads fits inside =
      let t : ProcessState = given s value change in
      let v : World = changed w p t choice change in
      let holds = grant_holds plan.grants in
      let on : (s.mode || change.enters) ≡ s.mode = subst (λ b. (s.mode || b) ≡ s.mode) (sym enters) (off_stays s.mode) in
      lives_described plan certificate v p t (subst (λ m. (s.marked && m) ≡ false) (sym on) known.follows)
      (described_there plan certificate v p t
      (arrives plan certificate t (table_seen plan v p) (with_interval after 0 i) leads
      (subst (λ m. Described holds (with_interval after 0 i) m t.registers (table_seen plan v p)) (sym on)
      (subst (λ rs. Described holds (with_interval after 0 i) s.mode rs (table_seen plan v p)) (sym second)
      (register_changed holds after s.mode registers (table_seen plan v p) 0 value i fits inside)))))

  -- what a number of the process has is named
  pub held_named : (n : ℕ) (d : Descriptor) → w.files.table p n ≡ Some d → IsNamed w choice known.inv.classes d
  held_named n d here =
      subst (IfHeld (IsNamed w choice known.inv.classes)) here (entry_named plan w p s choice known.acts (bounds plan certificate) known.inv p n)
