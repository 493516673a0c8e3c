-- A process of a marked program enters the mode: what it holds then its program may have.
use Rattle.std.proofs.Common.{◌≡◌, ℕ, zero, suc, ◌+◌, ◌≤◌, Bool, true, false, List, [], ◌∷◌, refl, arith, ap, sym, subst}
use Rattle.std.specs.Prelude.{◌||◌, Option, Some, None}
use Rattle.std.specs.List.{list_all}
use Rattle.std.specs.Option.{option_map}
use Rattle.std.specs.Cmp.Derive.{both_true}
use Rattle.rights.proofs.Tests.{both_left, both_right}
use Rattle.process.specs.State.{ProcessState}
use Rattle.instruction_set.specs.Programs.{Instruction, Set, Mov, Add, In, Jmp, Jeq, Jlt, Halt, Invoke, Open, Openat, Read, Write, Sendfd, Recvfd, Lseek, Ftruncate, Fsync, Fstat, Fcntl_getfl}
use Rattle.instruction_set.specs.Programs.{Fcntl_setfl, Fstatat, Stat, Mkdirat, Mkdir, Unlinkat, Unlink, Renameat, Dup, Close, Cap_rights_limit, Cap_fcntls_limit}
use Rattle.instruction_set.specs.Programs.{Cap_enter, Cap_getmode, Socketpair, Fork, Use as Call_use}
use Rattle.fd_table.specs.Descriptions.{Descriptor, IfHeld}
use Rattle.certificate.specs.Bounds.{Authority, Certificate, Closed, Maybe, Open as Open_slot, Slot, slot}
use Rattle.certificate.specs.Describes.{slot_describes}
use Rattle.kernel.specs.World.{World, Choice}
use Rattle.kernel.specs.Answers.{Change, Event, Same_tree, Same_queue, Same_state}
use Rattle.kernel.specs.Calls.{answer}
use Rattle.kernel.specs.Changes.{given, files_after, changed}
use Rattle.kernel.specs.Steps.{answered, executed}
use Rattle.task.specs.Plans.{Plan}
use Rattle.task.specs.Policies.{grant_holds}
use Rattle.rules.specs.Authority.{may_have_slot}
use Rattle.instruction_set.specs.Successors.{enters_mode}
use Rattle.rules.proofs.bounds.Describing.{described, slot_at}
use Rattle.rules.proofs.calls.OwedCalls.{quiet}
use Rattle.rules.proofs.frames.Arrivals.{child_owed, lives_on, own_owed}
use Rattle.rules.proofs.frames.ChangeKinds.{Acts, frame_changed}
use Rattle.rules.proofs.frames.Frames.{row_within}
use Rattle.rules.proofs.frames.PairClasses.{classes_changed}
use Rattle.rules.proofs.hostile.Ceilings.{held_may}
use Rattle.rules.proofs.hostile.Leaves.{Freely}
use Rattle.rules.proofs.points.Marked.{AuthorityAsked}
use Rattle.rules.proofs.worlds.Invariant.{Invariant, IsDescribed, IsLiving, LivesBy, is_free, bounds}
use Rattle.rules.specs.Seen.{seen_of, table_seen}
use Rattle.rules.specs.Within.{IsTableWithin, IsWithinAuthority, own_authority}

-- the one instruction that enters it
pub entering : (i : Instruction) → enters_mode i ≡ true → (otherwise : ℕ) × (i ≡ Invoke Cap_enter otherwise)
entering (Set r value) is = absurd cc
entering (Mov r source) is = absurd cc
entering (Add r addend) is = absurd cc
entering (In r) is = absurd cc
entering (Jmp target) is = absurd cc
entering (Jeq r value target) is = absurd cc
entering (Jlt r value target) is = absurd cc
entering Halt is = absurd cc
entering (Invoke (Open path f) otherwise) is = absurd cc
entering (Invoke (Openat x path f) otherwise) is = absurd cc
entering (Invoke (Read x) otherwise) is = absurd cc
entering (Invoke (Write x v) otherwise) is = absurd cc
entering (Invoke (Sendfd x y v) otherwise) is = absurd cc
entering (Invoke (Recvfd x) otherwise) is = absurd cc
entering (Invoke (Lseek x v) otherwise) is = absurd cc
entering (Invoke (Ftruncate x v) otherwise) is = absurd cc
entering (Invoke (Fsync x) otherwise) is = absurd cc
entering (Invoke (Fstat x) otherwise) is = absurd cc
entering (Invoke (Fcntl_getfl x) otherwise) is = absurd cc
entering (Invoke (Fcntl_setfl x v) otherwise) is = absurd cc
entering (Invoke (Fstatat x path) otherwise) is = absurd cc
entering (Invoke (Stat path) otherwise) is = absurd cc
entering (Invoke (Mkdirat x path) otherwise) is = absurd cc
entering (Invoke (Mkdir path) otherwise) is = absurd cc
entering (Invoke (Unlinkat x path directory) otherwise) is = absurd cc
entering (Invoke (Unlink path directory) otherwise) is = absurd cc
entering (Invoke (Renameat x from y to) otherwise) is = absurd cc
entering (Invoke (Dup x) otherwise) is = absurd cc
entering (Invoke (Close x) otherwise) is = absurd cc
entering (Invoke (Cap_rights_limit x rights) otherwise) is = absurd cc
entering (Invoke (Cap_fcntls_limit x commands) otherwise) is = absurd cc
entering (Invoke Cap_getmode otherwise) is = absurd cc
entering (Invoke Socketpair otherwise) is = absurd cc
entering (Invoke (Call_use x right) otherwise) is = absurd cc
entering (Invoke Fork otherwise) is = absurd cc
entering (Invoke Cap_enter otherwise) is = (otherwise, refl)

-- each slot of a list, and what is past its end
all_slots : (wide : Bool) (a : Authority) (slots : List Slot) (n : ℕ) → list_all (may_have_slot wide a) slots ≡ true → may_have_slot wide a (slot slots n) ≡ true
all_slots wide a [] n all = refl
all_slots wide a (x ∷ slots) zero all = both_left _ (list_all (may_have_slot wide a) slots) all
all_slots wide a (x ∷ slots) (suc n) all = all_slots wide a slots n (both_right (may_have_slot wide a x) _ all)

module _ (plan : Plan) (certificate : Certificate) (w : World) (e : Event) (s : ProcessState) (choice : Choice) (acts : Acts plan w e.process s choice)
    (inv : Invariant plan (bounds plan certificate) w) (marked : s.marked ≡ true) (asked : AuthorityAsked plan certificate s.program)
    (lives : IsDescribed plan certificate w e.process s) (may : list_all (may_have_slot plan.wide (own_authority plan certificate s.program)) lives.bound.slots ≡ true) where
  within : IsTableWithin plan certificate w e.process s.program
  within n =
      let holds = grant_holds plan.grants in
      let inside = described holds lives.bound s.mode s.registers (table_seen plan w e.process) lives.is in
      let few : (m : ℕ) → 16 ≤ m → table_seen plan w e.process m ≡ None = λ m far. ap (option_map (seen_of plan w)) (inv.formed.world.numbers e.process m far) in
      let P : ℕ → Type 0 = λ k. slot_describes holds (slot lives.bound.slots n) (table_seen plan w e.process k) ≡ true in
      let same : 0 + n ≡ n = omega arith in
      let here : P n = subst P same (slot_at holds 0 lives.bound.slots (table_seen plan w e.process) inside.slots few n) in
      entry (w.files.table e.process n) (slot lives.bound.slots n) (all_slots plan.wide (own_authority plan certificate s.program) lives.bound.slots n may) here
    where
      entry : (o : Option Descriptor) (x : Slot) → may_have_slot plan.wide (own_authority plan certificate s.program) x ≡ true
          → slot_describes (grant_holds plan.grants) x (option_map (seen_of plan w) o) ≡ true → IfHeld (IsWithinAuthority plan certificate w s.program) o
      entry None x allowed here = tt
      entry (Some d) Closed allowed here = absurd cc
      entry (Some d) (Open_slot h) allowed here = held_may plan certificate s.program asked h (seen_of plan w d) here allowed
      entry (Some d) (Maybe h) allowed here = held_may plan certificate s.program asked h (seen_of plan w d) here allowed

  abbrev change : Change
  change = quiet Same_tree Same_queue Same_state true

  abbrev t : ProcessState
  t = given s 0 change

  still_within : IsTableWithin plan certificate (changed w e.process t choice change) e.process s.program
  unfolding changed files_after
  still_within n =
      row_within plan w (changed w e.process t choice change) choice Same_queue e.process (frame_changed plan w e.process s choice acts t change tt) certificate s.program e.process within n

  turned_on : (on : Bool) → (on || true) ≡ true
  turned_on true = refl
  turned_on false = refl

  lives_free : LivesBy plan certificate (is_free t) (changed w e.process t choice change) e.process t
  lives_free =
      subst (λ b. LivesBy plan certificate b (changed w e.process t choice change) e.process t) (sym (both_true marked (turned_on s.mode))) still_within

  pub enters_freely : (otherwise : ℕ) → Freely plan certificate w e.process choice inv.classes (executed w e choice s (Invoke Cap_enter otherwise))
  unfolding executed answered answer changed
  enters_freely otherwise = record {
    allowed = tt;
    leaves = record {
      queue = Same_queue;
      frame = frame_changed plan w e.process s choice acts t change tt;
      after = inv.classes;
      kept = classes_changed plan w e.process s choice acts (bounds plan certificate) inv t change tt tt;
      owes = record {
        own =
            own_owed plan w e.process s choice acts (bounds plan certificate) inv (IsLiving plan (bounds plan certificate) (changed w e.process t choice change) e.process) t _
            (λ alive. lives_on plan w e.process s choice acts (bounds plan certificate) inv (changed w e.process t choice change) e.process t refl lives_free);
        child = child_owed plan w e.process s choice acts (bounds plan certificate) inv (IsLiving plan (bounds plan certificate) (changed w e.process t choice change)) t change.table tt;
        pushed = tt;
      };
    };
  }
