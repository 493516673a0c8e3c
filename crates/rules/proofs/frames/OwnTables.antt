-- What bounds say of the table of the acting process, and of its child's, in the world after a call's change.
use Rattle.std.proofs.Common.{◌≡◌, ◌≢◌, ℕ, ◌<◌, Bool, true, List, length, refl, ap, sym, ◌∙◌, subst, arith}
use Rattle.std.specs.Prelude.{slice_set, Option, Some, None}
use Rattle.rights.specs.Maps.{put}
use Rattle.rights.specs.Sets.{all_rights, all_commands}
use Rattle.file_tree.specs.Nodes.{node}
use Rattle.process.specs.State.{ProcessState}
use Rattle.certificate.specs.Bounds.{Held, Slot, Closed, Open}
use Rattle.certificate.specs.Describes.{Seen, Node_at, held_describes, slots_describe}
use Rattle.fd_table.specs.Descriptions.{Access, PairClass, Descriptor, descriptor_of}
use Rattle.kernel.specs.World.{World, Choice}
use Rattle.kernel.specs.Answers.{TableChange, Same_table, Set_entry, Clear_entry, New_file, New_pair, New_process, Change}
use Rattle.kernel.specs.Changes.{tree_after, objects_after, table_after, files_after, changed}
use Rattle.task.specs.Plans.{Plan}
use Rattle.task.specs.Policies.{grant_holds}
use Rattle.rules.specs.Seen.{end_seen, subject_of, seen_of, table_seen}
use Rattle.rules.proofs.frames.KeptTrees.{IsDeepChange}
use Rattle.rules.proofs.frames.Frames.{object_stays, held_stays}
use Rattle.rules.proofs.frames.ChangeKinds.{Acts, get_below, frame_changed}
use Rattle.rules.proofs.frames.PairClasses.{IsNamed}
use Rattle.rules.proofs.frames.OwnRows.{row_of, row_put, row_stays, row_after, own_row, child_row, file_object, first_object, second_object}

module _ (plan : Plan) (w : World) (p : ℕ) (s : ProcessState) (choice : Choice)
    (acts : Acts plan w p s choice) (t : ProcessState) (change : Change) (deep : IsDeepChange plan.grants w.tree change.tree) where
  -- a descriptor that is named is seen as before
  pub held_later : (classes : ℕ → PairClass) (h : Held) (d : Descriptor) → IsNamed w choice classes d
      → held_describes (grant_holds plan.grants) h (seen_of plan w d) ≡ true
      → held_describes (grant_holds plan.grants) h (seen_of plan (changed w p t choice change) d) ≡ true
  held_later classes h d named is =
      held_stays plan w (changed w p t choice change) choice change.queue p (frame_changed plan w p s choice acts t change deep) h d
      (object_stays plan w (changed w p t choice change) choice change.queue p (frame_changed plan w p s choice acts t change deep) d.description named.apart) is

  -- what was in the process's table
  pub old_slots : (slots : List Slot) → slots_describe (grant_holds plan.grants) 0 slots (table_seen plan w p) ≡ true
      → slots_describe (grant_holds plan.grants) 0 slots (row_of plan (changed w p t choice change) (w.files.table p)) ≡ true
  old_slots slots is =
      row_stays plan w (changed w p t choice change) choice change.queue p (frame_changed plan w p s choice acts t change deep) p slots is

  not_new : p ≢ length w.processes
  not_new same = let below : p < length w.processes = get_below w.processes p s acts.made in absurd (omega (arith, same, below))

  -- its table, by its row
  pub own_slots : (slots : List Slot)
      → slots_describe (grant_holds plan.grants) 0 slots (row_of plan (changed w p t choice change) (row_after (w.files.table p) choice change.table)) ≡ true
      → slots_describe (grant_holds plan.grants) 0 slots (table_seen plan (changed w p t choice change) p) ≡ true
  unfolding changed files_after
  own_slots slots is =
      subst (λ (row : ℕ → Option Descriptor). slots_describe (grant_holds plan.grants) 0 slots (row_of plan (changed w p t choice change) row) ≡ true)
      (sym (own_row w.files.table p (length w.processes) choice change.table not_new)) is

  -- and a child's, by its parent's
  pub child_slots : change.table ≡ New_process → (slots : List Slot)
      → slots_describe (grant_holds plan.grants) 0 slots (row_of plan (changed w p t choice change) (w.files.table p)) ≡ true
      → slots_describe (grant_holds plan.grants) 0 slots (table_seen plan (changed w p t choice change) (length w.processes)) ≡ true
  unfolding changed files_after
  child_slots forks slots is =
      subst (λ (row : ℕ → Option Descriptor). slots_describe (grant_holds plan.grants) 0 slots (row_of plan (changed w p t choice change) row) ≡ true)
      (sym (ap (λ c. table_after w.files.table p (length w.processes) choice c (length w.processes)) forks ∙ child_row w.files.table p (length w.processes) choice)) is

  -- ## Slot by slot
  abbrev Slots : List Slot → (ℕ → Option Seen) → Type 0
  Slots slots table = slots_describe (grant_holds plan.grants) 0 slots table ≡ true

  changed_slots : (table : TableChange) → change.table ≡ table → (slots : List Slot)
      → Slots slots (row_of plan (changed w p t choice change) (row_after (w.files.table p) choice table))
      → Slots slots (table_seen plan (changed w p t choice change) p)
  changed_slots table is slots row =
      own_slots slots
      (subst (λ c. slots_describe (grant_holds plan.grants) 0 slots (row_of plan (changed w p t choice change) (row_after (w.files.table p) choice c)) ≡ true) (sym is) row)

  -- a number gets a descriptor that is named
  pub set_slots : (number : ℕ) (d : Descriptor) → change.table ≡ Set_entry number d → (classes : ℕ → PairClass) (h : Held) → IsNamed w choice classes d
      → held_describes (grant_holds plan.grants) h (seen_of plan w d) ≡ true → (slots : List Slot)
      → slots_describe (grant_holds plan.grants) 0 slots (table_seen plan w p) ≡ true
      → slots_describe (grant_holds plan.grants) 0 (slice_set slots number (Open h)) (table_seen plan (changed w p t choice change) p) ≡ true
  set_slots number d sets classes h named held slots is =
      changed_slots (Set_entry number d) sets (slice_set slots number (Open h))
      (row_put plan (changed w p t choice change) (w.files.table p) number (Some d) slots (Open h) (held_later classes h d named held) (old_slots slots is))

  -- it is closed
  pub clear_slots : (number : ℕ) → change.table ≡ Clear_entry number → (slots : List Slot)
      → slots_describe (grant_holds plan.grants) 0 slots (table_seen plan w p) ≡ true
      → slots_describe (grant_holds plan.grants) 0 (slice_set slots number Closed) (table_seen plan (changed w p t choice change) p) ≡ true
  clear_slots number clears slots is =
      changed_slots (Clear_entry number) clears (slice_set slots number Closed)
      (row_put plan (changed w p t choice change) (w.files.table p) number None slots Closed refl (old_slots slots is))

  -- nothing of it changes, or there is a child
  pub same_slots : change.table ≡ Same_table → (slots : List Slot) → slots_describe (grant_holds plan.grants) 0 slots (table_seen plan w p) ≡ true
      → slots_describe (grant_holds plan.grants) 0 slots (table_seen plan (changed w p t choice change) p) ≡ true
  same_slots same slots is = changed_slots Same_table same slots (old_slots slots is)

  pub parent_slots : change.table ≡ New_process → (slots : List Slot) → slots_describe (grant_holds plan.grants) 0 slots (table_seen plan w p) ≡ true
      → slots_describe (grant_holds plan.grants) 0 slots (table_seen plan (changed w p t choice change) p) ≡ true
  parent_slots forks slots is = changed_slots New_process forks slots (old_slots slots is)

  -- a number gets a new file or directory, or both ends of a new pair
  pub file_slots : (number n : ℕ) (access : Access) (append : Bool) (rights fcntls : ℕ) → change.table ≡ New_file number n access append rights fcntls
      → (h : Held)
      → held_describes (grant_holds plan.grants) h (record { subject = Node_at (node (tree_after w.tree change.tree) n).place; rights = rights; fcntls = fcntls }) ≡ true
      → (slots : List Slot) → slots_describe (grant_holds plan.grants) 0 slots (table_seen plan w p) ≡ true
      → slots_describe (grant_holds plan.grants) 0 (slice_set slots number (Open h)) (table_seen plan (changed w p t choice change) p) ≡ true
  unfolding changed files_after
  file_slots number n access append rights fcntls opens h held slots is =
      changed_slots (New_file number n access append rights fcntls) opens (slice_set slots number (Open h))
      (row_put plan (changed w p t choice change) (w.files.table p) number (Some (descriptor_of choice.first rights fcntls)) slots (Open h)
      (subst (λ o. held_describes (grant_holds plan.grants) h (record { subject = subject_of plan (tree_after w.tree change.tree) o; rights = rights; fcntls = fcntls }) ≡ true)
      (sym (ap (λ c. objects_after w.files.objects choice c choice.first) opens ∙ file_object w.files.objects choice number n access append rights fcntls)) held)
      (old_slots slots is))

  pub pair_slots : (first second : ℕ) (class : PairClass) → change.table ≡ New_pair first second class → (one other : Held)
      → held_describes (grant_holds plan.grants) one (record { subject = end_seen plan class 0; rights = all_rights; fcntls = all_commands }) ≡ true
      → held_describes (grant_holds plan.grants) other (record { subject = end_seen plan class 1; rights = all_rights; fcntls = all_commands }) ≡ true
      → (slots : List Slot) → slots_describe (grant_holds plan.grants) 0 slots (table_seen plan w p) ≡ true
      → slots_describe (grant_holds plan.grants) 0 (slice_set (slice_set slots first (Open one)) second (Open other)) (table_seen plan (changed w p t choice change) p) ≡ true
  unfolding changed files_after
  pair_slots first second class makes one other fits also slots is =
      let a : Option Descriptor = Some (descriptor_of choice.first all_rights all_commands) in
      let b : Option Descriptor = Some (descriptor_of choice.second all_rights all_commands) in
      changed_slots (New_pair first second class) makes (slice_set (slice_set slots first (Open one)) second (Open other))
      (row_put plan (changed w p t choice change) (put (w.files.table p) first a) second b (slice_set slots first (Open one)) (Open other)
      (subst (λ o. held_describes (grant_holds plan.grants) other (record { subject = subject_of plan (tree_after w.tree change.tree) o; rights = all_rights; fcntls = all_commands }) ≡ true)
      (sym (ap (λ c. objects_after w.files.objects choice c choice.second) makes ∙ second_object w.files.objects choice first second class)) also)
      (row_put plan (changed w p t choice change) (w.files.table p) first a slots (Open one)
      (subst (λ o. held_describes (grant_holds plan.grants) one (record { subject = subject_of plan (tree_after w.tree change.tree) o; rights = all_rights; fcntls = all_commands }) ≡ true)
      (sym (ap (λ c. objects_after w.files.objects choice c choice.first) makes ∙ first_object w.files.objects choice first second class acts.fresh.apart)) fits)
      (old_slots slots is)))
