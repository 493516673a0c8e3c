-- `renameat` owes what it should.
use Rattle.std.proofs.Common.{◌≡◌, ℕ, Bool, true, false, List, [], ◌∷◌, inl, inr, refl, ap}
use Rattle.std.specs.Prelude.{◌==◌, ◌&&◌, not, Some, if◌then◌else◌}
use Rattle.std.specs.Option.{option_map}
use Rattle.rights.specs.Errors.{ENOENT, EINVAL, ENOTDIR, EISDIR, ENOTEMPTY}
use Rattle.rights.specs.Errors as errors
use Rattle.rights.specs.Needs.{Second, needs_of}
use Rattle.rights.specs.Operations.{Operation, Create, Remove}
use Rattle.file_tree.specs.Places.{begins, at_name}
use Rattle.file_tree.specs.Nodes.{node, is_dir, has_below}
use Rattle.process.specs.State.{ProcessState}
use Rattle.certificate.specs.Bounds.{Certificate}
use Rattle.certificate.specs.Describes.{Node_at}
use Rattle.fd_table.specs.Descriptions.{Access, At_node, Descriptor}
use Rattle.lookup.specs.Answers.{Keep, Found_node, Found_free, Not_found}
use Rattle.lookup.specs.Answers as lookups
use Rattle.lookup.specs.Paths.{last_component}
use Rattle.instruction_set.specs.Programs.{Operand, Renameat, Invoke, called}
use Rattle.kernel.specs.World.{World, Choice}
use Rattle.kernel.specs.Answers.{Event, Effect, Answer, Same_tree, Move, Same_queue, Same_state, Gives, gives, granted, value_of}
use Rattle.rights.specs.Opens.{no_request}
use Rattle.kernel.specs.Calls.{answer, moves, renamed_free, renamed_over, renamed_to, existing}
use Rattle.kernel.specs.Walks.{lookups_of}
use Rattle.task.specs.Plans.{Plan}
use Rattle.task.specs.Policies.{grant_holds}
use Rattle.task.specs.Sandboxed.{Allowed, AreAllowed}
use Rattle.rules.specs.Intervals.{only}
use Rattle.rules.specs.Needs.{moving_to}
use Rattle.rules.specs.Uses.{use_of}
use Rattle.rules.specs.Seen.{subject_of, seen_of, table_seen}
use Rattle.rules.proofs.bounds.IntervalLaws.{only_fits}
use Rattle.rules.proofs.Members.{Among}
use Rattle.rules.proofs.outcomes.Outcomes.{GoesOn, subject_is}
use Rattle.rules.proofs.outcomes.TakenOutcomes.{leads_rename}
use Rattle.rules.proofs.frames.KeptTrees.{IsDeepMove}
use Rattle.rules.proofs.frames.GrantPlaces.{IsDeepIn, deep_move, deep_held}
use Rattle.rules.proofs.findings.Findings.{FoundBeneath}
use Rattle.rules.proofs.points.Known.{allowed_where, OneGrant, renames_in}
use Rattle.rules.proofs.points.Uses.{Through, through_second, second_rights}
use Rattle.rules.proofs.calls.Owing.{Standing}
use Rattle.rules.proofs.calls.OwedCalls.{OwedBy, owed_fails, owed_unless, owed_passed, owed_held, owed_value}
use Rattle.rules.proofs.calls.OwedTests.{Opened, allowed_through, owed_directory, owed_lost}
use Rattle.rules.proofs.calls.OwedLookups.{owed_twice}
use Rattle.rules.proofs.points.Uses as slots

module _ (plan : Plan) (certificate : Certificate) (w : World) (e : Event) (s : ProcessState) (choice : Choice) (x : Operand) (from : List ℕ) (y : Operand)
    (to : List ℕ) (otherwise : ℕ) (known : Standing plan certificate w e.process s choice (Invoke (Renameat x from y to) otherwise)) where
  abbrev OwesMove : Answer → Type 0
  OwesMove a = OwedBy plan certificate w e.process s choice (Renameat x from y to) otherwise known a

  -- both descriptors are there, and are of directories
  record Both (d target : Descriptor) (n m : ℕ) : Type 0 where
    opened : Opened plan certificate w e s choice (Renameat x from y to) otherwise known x d
    there : table_seen plan w e.process (value_of s y) ≡ Some (seen_of plan w target)
    first_access : Access
    is_first : w.files.objects d.description ≡ At_node n first_access
    second_access : Access
    is_second : w.files.objects target.description ≡ At_node m second_access

  module _ (d target : Descriptor) (n m : ℕ) (both : Both d target n m) where
    second : Through plan certificate known.stands.bound s.mode y (value_of s y) (use_of known.stands.bound moving_to) (seen_of plan w target)
    second = through_second plan certificate s (table_seen plan w e.process) x y from to otherwise known.stands (seen_of plan w target) both.there

    leads : GoesOn plan certificate s known.stands.bound (only 0)
    leads =
        leads_rename plan certificate s (table_seen plan w e.process) x from y to otherwise known.stands (seen_of plan w d) (seen_of plan w target)
        (node w.tree n).place (node w.tree m).place both.opened.there (ap (subject_of plan w.tree) both.is_first) both.there
        (ap (subject_of plan w.tree) both.is_second)

    one : OneGrant plan.grants (node w.tree n).place (node w.tree m).place
    one =
        renames_in plan certificate s (table_seen plan w e.process) x y from to otherwise known.stands (seen_of plan w d) (seen_of plan w target)
        (node w.tree n).place (node w.tree m).place both.opened.there (ap (subject_of plan w.tree) both.is_first) both.there
        (ap (subject_of plan w.tree) both.is_second)

    -- what the two paths lead to
    abbrev Source : lookups.Finding → Type 0
    Source a = FoundBeneath plan.grants w.tree n from Keep a

    abbrev Target : lookups.Finding → Type 0
    Target a = FoundBeneath plan.grants w.tree m to Keep a

    removes_source : (k : ℕ) → Source (Found_node k) → s.mode ≡ true → Allowed plan.grants Remove (node w.tree k).place
    removes_source k found on =
        (allowed_through plan certificate w e s choice (Renameat x from y to) otherwise known x d both.opened n both.first_access both.is_first (λ slot. refl) Remove
        (λ slot. inl refl) (λ slot. refl) (node w.tree k).place
        (λ name held. deep_held plan.grants name (node w.tree k).place (found.deep refl name held)) on).0

    at_target : (operation : Operation) → Among operation (Create ∷ Remove ∷ []) → (place : List (List ℕ))
        → ((name : List ℕ) → grant_holds plan.grants name (node w.tree m).place ≡ true → IsDeepIn plan.grants name place) → s.mode ≡ true
        → Allowed plan.grants operation place
    at_target operation among place deep on =
        let g = second.slot in
        allowed_where plan certificate s.mode (use_of known.stands.bound moving_to (record { number = value_of s y; held = g.held })) (seen_of plan w target) second.has on refl
        operation among (node w.tree m).place place
        (subject_is (grant_holds plan.grants) g.held (seen_of plan w target) (Node_at (node w.tree m).place) g.facts (ap (subject_of plan w.tree) both.is_second))
        (λ name held. deep_held plan.grants name place (deep name held))

    -- the node goes to a place in the same grant
    owed_move : (k : ℕ) (place : List (List ℕ)) (effects : List Effect) → Source (Found_node k)
        → ((name : List ℕ) → grant_holds plan.grants name (node w.tree m).place ≡ true → IsDeepIn plan.grants name place)
        → (s.mode ≡ true → AreAllowed plan.grants effects) → OwesMove (Gives 0 (moves w e.process s e k place) effects)
    owed_move k place effects found deep allowed =
        let inside : IsDeepMove plan.grants (node w.tree k).place place =
        deep_move plan.grants one.name (node w.tree k).place place (found.deep refl one.name one.holds_source) (deep one.name one.holds_target) in
        owed_value plan certificate w e.process s choice (Renameat x from y to) otherwise known 0 (Move k place) Same_queue Same_state effects (only 0) inside allowed tt leads (only_fits 0)

    to_free : (k : ℕ) (place : List (List ℕ)) → Source (Found_node k)
        → ((name : List ℕ) → grant_holds plan.grants name (node w.tree m).place ≡ true → IsDeepIn plan.grants name place)
        → OwesMove (renamed_free w e.process s e k place)
    to_free k place found deep =
        owed_unless plan certificate w e.process s choice (Renameat x from y to) otherwise known refl (not (begins (node w.tree k).place place)) EINVAL errors.Path _ tt (λ apart.
        owed_move k place _ found deep (λ on. (removes_source k found on, (at_target Create (inl refl) place deep on, tt))))

    to_node : (k j : ℕ) → Source (Found_node k)
        → ((name : List ℕ) → grant_holds plan.grants name (node w.tree m).place ≡ true → IsDeepIn plan.grants name (node w.tree j).place)
        → OwesMove (renamed_over w e.process s e k j)
    to_node k j found deep =
        let place = (node w.tree j).place in
        let moved_dir = is_dir (node w.tree k).kind in
        let other_dir = is_dir (node w.tree j).kind in
        owed_unless plan certificate w e.process s choice (Renameat x from y to) otherwise known refl (not (begins (node w.tree k).place place)) EINVAL errors.Path _ tt (λ apart.
        owed_unless plan certificate w e.process s choice (Renameat x from y to) otherwise known refl (not (moved_dir && not other_dir)) ENOTDIR errors.Path _ tt (λ dirs.
        owed_unless plan certificate w e.process s choice (Renameat x from y to) otherwise known refl (not (not moved_dir && other_dir)) EISDIR errors.Path _ tt (λ files.
        owed_unless plan certificate w e.process s choice (Renameat x from y to) otherwise known refl (not (has_below w.tree place)) ENOTEMPTY errors.Path _ tt (λ empty.
        owed_move k place _ found deep
        (λ on. (at_target Remove (inr (inl refl)) place deep on, (removes_source k found on, (at_target Create (inl refl) place deep on, tt))))))))

    unless_same : (k j : ℕ) (same : Bool) → Source (Found_node k) → Target (Found_node j)
        → OwesMove (if same then gives 0 else granted (needs_of (called (Renameat x from y to)) no_request Second true) target (renamed_over w e.process s e k j))
    unless_same k j true found place =
        owed_value plan certificate w e.process s choice (Renameat x from y to) otherwise known 0 Same_tree Same_queue Same_state [] (only 0) tt (λ on. tt) tt leads (only_fits 0)
    unless_same k j false found place =
        owed_passed plan certificate w e.process s choice (Renameat x from y to) otherwise known _ _ _ _ second.has.rights (to_node k j found (place.deep refl))

    goes_to : (k : ℕ) → Source (Found_node k) → (b : lookups.Finding) → Target b → OwesMove (renamed_to w e.process s e (Renameat x from y to) target k to b)
    goes_to k found (Not_found fault) place = owed_lost plan certificate w e s choice (Renameat x from y to) otherwise known refl fault
    goes_to k found (Found_free j) place = to_free k (at_name (node w.tree j).place (last_component to)) found (place.deep refl)
    goes_to k found (Found_node j) place = unless_same k j (k == j) found place

    comes_from : (a b : lookups.Finding) → Source a → Target b
        → OwesMove (existing a (λ k. renamed_to w e.process s e (Renameat x from y to) target k to b))
    comes_from (Not_found fault) b found place = owed_lost plan certificate w e s choice (Renameat x from y to) otherwise known refl fault
    comes_from (Found_free k) b found place = owed_fails plan certificate w e.process s choice (Renameat x from y to) otherwise known refl ENOENT errors.Path tt
    comes_from (Found_node k) b found place = goes_to k found b place

  pub owed_renameat : OwedBy plan certificate w e.process s choice (Renameat x from y to) otherwise known (answer w e.process s e (Renameat x from y to))
  unfolding answer lookups_of
  owed_renameat =
      owed_held plan certificate w e.process s choice (Renameat x from y to) otherwise known refl (w.files.table e.process (value_of s x)) _ (λ d here.
      owed_held plan certificate w e.process s choice (Renameat x from y to) otherwise known refl (w.files.table e.process (value_of s y)) _ (λ target other.
      let first = ap (option_map (seen_of plan w)) here in
      let there = ap (option_map (seen_of plan w)) other in
      let way = slots.through plan certificate s (table_seen plan w e.process) (Renameat x from y to) otherwise known.stands x (seen_of plan w d) refl first in
      owed_passed plan certificate w e.process s choice (Renameat x from y to) otherwise known _ _ _ _ way.has.rights
      (owed_passed plan certificate w e.process s choice (Renameat x from y to) otherwise known _ _ _ _
      (second_rights plan certificate s (table_seen plan w e.process) x y from to otherwise known.stands (seen_of plan w target) there)
      (owed_directory plan certificate w e s choice (Renameat x from y to) otherwise known refl d.description _ (λ n first_access is_first dir.
      owed_directory plan certificate w e s choice (Renameat x from y to) otherwise known refl target.description _ (λ m second_access is_second also.
      owed_twice plan certificate w e s choice (Renameat x from y to) otherwise known refl x from y to refl d here n first_access is_first dir target other m second_access is_second also _
      (comes_from d target n m (record {
        opened = record { held = here; there = first; way = way };
        there = there;
        first_access = first_access;
        is_first = is_first;
        second_access = second_access;
        is_second = is_second;
      }))))))))
