-- Calls that need a further right.
use Rattle.std.proofs.Common.{◌≡◌, ℕ, Bool, true, false, [], inl, refl, ap, sym, subst}
use Rattle.std.specs.Prelude.{◌&&◌, ◌||◌, bit_or, not, Option, Some, None, is_some}
use Rattle.std.specs.Option.{option_map}
use Rattle.rights.specs.Errors.{EAGAIN, ECAPMODE, ENOTCAPABLE, ENOTDIR, CapMode, MissingRight}
use Rattle.rights.specs.Errors as errors
use Rattle.rights.specs.Operations.{Operation}
use Rattle.rights.specs.Sets.{is_within}
use Rattle.rights.specs.Uses.{acts_beneath, companions_of, operation_of_use, reaches_globally}
use Rattle.rights.proofs.Subsets.{is_within-or}
use Rattle.file_tree.specs.Nodes.{is_dir, node}
use Rattle.process.specs.State.{ProcessState}
use Rattle.certificate.specs.Bounds.{Certificate}
use Rattle.fd_table.specs.Descriptions.{Access, At_node, Descriptor}
use Rattle.instruction_set.specs.Programs.{Operand, Use as Call_use, Invoke}
use Rattle.kernel.specs.World.{World, Choice}
use Rattle.kernel.specs.Answers.{Event, Same_tree, Same_queue, Same_state, value_of}
use Rattle.kernel.specs.Calls.{answer, effects_by, effects_of_use}
use Rattle.task.specs.Plans.{Plan}
use Rattle.task.specs.Sandboxed.{AreAllowed}
use Rattle.rules.specs.Intervals.{only}
use Rattle.rules.specs.Needs.{listed_operation}
use Rattle.rules.specs.Seen.{seen_of, subject_of, table_seen}
use Rattle.rules.proofs.Members.{Among}
use Rattle.rules.proofs.bounds.IntervalLaws.{only_fits}
use Rattle.rules.proofs.outcomes.CallOutcomes.{leads_use, leads_use_at}
use Rattle.rules.proofs.outcomes.Failing as failing
use Rattle.rules.proofs.points.Uses as through_slots
use Rattle.rules.proofs.calls.Owing.{Standing}
use Rattle.rules.proofs.calls.OwedCalls.{OwedBy, owed_held, owed_object, owed_passed, owed_unless, owed_value}
use Rattle.rules.proofs.calls.OwedTests.{Opened, allowed_through, owed_unrefused}

not_both : (mode global : Bool) → (global ≡ true → not mode ≡ true) → not (mode && global) ≡ true
not_both mode true off = go mode (off refl)
  where
    go : (mode : Bool) → not mode ≡ true → not (mode && true) ≡ true
    go true is = is
    go false is = refl
not_both true false off = refl
not_both false false off = refl

not_beneath : (b : Bool) → not b ≡ true → b ≡ false
not_beneath true is = absurd cc
not_beneath false is = refl

module _ (plan : Plan) (certificate : Certificate) (w : World) (e : Event) (s : ProcessState) (choice : Choice) where
  module _ (x : Operand) (right otherwise : ℕ) (known : Standing plan certificate w e.process s choice (Invoke (Call_use x right) otherwise)) where
    -- what it does is allowed
    use_allowed : (d : Descriptor) (opened : Opened plan certificate w e s choice (Call_use x right) otherwise known x d) (n : ℕ) (access : Access)
        → w.files.objects d.description ≡ At_node n access → (o : Option Operation) → operation_of_use right ≡ o → s.mode ≡ true
        → AreAllowed plan.grants (effects_by o (node w.tree n).place)
    use_allowed d opened n access at None is on = tt
    use_allowed d opened n access at (Some operation) is on =
        let one : Among operation (listed_operation (operation_of_use right)) = subst (λ o. Among operation (listed_operation o)) (sym is) (inl refl) in
        allowed_through plan certificate w e s choice (Call_use x right) otherwise known x d opened n access at (λ slot. ap is_some is) operation (λ slot. one) (λ slot. refl)
        (node w.tree n).place (λ name holds. holds) on

    pub owed_use : OwedBy plan certificate w e.process s choice (Call_use x right) otherwise known (answer w e.process s e (Call_use x right))
    unfolding answer
    owed_use =
        let call = Call_use x right in
        let p = e.process in
        owed_passed plan certificate w p s choice call otherwise known (not (s.mode && reaches_globally right)) ECAPMODE CapMode _
        (not_both s.mode (reaches_globally right) (failing.outside_mode plan certificate s (table_seen plan w p) call otherwise known.stands))
        (owed_held plan certificate w p s choice call otherwise known refl (w.files.table p (value_of s x)) _ (λ d here.
        let there = ap (option_map (seen_of plan w)) here in
        let way = through_slots.through plan certificate s (table_seen plan w p) call otherwise known.stands x (seen_of plan w d) refl there in
        owed_passed plan certificate w p s choice call otherwise known (is_within (bit_or (companions_of right) right) d.rights) ENOTCAPABLE MissingRight _
        (is_within-or (companions_of right) right d.rights way.has.rights way.has.further)
        (owed_object plan certificate w p s choice call otherwise known (w.files.objects d.description) _ _
        (λ n access at.
        owed_unless plan certificate w p s choice call otherwise known refl (not (acts_beneath right) || is_dir (node w.tree n).kind) ENOTDIR errors.Kind _ tt (λ fits.
        owed_unrefused plan certificate w e s choice call otherwise known refl EAGAIN _
        (owed_value plan certificate w p s choice call otherwise known 0 Same_tree Same_queue Same_state (effects_of_use right (node w.tree n).place) (only 0) tt
        (use_allowed d (record { held = here; there = there; way = way }) n access at (operation_of_use right) refl) tt
        (leads_use_at plan certificate s (table_seen plan w p) x right otherwise known.stands (seen_of plan w d) (node w.tree n).place there (ap (subject_of plan w.tree) at))
        (only_fits 0))))
        (λ pair side class at.
        owed_unless plan certificate w p s choice call otherwise known refl (not (acts_beneath right)) ENOTDIR errors.Kind _ tt (λ fits.
        owed_unrefused plan certificate w e s choice call otherwise known refl EAGAIN _
        (owed_value plan certificate w p s choice call otherwise known 0 Same_tree Same_queue Same_state [] (only 0) tt (λ on. tt) tt
        (leads_use plan certificate s (table_seen plan w p) x right otherwise known.stands (seen_of plan w d) there (not_beneath (acts_beneath right) fits))
        (only_fits 0)))))))
