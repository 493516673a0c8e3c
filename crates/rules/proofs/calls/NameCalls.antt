-- Calls that make and remove names owe what they should.
use Rattle.std.proofs.Common.{◌≡◌, ℕ, Bool, true, false, List, inl, refl, ap, sym, ◌∙◌}
use Rattle.std.specs.Prelude.{not, nat_lt, length}
use Rattle.rights.specs.Errors.{EPERM, ENOENT, EEXIST, ENOTDIR, ENOSPC, ENOTEMPTY, Full}
use Rattle.rights.specs.Errors as errors
use Rattle.rights.specs.Limits.{most_nodes}
use Rattle.rights.specs.Operations as operations
use Rattle.file_tree.specs.Places.{at_name}
use Rattle.file_tree.specs.Nodes.{Dir, node, is_dir, has_below}
use Rattle.process.specs.State.{ProcessState}
use Rattle.certificate.specs.Bounds.{Certificate}
use Rattle.certificate.specs.Describes.{Node_at}
use Rattle.fd_table.specs.Descriptions.{Access, At_node, Descriptor}
use Rattle.lookup.specs.Answers.{Keep, Found_node, Found_free, Not_found}
use Rattle.lookup.specs.Answers as lookups
use Rattle.lookup.specs.Paths.{last_component}
use Rattle.instruction_set.specs.Programs.{Operand, Syscall, Mkdirat, Mkdir, Unlinkat, Unlink, Invoke}
use Rattle.kernel.specs.World.{World, Choice}
use Rattle.kernel.specs.Answers.{Event, Answer, Make, Remove, Same_queue, Same_state}
use Rattle.kernel.specs.Calls.{answer, made_directory, unlinks_as, unlinks}
use Rattle.kernel.specs.Walks.{lookups_of}
use Rattle.task.specs.Plans.{Plan}
use Rattle.task.specs.Policies.{grant_holds}
use Rattle.rules.specs.Demands.{demands}
use Rattle.rules.specs.Intervals.{only}
use Rattle.rules.specs.Seen.{subject_of, seen_of, table_seen}
use Rattle.rules.proofs.bounds.IntervalLaws.{only_fits}
use Rattle.rules.proofs.outcomes.Outcomes.{subject_is}
use Rattle.rules.proofs.outcomes.CallOutcomes.{leads_mkdirat, leads_unlinkat}
use Rattle.rules.proofs.frames.GrantPlaces.{deep_of, deep_held}
use Rattle.rules.proofs.findings.Findings.{FoundBeneath}
use Rattle.rules.proofs.points.Known.{InGrant, known_node}
use Rattle.rules.proofs.points.Uses.{said}
use Rattle.rules.proofs.calls.Owing.{Standing}
use Rattle.rules.proofs.calls.OwedCalls.{OwedBy, owed_fails, owed_unless, owed_value}
use Rattle.rules.proofs.calls.OwedTests.{Opened, owed_through, allowed_through, owed_unrefused, owed_directory, owed_lost}
use Rattle.rules.proofs.calls.OwedLookups.{owed_beneath}

module _ (plan : Plan) (certificate : Certificate) (w : World) (e : Event) (s : ProcessState) (choice : Choice) where
  -- no name is made or removed in a global name space
  not_global : (call : Syscall) (otherwise : ℕ) (known : Standing plan certificate w e.process s choice (Invoke call otherwise)) → (demands call).changes_global_names ≡ true → ⊥
  not_global call otherwise known changes =
      let wrong : true ≡ false = sym changes ∙ (said plan certificate s (table_seen plan w e.process) call otherwise known.stands).global_names in
      cc

  -- ## `mkdirat` and `mkdir`
  module _ (x : Operand) (path : List ℕ) (otherwise : ℕ) (known : Standing plan certificate w e.process s choice (Invoke (Mkdirat x path) otherwise))
      (d : Descriptor) (opened : Opened plan certificate w e s choice (Mkdirat x path) otherwise known x d) (n : ℕ) (access : Access)
      (is : w.files.objects d.description ≡ At_node n access) where
    made_beneath : (a : lookups.Finding) → FoundBeneath plan.grants w.tree n path Keep a
        → OwedBy plan certificate w e.process s choice (Mkdirat x path) otherwise known (made_directory w e.process s e path a)
    made_beneath (Not_found fault) found = owed_lost plan certificate w e s choice (Mkdirat x path) otherwise known refl fault
    made_beneath (Found_node m) found = owed_fails plan certificate w e.process s choice (Mkdirat x path) otherwise known refl EEXIST errors.Path tt
    made_beneath (Found_free k) found =
        let place = at_name (node w.tree k).place (last_component path) in
        owed_unless plan certificate w e.process s choice (Mkdirat x path) otherwise known refl (nat_lt (length w.tree) most_nodes) ENOSPC Full _ tt (λ room.
        owed_unrefused plan certificate w e s choice (Mkdirat x path) otherwise known refl ENOSPC _
        (owed_value plan certificate w e.process s choice (Mkdirat x path) otherwise known 0 (Make place Dir) Same_queue Same_state _ (only 0) tt
        (allowed_through plan certificate w e s choice (Mkdirat x path) otherwise known x d opened n access is (λ slot. refl) operations.Create (λ slot. inl refl)
        (λ slot. refl) place
        (λ name held. deep_held plan.grants name place (found.deep refl name held))) tt
        (leads_mkdirat plan certificate s (table_seen plan w e.process) x path otherwise known.stands (seen_of plan w d) (node w.tree n).place opened.there (ap (subject_of plan w.tree) is))
        (only_fits 0)))

  pub owed_mkdirat : (x : Operand) (path : List ℕ) (otherwise : ℕ) (known : Standing plan certificate w e.process s choice (Invoke (Mkdirat x path) otherwise))
      → OwedBy plan certificate w e.process s choice (Mkdirat x path) otherwise known (answer w e.process s e (Mkdirat x path))
  unfolding answer lookups_of
  owed_mkdirat x path otherwise known =
      owed_through plan certificate w e s choice (Mkdirat x path) otherwise known x refl refl _ (λ slot. refl) _ (λ d opened.
      owed_directory plan certificate w e s choice (Mkdirat x path) otherwise known refl d.description _ (λ n access is dir.
      owed_beneath plan certificate w e s choice (Mkdirat x path) otherwise known x path Keep refl d opened.held n access is dir _
      (made_beneath x path otherwise known d opened n access is)))

  pub owed_mkdir : (path : List ℕ) (otherwise : ℕ) (known : Standing plan certificate w e.process s choice (Invoke (Mkdir path) otherwise))
      → OwedBy plan certificate w e.process s choice (Mkdir path) otherwise known (answer w e.process s e (Mkdir path))
  owed_mkdir path otherwise known = absurd (not_global (Mkdir path) otherwise known refl)

  -- ## `unlinkat` and `unlink`
  module _ (x : Operand) (path : List ℕ) (directory : Bool) (otherwise : ℕ)
      (known : Standing plan certificate w e.process s choice (Invoke (Unlinkat x path directory) otherwise)) (d : Descriptor)
      (opened : Opened plan certificate w e s choice (Unlinkat x path directory) otherwise known x d) (n : ℕ) (access : Access)
      (is : w.files.objects d.description ≡ At_node n access) where
    abbrev OwesUnlinkat : Answer → Type 0
    OwesUnlinkat a = OwedBy plan certificate w e.process s choice (Unlinkat x path directory) otherwise known a

    kind_asked : (b : Bool) (m : ℕ) (rest : Answer) → OwesUnlinkat rest → OwesUnlinkat (unlinks_as w e.process s e b m rest)
    kind_asked true m rest owed =
        owed_unless plan certificate w e.process s choice (Unlinkat x path directory) otherwise known refl (is_dir (node w.tree m).kind) ENOTDIR errors.Path _ tt (λ dir.
        owed_unless plan certificate w e.process s choice (Unlinkat x path directory) otherwise known refl (not (has_below w.tree (node w.tree m).place)) ENOTEMPTY errors.Path rest tt
        (λ empty. owed))
    kind_asked false m rest owed =
        owed_unless plan certificate w e.process s choice (Unlinkat x path directory) otherwise known refl (not (is_dir (node w.tree m).kind)) EPERM errors.Path rest tt
        (λ no_dir. owed)

    removed_beneath : (a : lookups.Finding) → FoundBeneath plan.grants w.tree n path Keep a → OwesUnlinkat (unlinks w e.process s e directory a)
    removed_beneath (Not_found fault) found = owed_lost plan certificate w e s choice (Unlinkat x path directory) otherwise known refl fault
    removed_beneath (Found_free k) found = owed_fails plan certificate w e.process s choice (Unlinkat x path directory) otherwise known refl ENOENT errors.Path tt
    removed_beneath (Found_node m) found =
        let g = opened.way.slot in
        let from = (node w.tree n).place in
        let place = (node w.tree m).place in
        let seen = ap (subject_of plan w.tree) is in
        let in_grant : InGrant plan.grants g.held.target from =
        known_node plan.grants g.held.target from (subject_is (grant_holds plan.grants) g.held (seen_of plan w d) (Node_at from) g.facts seen) (opened.way.has.names refl) in
        kind_asked directory m _
        (owed_value plan certificate w e.process s choice (Unlinkat x path directory) otherwise known 0 (Remove m) Same_queue Same_state _ (only 0)
        (deep_of plan.grants in_grant.name place (found.deep refl in_grant.name in_grant.holds))
        (allowed_through plan certificate w e s choice (Unlinkat x path directory) otherwise known x d opened n access is (λ slot. refl) operations.Remove (λ slot. inl refl)
        (λ slot. refl) place (λ name held. deep_held plan.grants name place (found.deep refl name held))) tt
        (leads_unlinkat plan certificate s (table_seen plan w e.process) x path directory otherwise known.stands (seen_of plan w d) from opened.there seen)
        (only_fits 0))

  pub owed_unlinkat : (x : Operand) (path : List ℕ) (directory : Bool) (otherwise : ℕ)
      (known : Standing plan certificate w e.process s choice (Invoke (Unlinkat x path directory) otherwise))
      → OwedBy plan certificate w e.process s choice (Unlinkat x path directory) otherwise known (answer w e.process s e (Unlinkat x path directory))
  unfolding answer lookups_of
  owed_unlinkat x path directory otherwise known =
      owed_through plan certificate w e s choice (Unlinkat x path directory) otherwise known x refl refl _ (λ slot. refl) _ (λ d opened.
      owed_directory plan certificate w e s choice (Unlinkat x path directory) otherwise known refl d.description _ (λ n access is dir.
      owed_beneath plan certificate w e s choice (Unlinkat x path directory) otherwise known x path Keep refl d opened.held n access is dir _
      (removed_beneath x path directory otherwise known d opened n access is)))

  pub owed_unlink : (path : List ℕ) (directory : Bool) (otherwise : ℕ) (known : Standing plan certificate w e.process s choice (Invoke (Unlink path directory) otherwise))
      → OwedBy plan certificate w e.process s choice (Unlink path directory) otherwise known (answer w e.process s e (Unlink path directory))
  owed_unlink path directory otherwise known = absurd (not_global (Unlink path directory) otherwise known refl)
