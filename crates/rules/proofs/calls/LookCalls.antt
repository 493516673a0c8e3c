-- Calls that look at what a path leads to owe what they should.
use Rattle.std.proofs.Common.{◌≡◌, ℕ, true, false, List, inl, refl, ap}
use Rattle.rights.specs.Errors.{ENOENT}
use Rattle.rights.specs.Errors as errors
use Rattle.rights.specs.Operations as operations
use Rattle.file_tree.specs.Nodes.{Kind, File, Dir, Link, node, is_link}
use Rattle.process.specs.State.{ProcessState}
use Rattle.certificate.specs.Bounds.{Certificate}
use Rattle.certificate.specs.Describes.{interval_describes}
use Rattle.fd_table.specs.Descriptions.{Access, At_node, Descriptor}
use Rattle.lookup.specs.Answers.{Follow, Found_node, Found_free, Not_found}
use Rattle.lookup.specs.Answers as lookups
use Rattle.instruction_set.specs.Programs.{Operand, Fstatat, Stat, Invoke}
use Rattle.kernel.specs.World.{World, Choice}
use Rattle.kernel.specs.Answers.{Event, Same_tree, Same_queue, Same_state}
use Rattle.kernel.specs.Calls.{answer, kind_number, stats_at}
use Rattle.kernel.specs.Walks.{lookups_of}
use Rattle.task.specs.Plans.{Plan}
use Rattle.rules.specs.Outcomes.{from_to}
use Rattle.rules.specs.Seen.{subject_of, seen_of, table_seen}
use Rattle.rules.proofs.outcomes.CallOutcomes.{leads_fstatat, leads_stat}
use Rattle.rules.proofs.findings.Findings.{Found, FoundBeneath}
use Rattle.rules.proofs.calls.Owing.{Standing}
use Rattle.rules.proofs.calls.OwedCalls.{OwedBy, owed_fails, owed_value}
use Rattle.rules.proofs.calls.OwedTests.{Opened, owed_through, allowed_through, owed_outside, never_on, owed_directory, owed_lost}
use Rattle.rules.proofs.calls.OwedLookups.{owed_beneath, owed_globally}

-- of a file or a directory, not of a link
kind_fits : (k : Kind) → is_link k ≡ false → interval_describes (from_to 1 2) (kind_number k) ≡ true
kind_fits File is = refl
kind_fits Dir is = refl
kind_fits Link is = absurd cc

module _ (plan : Plan) (certificate : Certificate) (w : World) (e : Event) (s : ProcessState) (choice : Choice) where
  module _ (x : Operand) (path : List ℕ) (otherwise : ℕ) (known : Standing plan certificate w e.process s choice (Invoke (Fstatat x path) otherwise))
      (d : Descriptor) (opened : Opened plan certificate w e s choice (Fstatat x path) otherwise known x d) (n : ℕ) (access : Access)
      (is : w.files.objects d.description ≡ At_node n access) where
    looked_beneath : (a : lookups.Finding) → FoundBeneath plan.grants w.tree n path Follow a
        → OwedBy plan certificate w e.process s choice (Fstatat x path) otherwise known (stats_at w e.process s e a)
    looked_beneath (Not_found fault) found = owed_lost plan certificate w e s choice (Fstatat x path) otherwise known refl fault
    looked_beneath (Found_free k) found = owed_fails plan certificate w e.process s choice (Fstatat x path) otherwise known refl ENOENT errors.Path tt
    looked_beneath (Found_node m) found =
        owed_value plan certificate w e.process s choice (Fstatat x path) otherwise known (kind_number (node w.tree m).kind) Same_tree Same_queue Same_state _ (from_to 1 2) tt
        (allowed_through plan certificate w e s choice (Fstatat x path) otherwise known x d opened n access is (λ slot. refl) operations.Look (λ slot. inl refl)
        (λ slot. refl) (node w.tree m).place found.within) tt
        (leads_fstatat plan certificate s (table_seen plan w e.process) x path otherwise known.stands (seen_of plan w d) (node w.tree n).place opened.there (ap (subject_of plan w.tree) is))
        (kind_fits (node w.tree m).kind (found.found.followed refl))

  pub owed_fstatat : (x : Operand) (path : List ℕ) (otherwise : ℕ) (known : Standing plan certificate w e.process s choice (Invoke (Fstatat x path) otherwise))
      → OwedBy plan certificate w e.process s choice (Fstatat x path) otherwise known (answer w e.process s e (Fstatat x path))
  unfolding answer lookups_of
  owed_fstatat x path otherwise known =
      owed_through plan certificate w e s choice (Fstatat x path) otherwise known x refl refl _ (λ slot. refl) _ (λ d opened.
      owed_directory plan certificate w e s choice (Fstatat x path) otherwise known refl d.description _ (λ n access is dir.
      owed_beneath plan certificate w e s choice (Fstatat x path) otherwise known x path Follow refl d opened.held n access is dir _
      (looked_beneath x path otherwise known d opened n access is)))

  looked_anywhere : (path : List ℕ) (otherwise : ℕ) (known : Standing plan certificate w e.process s choice (Invoke (Stat path) otherwise))
      (a : lookups.Finding) → Found w.tree Follow a
      → OwedBy plan certificate w e.process s choice (Stat path) otherwise known (stats_at w e.process s e a)
  looked_anywhere path otherwise known (Not_found fault) found = owed_lost plan certificate w e s choice (Stat path) otherwise known refl fault
  looked_anywhere path otherwise known (Found_free k) found = owed_fails plan certificate w e.process s choice (Stat path) otherwise known refl ENOENT errors.Path tt
  looked_anywhere path otherwise known (Found_node m) found =
      owed_value plan certificate w e.process s choice (Stat path) otherwise known (kind_number (node w.tree m).kind) Same_tree Same_queue Same_state _ (from_to 1 2) tt
      (λ on. absurd (never_on plan certificate w e s choice (Stat path) otherwise known refl on)) tt
      (leads_stat plan certificate s (table_seen plan w e.process) path otherwise known.stands)
      (kind_fits (node w.tree m).kind (found.followed refl))

  pub owed_stat : (path : List ℕ) (otherwise : ℕ) (known : Standing plan certificate w e.process s choice (Invoke (Stat path) otherwise))
      → OwedBy plan certificate w e.process s choice (Stat path) otherwise known (answer w e.process s e (Stat path))
  unfolding answer lookups_of
  owed_stat path otherwise known =
      owed_outside plan certificate w e s choice (Stat path) otherwise known refl _
      (owed_globally plan certificate w e s choice (Stat path) otherwise known path Follow refl _
      (looked_anywhere path otherwise known))
