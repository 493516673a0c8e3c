-- Where a call leads that fails, and that no call of a process in the mode reaches a global name space.
use Rattle.std.proofs.Common.{◌≡◌, ℕ, Bool, true, false, refl, sym, ◌∙◌}
use Rattle.std.specs.Prelude.{Option, not}
use Rattle.rights.specs.Errors.{Errno, errno_number}
use Rattle.process.specs.State.{ProcessState}
use Rattle.instruction_set.specs.Programs.{Syscall, Invoke}
use Rattle.kernel.specs.Steps.{failed}
use Rattle.task.specs.Plans.{Plan}
use Rattle.task.specs.Policies.{grant_holds}
use Rattle.certificate.specs.Bounds.{with_interval, Certificate}
use Rattle.certificate.specs.Describes.{Seen}
use Rattle.rules.specs.Demands.{demands}
use Rattle.rules.specs.Outcomes.{error_interval}
use Rattle.rules.proofs.bounds.Describing.{register_changed, error_fits}
use Rattle.rules.proofs.points.AskedCalls.{on_may_be}
use Rattle.rules.proofs.points.Stands.{Stands}
use Rattle.rules.proofs.points.Uses.{said}
use Rattle.rules.proofs.outcomes.Plain.{Arrives, arrives}

module _ (plan : Plan) (certificate : Certificate) (s : ProcessState) (table : ℕ → Option Seen)
    (call : Syscall) (otherwise : ℕ) (known : Stands plan certificate s table (Invoke call otherwise)) where
  -- a call that fails comes to its label
  pub failed_arrives : (demands call).never_fails ≡ false → (errno : Errno) → Arrives plan certificate (failed s errno otherwise) table
  failed_arrives may errno =
      arrives plan certificate (failed s errno otherwise) table (with_interval known.bound 7 error_interval)
      ((said plan certificate s table call otherwise known).errors may)
      (register_changed (grant_holds plan.grants) known.bound s.mode s.registers table 7 (errno_number errno) error_interval (error_fits errno) known.inside)

  -- a process that reaches a global name space isn't in the mode
  pub outside_mode : (demands call).is_global ≡ true → not s.mode ≡ true
  outside_mode global = go s.mode refl
    where
      inside : s.mode ≡ true → ⊥
      inside on =
          let no : (demands call).is_global ≡ false = (said plan certificate s table call otherwise known).beneath (on_may_be known.bound.mode s.mode known.inside.mode on) in
          let wrong : true ≡ false = sym global ∙ no in
          cc

      go : (on : Bool) → s.mode ≡ on → not on ≡ true
      go true on = absurd (inside on)
      go false off = refl
