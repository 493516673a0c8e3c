-- The numbers that a call takes are those that its point's bound determines.
use Rattle.std.proofs.Common.{◌≡◌, ℕ, ◌+◌, true, [], ◌∷◌, subst}
use Rattle.std.specs.Prelude.{◌-◌, Option, Some, is_some, option_map}
use Rattle.rights.specs.Limits.{most_descriptors}
use Rattle.process.specs.State.{ProcessState}
use Rattle.fd_table.specs.Descriptions.{Descriptor}
use Rattle.fd_table.specs.OpenFiles.{lowest_from, lowest_free}
use Rattle.instruction_set.specs.Programs.{Syscall, Invoke}
use Rattle.task.specs.Plans.{Plan}
use Rattle.task.specs.Policies.{grant_holds}
use Rattle.certificate.specs.Bounds.{Certificate}
use Rattle.certificate.specs.Describes.{Seen}
use Rattle.rules.specs.Demands.{demands}
use Rattle.rules.specs.Slots.{free_numbers}
use Rattle.rules.proofs.points.Stands.{Stands}
use Rattle.rules.proofs.points.Uses.{said}
use Rattle.rules.proofs.bounds.Numbers.{one_number, two_numbers}

-- The table is what bounds see of a row of descriptors.
module _ (plan : Plan) (certificate : Certificate) (s : ProcessState) (seen : Descriptor → Seen) (row : ℕ → Option Descriptor)
    (call : Syscall) (otherwise : ℕ) (known : Stands plan certificate s (λ n. option_map seen (row n)) (Invoke call otherwise)) where
  determined : (count : ℕ) → (demands call).takes ≡ count → is_some (free_numbers count known.bound) ≡ true
  determined count takes =
      subst (λ n. is_some (free_numbers n known.bound) ≡ true) takes
      (said plan certificate s (λ n. option_map seen (row n)) call otherwise known).numbers

  pub number_taken : (demands call).takes ≡ 1 → (k : ℕ) → lowest_free row ≡ Some k → free_numbers 1 known.bound ≡ Some (k ∷ [])
  number_taken takes k is =
      one_number (grant_holds plan.grants) seen row known.bound known.inside.slots (determined 1 takes) k is

  pub pair_taken :
      (demands call).takes ≡ 2 → (first second : ℕ) → lowest_free row ≡ Some first → lowest_from (most_descriptors - 1 - first) (first + 1) row ≡ Some second
      → free_numbers 2 known.bound ≡ Some (first ∷ second ∷ [])
  pair_taken takes first second is also =
      two_numbers (grant_holds plan.grants) seen row known.bound known.inside.slots (determined 2 takes) first second is also
