-- What is proposed for a task, and how it is written.
use Rattle.std.specs.Prelude.{◌≡◌, ◌⊎◌, ℕ, List, codes, Option, Some, Ok}
use Rattle.rights.specs.Output.{Took}
use Rattle.certificate.specs.Bounds.{Certificate}
use Rattle.certificate_text.specs.Readings.{certificate_of_text}
use Rattle.certificate_text.specs.Texts.{certificate_text}
use Rattle.checker.specs.Verdicts.{IsAccepted}
use Rattle.searcher.specs.Flat.{flat}
use Rattle.searcher.specs.Versions.{flat_version}
use Rattle.task.specs.Plans.{Plan}
use Rattle.task.specs.Sandboxed.{IsSandboxed}

-- A certificate of version 2, or of version 4 where the task asks for further rights, that is accepted, so that every run of the task is sandboxed, is written as a text that is read as it
-- again.
pub record Proposes (plan : Plan) (before after : Option (List ℕ)) : Type 0 where
  pub bounds : Certificate
  pub version : bounds.version ≡ flat_version plan
  pub accepted : IsAccepted plan bounds
  pub sandboxed : IsSandboxed plan
  pub reads_back : certificate_of_text (certificate_text bounds) ≡ Ok bounds
  pub writes : Took before after (certificate_text bounds)

-- None is found; then the flat certificate, if there is one, isn't accepted either.
pub record FindsNone (plan : Plan) (before after : Option (List ℕ)) : Type 0 where
  pub flat_fails : (bounds : Certificate) → flat plan ≡ Some bounds → IsAccepted plan bounds → ⊥
  pub writes : Took before after (codes "none\n")

-- The status is 0 where a certificate is proposed, and else 1.
abbrev pub Searches : Plan → ℕ → Option (List ℕ) → Option (List ℕ) → Type 0
Searches plan status before after =
    ((status ≡ 0) × Proposes plan before after) ⊎ ((status ≡ 1) × FindsNone plan before after)
