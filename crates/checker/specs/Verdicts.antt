-- What the checker answers. (own)
use Rattle.std.specs.Prelude.{ℕ}
use Rattle.certificate.specs.Bounds.{Certificate}
use Rattle.task.specs.Plans.{Plan}
use Rattle.rules.specs.Expansions.{expansion}
use Rattle.rules.specs.Verdicts.{MeetsRules, IsFirstFound}

-- Yes; or no, with the program by its place in the task, the point and the rule.
pub data Verdict : Type 0 where
  Yes : Verdict
  No : (program point rule : ℕ) → Verdict

-- A certificate, of whichever version, is accepted where its expansion meets the rules.
abbrev pub IsAccepted : Plan → Certificate → Type 0
IsAccepted plan certificate = MeetsRules plan (expansion plan certificate)

-- The verdict on it is that of the rules on its expansion.
abbrev pub IsVerdict : Plan → Certificate → Verdict → Type 0
IsVerdict plan certificate Yes = IsAccepted plan certificate
IsVerdict plan certificate (No program point rule) = IsFirstFound plan (expansion plan certificate) program point rule
