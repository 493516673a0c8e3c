-- The verdict on a task with a certificate, and how it is told.
use Rattle.std.specs.Prelude.{◌≡◌, ◌++◌, ℕ, List, codes, Option}
use Rattle.std.specs.Fmt.{decimal}
use Rattle.rights.specs.Output.{Took}
use Rattle.certificate.specs.Bounds.{Certificate}
use Rattle.checker.specs.Verdicts.{Verdict, Yes, No, IsVerdict}
use Rattle.console.specs.Statuses.{verdict_status}
use Rattle.task.specs.Plans.{Plan, program_name}

-- `yes`; or a no, with the rule that is broken, as `no main:4 K7`
abbrev pub verdict_text : Plan → Verdict → List ℕ
verdict_text plan Yes = codes "yes\n"
verdict_text plan (No program point rule) =
    codes "no " ++ program_name plan program ++ (codes ":" ++ (decimal point ++ (codes " K" ++ (decimal rule ++ codes "\n"))))

-- The verdict on a task with a certificate is told by its text, with its status.
pub record Judges (plan : Plan) (bounds : Certificate) (text_of : Verdict → List ℕ) (status : ℕ) (before after : Option (List ℕ)) : Type 0 where
  pub verdict : Verdict
  pub is : IsVerdict plan bounds verdict
  pub status_is : status ≡ verdict_status verdict
  pub writes : Took before after (text_of verdict)
