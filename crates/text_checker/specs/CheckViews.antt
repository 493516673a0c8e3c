-- What the verdict on two texts is of. (own)
use Rattle.std.specs.Prelude.{◌≡◌, Result, Ok, Err}
use Rattle.certificate_text.specs.Readings.{Reading}
use Rattle.certificate_text.specs.Views.{ReadsCert}
use Rattle.checker.specs.Verdicts.{IsVerdict, Yes}
use Rattle.checker.specs.Views.{verdict_of}
use Rattle.checker.specs.declared.verdicts.Verdict.{Verdict}
use Rattle.task.specs.Plans.{Plan}
use Rattle.task_reader.specs.FaultViews.{FaultIs}
use Rattle.task_reader.specs.Reading.{Mistake}
use Rattle.text_checker.specs.declared.checking.Checked.{Checked}
use Rattle.text_checker.specs.declared.checking.Claim.{Claim}
use Rattle.text_checker.specs.declared.checking.Fault.{Fault}
use Rattle.text_checker.specs.declared.checking.Fault.TheVariants.{Task, Cert}

-- The verdict is that on the task and the certificate that the texts stand for; or the task's text has this fault; or it
-- stands for a task, and the certificate's text has this one. Want of memory aside.
abbrev pub IsVerdictOn : Verdict → Result Plan Mistake → Reading → Type 0
IsVerdictOn verdict (Ok plan) (Ok certificate) = IsVerdict plan certificate (verdict_of verdict)
IsVerdictOn verdict (Ok plan) (Err faulty) = ⊥
IsVerdictOn verdict (Err mistake) certificate = ⊥

-- Why two texts have no verdict.
abbrev pub HasFault : Fault → Result Plan Mistake → Reading → Type 0
HasFault (Task fault) task certificate = FaultIs fault task
HasFault (Cert fault) task certificate = (plan : Plan) × (task ≡ Ok plan) × ReadsCert (Err fault) certificate

-- the task and the certificate that two texts stand for
abbrev pub ReadsTexts : Result Claim Fault → Result Plan Mistake → Reading → Type 0
ReadsTexts (Ok claim) task certificate = (task ≡ Ok claim.task) × (certificate ≡ Ok claim.cert)
ReadsTexts (Err fault) task certificate = HasFault fault task certificate

-- these, and the verdict on them
abbrev pub ChecksClaim : Result Checked Fault → Result Plan Mistake → Reading → Type 0
ChecksClaim (Ok checked) task certificate =
    ReadsTexts (Ok checked.claim) task certificate × IsVerdict checked.claim.task checked.claim.cert (verdict_of checked.verdict)
ChecksClaim (Err fault) task certificate = HasFault fault task certificate

abbrev pub ChecksTexts : Result Verdict Fault → Result Plan Mistake → Reading → Type 0
ChecksTexts (Ok verdict) task certificate = IsVerdictOn verdict task certificate
ChecksTexts (Err fault) task certificate = HasFault fault task certificate

-- the verdict of what was checked
abbrev pub verdict_in : Result Checked Fault → Result Verdict Fault
verdict_in (Ok checked) = Ok checked.verdict
verdict_in (Err fault) = Err fault

abbrev pub SaysYes : Result Verdict Fault → Type 0
SaysYes (Ok verdict) = verdict_of verdict ≡ Yes
SaysYes (Err fault) = ⊥
