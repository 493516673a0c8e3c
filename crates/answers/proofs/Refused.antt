-- What a verdict's status says; and a fault's status is no answer's.
use Rattle.std.proofs.Common.{◌≡◌, ◌∙◌, false, true, inl, inr, refl, sym}
use Rattle.certificate.specs.Bounds.{Certificate}
use Rattle.checker.specs.Verdicts.{Verdict, Yes, No, IsAccepted, IsVerdict}
use Rattle.console.specs.Faults.{Fault, Refused, No_memory, No_output, fault_status}
use Rattle.console.specs.Statuses.{is_done_status, verdict_status}
use Rattle.task.specs.Plans.{Plan}
use Rattle.answers.specs.Answered.{SaysWhether}

-- what a verdict says
pub says_verdict : (plan : Plan) (bounds : Certificate) (verdict : Verdict) → IsVerdict plan bounds verdict → SaysWhether (verdict_status verdict) (IsAccepted plan bounds)
says_verdict plan bounds Yes is = inl (refl, is)
says_verdict plan bounds (No program point rule) is = inr (refl, λ accepted. let clash = sym is.found ∙ accepted program point in cc)

pub verdict_done : (verdict : Verdict) → is_done_status (verdict_status verdict) ≡ true
verdict_done Yes = refl
verdict_done (No program point rule) = refl

pub no_answer : (fault : Fault) → is_done_status (fault_status fault) ≡ false
no_answer (Refused why) = refl
no_answer No_memory = refl
no_answer No_output = refl
