-- Verdicts that are told, and what a yes means.
use Rattle.std.proofs.Common.{◌≡◌, ◌∙◌, Bool, List, [], ◌∷◌, ℕ, ap, codes, false, inl, inr, refl, subst, sym, true}
use Rattle.std.specs.Str.{bytes_eq}
use Rattle.std.specs.Prelude.{Option, Ok}
use Rattle.rights.specs.Output.{TookFront}
use Rattle.certificate.specs.Bounds.{Certificate}
use Rattle.certificate_text.specs.Readings.{certificate_of_text}
use Rattle.checker.specs.Verdicts.{Verdict, Yes, No, IsAccepted, IsVerdict}
use Rattle.command_line.specs.Orders.{Order, Example, Run, Check, Report, Search, Expand, order_words}
use Rattle.rules.specs.Expansions.{expansion}
use Rattle.rules.proofs.Sound.{confining, sound}
use Rattle.task.specs.Plans.{Plan}
use Rattle.commands.specs.Begun.{HasBegun}
use Rattle.console.specs.Files.{Files, IsRead, IsTask, OfFiles}
use Rattle.commands.specs.Judged.{Judges, verdict_text}
use Rattle.commands.specs.Reports.{answer_text}
use Rattle.console.specs.Statuses.{verdict_status}
use Rattle.commands.specs.Served.{AsksForVerdict, DoesOrder, Serves, StaysInside}
use Rattle.commands.proofs.Begun.{task-valid}

-- A verdict on two files of which a beginning was told.
pub judged-begun : (files : Files) (task certificate : List ℕ) (text_of : Plan → Certificate → Verdict → List ℕ) (plan : Plan) (bounds : Certificate)
    (verdict : Verdict) (before after : Option (List ℕ)) → IsTask files task plan → IsRead files certificate certificate_of_text (Ok bounds) →
    IsVerdict plan bounds verdict → TookFront before after (text_of plan bounds verdict) →
    HasBegun (λ status before after. OfFiles files task certificate certificate_of_text (λ plan bounds. Judges plan bounds (text_of plan bounds) status before after)) before after
judged-begun files task certificate text_of plan bounds verdict before after is_task is_certificate is begun = record {
  status = verdict_status verdict;
  text = text_of plan bounds verdict;
  whole =
      record {
        plan = plan;
        is_task = is_task;
        value = bounds;
        is_value = is_certificate;
        holds = record { verdict = verdict; is = is; status_is = refl; writes = refl };
      };
  begun = begun;
}

accepts : (plan : Plan) (bounds : Certificate) (verdict : Verdict) → IsVerdict plan bounds verdict → 0 ≡ verdict_status verdict → IsAccepted plan bounds
accepts plan bounds Yes is status = is
accepts plan bounds (No program point rule) is status = absurd cc

same-check : (order : Order) (task certificate : List ℕ) → order_words order ≡ order_words (Check task certificate) → order ≡ Check task certificate
same-check Example task certificate same = absurd cc
same-check (Run t s) task certificate same = absurd cc
same-check (Check t c) task certificate same = cc
same-check (Report t c) task certificate same = absurd cc
same-check (Search t) task certificate same = absurd cc
same-check (Expand t c) task certificate same = absurd cc

abbrev asks_report : List (List ℕ) → Bool
asks_report [] = false
asks_report (word ∷ words) = bytes_eq word (codes "report")

same-report : (order : Order) (task certificate : List ℕ) → order_words order ≡ order_words (Report task certificate) → order ≡ Report task certificate
same-report Example task certificate same = absurd cc
same-report (Run t s) task certificate same = absurd cc
same-report (Check t c) task certificate same = absurd cc
same-report (Report t c) task certificate same = cc
same-report (Search t) task certificate same = absurd cc
same-report (Expand t c) task certificate same = let clash : false ≡ true = ap asks_report same in absurd cc

-- what is told with status 0 of a verdict on two files, however it is told
abbrev IsToldWell : Files → List ℕ → List ℕ → (Plan → Certificate → Verdict → List ℕ) → Option (List ℕ) → Option (List ℕ) → Type 0
IsToldWell files task certificate text_of before after =
    OfFiles files task certificate certificate_of_text (λ plan bounds. Judges plan bounds (text_of plan bounds) 0 before after)

judged-inside : (files : Files) (task certificate : List ℕ) (text_of : Plan → Certificate → Verdict → List ℕ) (before after : Option (List ℕ)) →
    IsToldWell files task certificate text_of before after → StaysInside files task
judged-inside files task certificate text_of before after done =
    let valid = task-valid done.is_task.text done.plan done.is_task.is in
    let accepted = accepts done.plan done.value done.holds.verdict done.holds.is done.holds.status_is in
    record {
      plan = done.plan;
      is_task = done.is_task;
      confined = confining done.plan (expansion done.plan done.value) valid accepted;
      sandboxed = λ none. sound done.plan (expansion done.plan done.value) valid none accepted;
    }

-- Where `check` or `report` ends with status 0, the task of its file stays inside.
pub served-inside : (files : Files) (words : List (List ℕ)) (before after : Option (List ℕ)) (task certificate : List ℕ) →
    Serves files words 0 before after → AsksForVerdict words task certificate → StaysInside files task
served-inside files words before after task certificate serves (inl check) =
    let same : serves.order ≡ Check task certificate = same-check serves.order task certificate (sym serves.asked.line ∙ check.line) in
    judged-inside files task certificate (λ plan bounds. verdict_text plan) before after
    (subst (λ (order : Order). DoesOrder files order 0 before after) same serves.done)
served-inside files words before after task certificate serves (inr report) =
    let same : serves.order ≡ Report task certificate = same-report serves.order task certificate (sym serves.asked.line ∙ report.line) in
    judged-inside files task certificate answer_text before after (subst (λ (order : Order). DoesOrder files order 0 before after) same serves.done)
