use Rattle.std.proofs.Common.{rules, ap, Err}
use Rattle.std.specs.Prelude.{Ok}
use Rattle.certificate_text.specs.Readings.{certificate_of_text}
use Rattle.checker.specs.Verdicts.{IsVerdict}
use Rattle.checker.specs.Views.{verdict_of}
use Rattle.command_line.specs.Orders.{Report}
use Rattle.console.specs.Files.{IsRead, IsTask}
use Rattle.commands.specs.Reports.{answer_text}
use Rattle.commands.proofs.Begun.{stopped}
use Rattle.commands.proofs.Verdicts.{judged-begun}
use Rattle.commands.proofs.serving.report_files.Goals as goal

pub returns-in_err-write_answer-clause-fails : goal.returns-in_err-write_answer-clause-fails
returns-in_err-write_answer-clause-fails g c =
    let stop = c.in_err-write_answer.field-0.0 in
    let files = g.S.Source.files c.args.files.now in
    let before = g.W.Out.taken c.args.out.now in
    let after = g.W.Out.taken c.write_answer.new.out in
    let plan = c.in_ok-checked.checked.claim.task in
    let bounds = c.in_ok-checked.checked.claim.cert in
    let verdict = verdict_of c.in_ok-checked.checked.verdict in
    let is_task : IsTask files c.args.task.now plan = search rules in
    let is_certificate : IsRead files c.args.cert.now certificate_of_text (Ok bounds) = search rules in
    let is_verdict : IsVerdict plan bounds verdict = search rules in
    stopped files (Report c.args.task.now c.args.cert.now) before after (g.W.Out.faults c.args.out.now) (g.W.Out.faults c.write_answer.new.out)
    _ stop c.from_residual-in_err-write_answer.ensures
    (λ is. c.in_err-write_answer.ensures.device (ap Err is))
    (λ is. judged-begun files c.args.task.now c.args.cert.now answer_text plan bounds verdict before after is_task is_certificate is_verdict (c.in_err-write_answer.ensures.begun (ap Err is)))
    (λ is. c.in_err-write_answer.ensures.memory (ap Err is)) (λ is. c.in_err-write_answer.ensures.not_spent (ap Err is))
