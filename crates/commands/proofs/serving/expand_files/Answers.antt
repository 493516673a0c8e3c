use Rattle.std.proofs.Common.{rules, ap, Err}
use Rattle.std.specs.Prelude.{Ok}
use Rattle.certificate_text.specs.Readings.{certificate_of_text}
use Rattle.command_line.specs.Orders.{Expand}
use Rattle.console.specs.Files.{IsRead, IsTask}
use Rattle.commands.proofs.Begun.{expansion-begun, stopped}
use Rattle.commands.proofs.serving.expand_files.Goals as goal

pub returns-in_err-write_expansion-clause-fails : goal.returns-in_err-write_expansion-clause-fails
returns-in_err-write_expansion-clause-fails g c =
    let stop = c.in_err-write_expansion.field-0.0 in
    let files = g.S.Source.files c.args.files.now in
    let before = g.W.Out.taken c.args.out.now in
    let after = g.W.Out.taken c.write_expansion.new.out in
    let plan = c.in_ok-claim.claim.task in
    let bounds = c.in_ok-claim.claim.cert in
    let is_task : IsTask files c.args.task.now plan = search rules in
    let is_certificate : IsRead files c.args.cert.now certificate_of_text (Ok bounds) = search rules in
    stopped files (Expand c.args.task.now c.args.cert.now) before after (g.W.Out.faults c.args.out.now) (g.W.Out.faults c.write_expansion.new.out)
    _ stop c.from_residual-in_err-write_expansion.ensures
    (λ is. c.in_err-write_expansion.ensures.device (ap Err is))
    (λ is. expansion-begun files c.args.task.now c.args.cert.now plan bounds before after is_task is_certificate (c.in_err-write_expansion.ensures.begun (ap Err is)))
    (λ is. c.in_err-write_expansion.ensures.memory (ap Err is)) (λ is. c.in_err-write_expansion.ensures.not_spent (ap Err is))
