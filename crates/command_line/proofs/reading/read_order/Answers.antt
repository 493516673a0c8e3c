use Rattle.std.proofs.Common.{◌∙◌, ap, rules, IsTrue, map, string_bytes}
use Rattle.clap.specs.Words.{App, takes, subcommand_rows_of}
use Rattle.command_line.specs.OrderViews.{order_of}
use Rattle.command_line.proofs.Refusals.{failed, found, line_found, none_found}
use Rattle.command_line.proofs.reading.read_order.Goals as goal

pub returns-in-Err : goal.returns-in-Err
returns-in-Err c =
    let words = map string_bytes c.args.words.now in
    failed c.from.result words
    (λ taken. c.from.ensures.0 (c.in-Err.ensures.passes (ap (λ (app : App). takes app words) c.in_ok-program.ensures ∙ taken)))

pub returns-in-None : goal.returns-in-None
returns-in-None c = λ order asked.
    let rows = subcommand_rows_of c.in-Ok.matches in
    none_found rows order c.in-None.ensures
    (found _ _ rows c.in_ok-program.ensures c.in-Ok.ensures.matches order asked)

pub returns-then-not-is_line_of : goal.returns-then-not-is_line_of
returns-then-not-is_line_of c = λ order asked.
    let rows = subcommand_rows_of c.in-Ok.matches in
    let is = found _ _ rows c.in_ok-program.ensures c.in-Ok.ensures.matches order asked in
    let line = line_found _ rows (order_of c.in-Some.order) order c.in-Some.ensures is asked in
    let same : IsTrue c.is_line_of.result = c.is_line_of.ensures.1 line in
    search rules
