use Rattle.std.proofs.Common.{◌≡◌, subst}
use Rattle.std.specs.Prelude.{OnOk}
use Rattle.simulator.proofs.Digits.{one_digit}
use Rattle.simulator.proofs.trace.push_number.Goals as goal

pub returns-then-number-lt10-clause-line : goal.returns-then-number-lt10-clause-line
returns-then-number-lt10-clause-line c =
    subst (λ text. OnOk c.push.result (c.push.new.self.line ≡ text)) (one_digit c.args.number c.args.page.now.line c.if-number-lt10.true) c.push.ensures.line
