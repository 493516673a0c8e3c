use Rattle.std.proofs.Common.{◌≡◌, subst, arith}
use Rattle.std.specs.Prelude.{OnOk}
use Rattle.simulator.proofs.Digits.{last_two, one_digit, three_digits, two_digits}
use Rattle.simulator.proofs.trace.+push_digits.Goals as goal

pub returns-then-number-lt10-clause-line : goal.returns-then-number-lt10-clause-line
returns-then-number-lt10-clause-line t c =
    subst (λ text. OnOk c.push.result (c.push.new.self.line ≡ text)) (one_digit c.args.number c.args.page.now.line c.if-number-lt10.true) c.push.ensures.line

pub returns-then-number-lt100-clause-line : goal.returns-then-number-lt100-clause-line
returns-then-number-lt100-clause-line t c =
    subst (λ text. OnOk c.append_word.result (c.append_word.new.self.line ≡ text))
    (two_digits c.args.number c.args.page.now.line c.if-number-lt10.false c.if-number-lt100.true) c.append_word.ensures.line

pub returns-then-number-lt1000-clause-line : goal.returns-then-number-lt1000-clause-line
returns-then-number-lt1000-clause-line t c =
    subst (λ text. OnOk c.append_word-then-number-lt1000.result (c.append_word-then-number-lt1000.new.self.line ≡ text))
    (three_digits c.args.number c.args.page.now.line c.if-number-lt100.false c.if-number-lt1000.true) c.append_word-then-number-lt1000.ensures.line

pub returns-clause-line : goal.returns-clause-line
returns-clause-line t c =
    subst (λ text. OnOk c.append_word-2.result (c.append_word-2.new.self.line ≡ text))
    (last_two c.args.number c.args.page.now.line c.push_digits.new.page.line (omega (arith, c.if-number-lt1000.false)) (omega (arith, c.ranges.number.fits))
    c.in_ok-push_digits.ensures.line) c.append_word-2.ensures.line
