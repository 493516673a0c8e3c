use Rattle.page.proofs.EscapingLaws.{adds-same, code-long, code-short}
use Rattle.page.proofs.escaping.add_code.Goals as goal

pub returns-then-code-lt65536 : goal.returns-then-code-lt65536
returns-then-code-lt65536 c = adds-same _ _ _ _ c.say.ensures (code-short c.args.code c.four_digits-low.result c.if-code-lt65536.true c.four_digits-low.ensures)

pub returns : goal.returns
returns c =
    adds-same _ _ _ _ c.say-2.ensures
    (code-long c.args.code c.two_digits-high.result c.four_digits-low.result c.if-code-lt65536.false c.two_digits-high.ensures c.four_digits-low.ensures)
