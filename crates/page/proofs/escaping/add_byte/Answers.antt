use Rattle.page.proofs.EscapingLaws.{adds-same, shown-ascii, shown-past}
use Rattle.page.proofs.escaping.add_byte.Goals as goal

pub returns-then-byte-lt128 : goal.returns-then-byte-lt128
returns-then-byte-lt128 c = adds-same _ _ _ _ c.add_letter.ensures (shown-ascii c.args.byte c.from.result c.if-byte-lt128.true c.from.ensures)

pub returns : goal.returns
returns c = adds-same _ _ _ _ c.say.ensures (shown-past c.args.byte c.two_digits.result c.if-byte-lt128.false c.two_digits.ensures)
