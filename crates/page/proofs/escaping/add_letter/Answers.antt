use Rattle.page.proofs.EscapingLaws.{adds-same, shown-ampersand, shown-less, shown-more, shown-other, shown-quote}
use Rattle.std.proofs.Common.{ap}
use Rattle.std.specs.Str.{encode_utf8_all}
use Rattle.page.proofs.escaping.add_letter.Goals as goal

pub returns-then-letter-eq38 : goal.returns-then-letter-eq38
returns-then-letter-eq38 c = adds-same _ _ _ _ c.bytes.ensures (shown-ampersand c.args.letter c.if-letter-eq38.true)

pub returns-then-letter-eq60 : goal.returns-then-letter-eq60
returns-then-letter-eq60 c = adds-same _ _ _ _ c.bytes-then-letter-eq60.ensures (shown-less c.args.letter c.if-letter-eq60.true)

pub returns-then-letter-eq62 : goal.returns-then-letter-eq62
returns-then-letter-eq62 c = adds-same _ _ _ _ c.bytes-then-letter-eq62.ensures (shown-more c.args.letter c.if-letter-eq62.true)

pub returns-then-letter-eq34 : goal.returns-then-letter-eq34
returns-then-letter-eq34 c = adds-same _ _ _ _ c.bytes-then-letter-eq34.ensures (shown-quote c.args.letter c.if-letter-eq34.true)

pub returns : goal.returns
returns c =
    adds-same _ _ _ _ c.add_seen.ensures
    (ap encode_utf8_all (shown-other c.args.letter c.if-letter-eq38.false c.if-letter-eq60.false c.if-letter-eq62.false c.if-letter-eq34.false))
