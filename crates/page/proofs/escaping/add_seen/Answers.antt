use Rattle.std.proofs.Common.{sym, ◌∙◌}
use Rattle.page.proofs.EscapingLaws.{adds-same, seen-hidden, seen-plain}
use Rattle.page.proofs.escaping.add_seen.Goals as goal

pub returns-then-is_hidden : goal.returns-then-is_hidden
returns-then-is_hidden c =
    adds-same _ _ _ _ c.add_code.ensures (seen-hidden c.args.letter c.from-code.result c.from-code.ensures (sym c.is_hidden.ensures ∙ c.if-is_hidden.true))

pub returns : goal.returns
returns c =
    adds-same _ _ _ _ c.bytes.ensures
    (seen-plain c.args.letter c.from-code.result c.as_bytes.result.now c.from-code.ensures (sym c.is_hidden.ensures ∙ c.if-is_hidden.false)
    (c.as_bytes.ensures.value ∙ c.encode_utf8.ensures.value))
