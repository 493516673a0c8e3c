use Rattle.std.proofs.Common.{sym}
use Rattle.prog_asm.proofs.Ends.{before_last-some, before_last-other}
use Rattle.prog_asm.proofs.fields.before_last.Goals as goal

pub returns-then-last-byte : goal.returns-then-last-byte
returns-then-last-byte c = sym (before_last-some c.args.byte c.args.word.now c.in-len1-up.len_at_least c.if-last-byte.true)

pub returns-else-last-byte : goal.returns-else-last-byte
returns-else-last-byte c = sym (before_last-other c.args.byte c.args.word.now c.in-len1-up.len_at_least c.if-last-byte.false)
