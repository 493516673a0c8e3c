use Rattle.std.proofs.Common.{sym}
use Rattle.prog_asm.proofs.Lasts.{last_place-last}
use Rattle.prog_asm.proofs.wrongs.last_place.Goals as goal

pub returns-in-len1-up : goal.returns-in-len1-up
returns-in-len1-up c = sym (last_place-last c.args.words.now _ c.in-len1-up.len_at_least)
