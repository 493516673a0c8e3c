use Rattle.std.proofs.Common.{length}
use Rattle.prog_asm.proofs.wrongs.+operand_place.Given as goal

abbrev pub decreases-operand_place : goal.decreases-operand_place
decreases-operand_place l = length l.operands.now
