use Rattle.std.proofs.Common.{length}
use Rattle.prog_asm.proofs.operand_forms.+first_unfit.Given as goal

abbrev pub decreases-first_unfit : goal.decreases-first_unfit
decreases-first_unfit l = length l.forms.now
