use Rattle.std.proofs.Common.{length}
use Rattle.certificate.proofs.blocks.+push_registers.Given as goal

abbrev pub decreases-push_registers : goal.decreases-push_registers
decreases-push_registers l = length l.registers.now
