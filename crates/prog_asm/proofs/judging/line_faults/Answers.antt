use Rattle.std.proofs.Common.{ap, ◌∙◌}
use Rattle.prog_asm.specs.LineFaults.{first_fault}
use Rattle.prog_asm.proofs.JudgedLaws.{faults-first}
use Rattle.prog_asm.proofs.judging.line_faults.Goals as goal

pub returns-clause-first : goal.returns-clause-first
returns-clause-first c = ap first_fault c.in_ok-judge.ensures.faults ∙ faults-first c.args.wide c.args.text.now
