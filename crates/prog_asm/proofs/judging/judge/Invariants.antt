use Rattle.std.proofs.Common.{map}
use Rattle.prog_asm.proofs.JudgedCode.{JudgedSoFar}
use Rattle.prog_asm.proofs.judging.judge.Given as goal

-- what is wrong with the lines so far, and what is left
abbrev pub invariant-loop-at : goal.invariant-loop-at
invariant-loop-at l = JudgedSoFar l.wide l.text (map (λ line. line.now) l.line-items) l.at l.draft
