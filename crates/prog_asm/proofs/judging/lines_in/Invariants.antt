use Rattle.std.proofs.Common.{◌≡◌, ◌++◌, map}
use Rattle.texts.specs.Lines.{lines_of}
use Rattle.prog_asm.proofs.judging.lines_in.Given as goal

-- the lines so far, and what is left
abbrev pub invariant-loop-line : goal.invariant-loop-line
invariant-loop-line l = map (λ line. line.now) l.lines.items ++ map (λ line. line.text) l.line-iterator ≡ map (λ line. line.text) (lines_of l.text)
