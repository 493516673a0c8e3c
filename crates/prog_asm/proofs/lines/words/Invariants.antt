use Rattle.std.proofs.Common.{map}
use Rattle.prog_asm.specs.LineViews.{word_of}
use Rattle.prog_asm.proofs.WordsRead.{WordsSoFar}
use Rattle.prog_asm.proofs.lines.words.Given as goal

abbrev pub invariant-loop-at : goal.invariant-loop-at
invariant-loop-at l = WordsSoFar l.line (map word_of l.words.items) l.quoted l.start l.at
