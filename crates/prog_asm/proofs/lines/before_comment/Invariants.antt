use Rattle.std.proofs.Common.{◌≡◌, take, drop, ◌++◌}
use Rattle.std.specs.Prelude.{false}
use Rattle.instruction_set.specs.Lines.{uncommented_from}
use Rattle.prog_asm.proofs.lines.before_comment.Given as goal

-- what is before the comment so far, and what is left
abbrev pub invariant-loop-at : goal.invariant-loop-at
invariant-loop-at l = take l.at l.line ++ uncommented_from l.quoted (drop l.at l.line) ≡ uncommented_from false l.line
