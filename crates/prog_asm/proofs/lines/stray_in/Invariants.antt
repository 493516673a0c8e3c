use Rattle.std.proofs.Common.{◌≡◌, drop}
use Rattle.std.specs.Prelude.{false}
use Rattle.prog_asm.specs.LineFaults.{stray_from}
use Rattle.prog_asm.proofs.lines.stray_in.Given as goal

-- what is left decides it
abbrev pub invariant-loop-at : goal.invariant-loop-at
invariant-loop-at l = stray_from l.quoted l.at (drop l.at l.line) ≡ stray_from false 0 l.line
