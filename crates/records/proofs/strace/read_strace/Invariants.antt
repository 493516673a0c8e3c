use Rattle.std.proofs.Common.{◌≡◌, map}
use Rattle.records.specs.LineViews.{texts_told}
use Rattle.texts.specs.LineViews.{line_of}
use Rattle.records.proofs.strace.read_strace.Given as goal

-- each line has told one thing
abbrev pub invariant-loop-line : goal.invariant-loop-line
invariant-loop-line l = texts_told l.told.items ≡ map (λ line. line.text) (map line_of l.yielded)
