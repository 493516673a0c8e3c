use Rattle.std.proofs.Common.{◌≡◌}
use Rattle.certificate_text.specs.Readings.{read_behind}
use Rattle.certificate_text.proofs.reading.take_lines.Given as goal

-- what comes of the lines that are left comes of all
abbrev pub invariant-loop-line : goal.invariant-loop-line
invariant-loop-line l = record {
  more : (goal.iterator-loop-line).can_next l.lines × (goal.iterator-loop-line).is_finite l.lines;
  leads : read_behind l.fn.cert l.fn.lines ≡ read_behind l.cert l.lines;
}
