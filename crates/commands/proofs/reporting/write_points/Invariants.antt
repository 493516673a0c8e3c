use Rattle.std.proofs.Common.{drop, map}
use Rattle.instruction_set.specs.Views.{instruction_of}
use Rattle.commands.proofs.Listings.{lines_at}
use Rattle.task.specs.Views.{grants_of}
use Rattle.certificate_text.specs.Pieces.{in_order}
use Rattle.certificate_text.proofs.Written.{Written}
use Rattle.commands.proofs.reporting.write_points.Given as goal

-- those before this one are written
abbrev pub invariant-loop-point : goal.invariant-loop-point
invariant-loop-point g l =
    Written (g.W.Out.taken l.fn.out) (g.W.Out.taken l.out) (g.W.Out.faults l.fn.out) (g.W.Out.faults l.out)
    (in_order (lines_at l.wide (grants_of l.grants) l.cert l.name) 0 (map instruction_of l.items))
    (in_order (lines_at l.wide (grants_of l.grants) l.cert l.name) l.point (map instruction_of (drop l.point l.items)))
