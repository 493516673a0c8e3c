use Rattle.std.proofs.Common.{drop, map}
use Rattle.certificate.specs.Views.{bound_of}
use Rattle.commands.proofs.Listings.{line_at}
use Rattle.task.specs.Views.{grant_of}
use Rattle.certificate_text.specs.Pieces.{in_order}
use Rattle.certificate_text.proofs.Written.{Written}
use Rattle.commands.proofs.reporting.write_bound.Given as goal

-- those before this one are written
abbrev pub invariant-loop-grant : goal.invariant-loop-grant
invariant-loop-grant g l =
    Written (g.W.Out.taken l.fn.out) (g.W.Out.taken l.out) (g.W.Out.faults l.fn.out) (g.W.Out.faults l.out)
    (in_order (line_at l.wide l.program l.point (bound_of l.bound).slots) 0 (map grant_of l.grants))
    (in_order (line_at l.wide l.program l.point (bound_of l.bound).slots) l.grant-index (map grant_of (drop l.grant-index l.grants)))
