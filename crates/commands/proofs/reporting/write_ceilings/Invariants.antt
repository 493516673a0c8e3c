use Rattle.std.proofs.Common.{drop, map}
use Rattle.commands.proofs.Listings.{ceiling_of_grant}
use Rattle.task.specs.Views.{grant_of}
use Rattle.certificate_text.specs.Pieces.{in_order}
use Rattle.certificate_text.proofs.Written.{Written}
use Rattle.commands.proofs.reporting.write_ceilings.Given as goal

-- those before this one are written
abbrev pub invariant-loop-grant : goal.invariant-loop-grant
invariant-loop-grant g l =
    Written (g.W.Out.taken l.fn.out) (g.W.Out.taken l.out) (g.W.Out.faults l.fn.out) (g.W.Out.faults l.out)
    (in_order (ceiling_of_grant l.wide l.cert l.program) 0 (map grant_of l.grants))
    (in_order (ceiling_of_grant l.wide l.cert l.program) l.grant-index (map grant_of (drop l.grant-index l.grants)))
