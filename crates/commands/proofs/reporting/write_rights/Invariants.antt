use Rattle.std.proofs.Common.{[], drop, map}
use Rattle.certificate_text.proofs.Written.{Written}
use Rattle.commands.specs.Reports.{names_in, parted}
use Rattle.commands.specs.ReportViews.{row_seen}
use Rattle.commands.proofs.reporting.write_rights.Given as goal

-- those before this one are written
abbrev pub invariant-loop-right : goal.invariant-loop-right
invariant-loop-right g l =
    Written (g.W.Out.taken l.fn.out) (g.W.Out.taken l.out) (g.W.Out.faults l.fn.out) (g.W.Out.faults l.out)
    (parted [] (names_in l.set.0 (map row_seen l.right-items)))
    (parted l.separator (names_in l.set.0 (map row_seen (drop l.right-index l.right-items))))
