use Rattle.std.proofs.Common.{drop, map}
use Rattle.commands.specs.Reports.{program_lines}
use Rattle.task.specs.Views.{grants_of, program_of}
use Rattle.certificate_text.specs.Pieces.{in_order}
use Rattle.certificate_text.proofs.Written.{Written}
use Rattle.commands.proofs.reporting.write_report.Given as goal

-- those before this one are written
abbrev pub invariant-loop-program : goal.invariant-loop-program
invariant-loop-program g l =
    Written (g.W.Out.taken l.fn.out) (g.W.Out.taken l.out) (g.W.Out.faults l.fn.out) (g.W.Out.faults l.out)
    (in_order (λ n. program_lines l.wide (grants_of l.grants) l.cert) 0 (map program_of l.program-items))
    (in_order (λ n. program_lines l.wide (grants_of l.grants) l.cert) l.program-index (map program_of (drop l.program-index l.program-items)))
