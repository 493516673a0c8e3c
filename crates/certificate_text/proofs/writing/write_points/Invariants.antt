use Rattle.std.proofs.Common.{drop, map}
use Rattle.certificate.specs.Views.{point_of, version_of}
use Rattle.certificate_text.specs.Pieces.{in_order, block_text}
use Rattle.certificate_text.proofs.GatheredTexts.{Gathered}
use Rattle.certificate_text.proofs.writing.write_points.Given as goal

-- those before this one are written
abbrev pub invariant-loop-point : goal.invariant-loop-point
invariant-loop-point g l =
    Gathered (g.W.Out.taken l.fn.out) (g.W.Out.taken l.out) (g.W.Out.faults l.fn.out) (g.W.Out.faults l.out) l.fn.room l.room
    (in_order (λ n. block_text (version_of l.version)) 0 (map point_of l.points)) (in_order (λ n. block_text (version_of l.version)) l.point-index (map point_of (drop l.point-index l.points)))
