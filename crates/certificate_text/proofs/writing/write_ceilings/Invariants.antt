use Rattle.std.proofs.Common.{drop, map}
use Rattle.certificate.specs.Views.{ceiling_of, version_of}
use Rattle.certificate_text.specs.Pieces.{in_order, ceiling_text}
use Rattle.certificate_text.proofs.GatheredTexts.{Gathered}
use Rattle.certificate_text.proofs.writing.write_ceilings.Given as goal

-- those before this one are written
abbrev pub invariant-loop-ceiling : goal.invariant-loop-ceiling
invariant-loop-ceiling g l =
    Gathered (g.W.Out.taken l.fn.out) (g.W.Out.taken l.out) (g.W.Out.faults l.fn.out) (g.W.Out.faults l.out) l.fn.room l.room
    (in_order (λ n. ceiling_text (version_of l.version)) 0 (map ceiling_of l.ceilings))
    (in_order (λ n. ceiling_text (version_of l.version)) l.ceiling-index (map ceiling_of (drop l.ceiling-index l.ceilings)))
