use Rattle.std.proofs.Common.{drop, map}
use Rattle.certificate.specs.Views.{held_end_of, version_of}
use Rattle.certificate_text.specs.Pieces.{in_order, end_text}
use Rattle.certificate_text.proofs.GatheredTexts.{Gathered}
use Rattle.certificate_text.proofs.writing.write_ends.Given as goal

-- those before this one are written
abbrev pub invariant-loop-held : goal.invariant-loop-held
invariant-loop-held g l =
    Gathered (g.W.Out.taken l.fn.out) (g.W.Out.taken l.out) (g.W.Out.faults l.fn.out) (g.W.Out.faults l.out) l.fn.room l.room
    (in_order (λ n. end_text (version_of l.version)) 0 (map held_end_of l.holds)) (in_order (λ n. end_text (version_of l.version)) l.held-index (map held_end_of (drop l.held-index l.holds)))
