use Rattle.std.proofs.Common.{drop, map}
use Rattle.certificate.specs.Views.{authority_of, version_of}
use Rattle.certificate_text.specs.Pieces.{in_order, authority_text}
use Rattle.certificate_text.proofs.GatheredTexts.{Gathered}
use Rattle.certificate_text.proofs.writing.write_authorities.Given as goal

-- those before this one are written
abbrev pub invariant-loop-authority : goal.invariant-loop-authority
invariant-loop-authority g l =
    Gathered (g.W.Out.taken l.fn.out) (g.W.Out.taken l.out) (g.W.Out.faults l.fn.out) (g.W.Out.faults l.out) l.fn.room l.room
    (in_order (λ n. authority_text (version_of l.version)) 0 (map authority_of l.authorities))
    (in_order (λ n. authority_text (version_of l.version)) l.authority-index (map authority_of (drop l.authority-index l.authorities)))
