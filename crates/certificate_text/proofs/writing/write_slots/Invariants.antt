use Rattle.std.proofs.Common.{drop, map}
use Rattle.certificate.specs.Views.{slot_of, version_of}
use Rattle.certificate_text.specs.Pieces.{in_order, slot_text}
use Rattle.certificate_text.proofs.GatheredTexts.{Gathered}
use Rattle.certificate_text.proofs.writing.write_slots.Given as goal

-- those before this one are written
abbrev pub invariant-loop-number : goal.invariant-loop-number
invariant-loop-number g l =
    Gathered (g.W.Out.taken l.fn.out) (g.W.Out.taken l.out) (g.W.Out.faults l.fn.out) (g.W.Out.faults l.out) l.fn.room l.room
    (in_order (slot_text (version_of l.version)) 0 (map slot_of l.slots)) (in_order (slot_text (version_of l.version)) l.number (map slot_of (drop l.number l.slots)))
