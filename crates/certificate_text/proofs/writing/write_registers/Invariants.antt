use Rattle.std.proofs.Common.{drop, map}
use Rattle.certificate.specs.Views.{interval_of, version_of}
use Rattle.certificate_text.specs.Pieces.{in_order, register_text}
use Rattle.certificate_text.proofs.GatheredTexts.{Gathered}
use Rattle.certificate_text.proofs.writing.write_registers.Given as goal

-- those before this one are written
abbrev pub invariant-loop-register : goal.invariant-loop-register
invariant-loop-register g l =
    Gathered (g.W.Out.taken l.fn.out) (g.W.Out.taken l.out) (g.W.Out.faults l.fn.out) (g.W.Out.faults l.out) l.fn.room l.room
    (in_order (register_text (version_of l.version)) 0 (map interval_of l.registers)) (in_order (register_text (version_of l.version)) l.register (map interval_of (drop l.register l.registers)))
