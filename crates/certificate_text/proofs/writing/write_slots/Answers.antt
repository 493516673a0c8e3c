use Rattle.std.proofs.Common.{map}
use Rattle.certificate.specs.Views.{slot_of, version_of}
use Rattle.certificate_text.specs.Pieces.{in_order, slot_text}
use Rattle.certificate_text.proofs.GatheredLoops.{loop-end, loop-failed, loop-next}
use Rattle.certificate_text.proofs.Written.{passed_on}
use Rattle.certificate_text.proofs.writing.write_slots.Goals as goal

pub returns-in_err-write_slot : goal.returns-in_err-write_slot
returns-in_err-write_slot g c =
    loop-failed slot_of (slot_text (version_of c.args.version)) c.args.slots.now _ _ _ _ _ _ _ _ _ c.loop-number.number
    (in_order (slot_text (version_of c.args.version)) 0 (map slot_of c.args.slots.now)) c.index-slots-number.result c.loop-number-test.true c.index-slots-number.is
    c.loop-number.invariant
    c.in_err-write_slot.field-0.0 _ (passed_on _ _ c.from_residual.ensures) c.in_err-write_slot.ensures

pub loop-number-preserved : goal.loop-number-preserved
loop-number-preserved g c =
    loop-next slot_of (slot_text (version_of c.args.version)) c.args.slots.now _ _ _ _ _ _ _ _ _ c.loop-number.number
    (in_order (slot_text (version_of c.args.version)) 0 (map slot_of c.args.slots.now)) c.index-slots-number.result c.loop-number-test.true c.index-slots-number.is
    c.loop-number.invariant
    c.in_ok-write_slot.field-0 c.in_ok-write_slot.ensures

pub returns : goal.returns
returns g c = loop-end slot_of (slot_text (version_of c.args.version)) c.args.slots.now _ _ _ _ _ _ c.loop-number.number _ tt c.loop-number-test.false c.loop-number.invariant
