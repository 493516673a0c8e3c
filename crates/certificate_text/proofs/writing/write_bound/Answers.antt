use Rattle.std.proofs.Common.{ap, ◌∙◌, ◌++◌, map}
use Rattle.certificate.specs.Views.{bound_of, slot_of, version_of}
use Rattle.certificate_text.specs.Pieces.{in_order, register_text, slot_text}
use Rattle.certificate_text.proofs.GatheredTexts.{gathered-as, gathered-both, gathered-front}
use Rattle.certificate_text.proofs.Written.{passed_on}
use Rattle.certificate_text.proofs.writing.write_bound.Goals as goal

pub returns-in_err-write_registers : goal.returns-in_err-write_registers
returns-in_err-write_registers g c =
    let v = version_of c.args.version in
    gathered-as _ _ _ _ _ _ _ _ _ (ap (λ registers. in_order (register_text v) 0 registers ++ in_order (slot_text v) 0 (bound_of c.args.bound.now).slots) c.registers.ensures.registers)
    (gathered-front _ _ _ _ _ _ _ _ c.in_err-write_registers.field-0.0 _ (passed_on _ _ c.from_residual.ensures) c.in_err-write_registers.ensures)

pub returns : goal.returns
returns g c =
    let v = version_of c.args.version in
    gathered-as _ _ _ _ _ _ _ _ _
    (ap (λ registers. in_order (register_text v) 0 registers ++ in_order (slot_text v) 0 (map slot_of c.slots.result.now)) c.registers.ensures.registers
    ∙ ap (λ slots. in_order (register_text v) 0 (bound_of c.args.bound.now).registers ++ in_order (slot_text v) 0 slots) c.slots.ensures.slots)
    (gathered-both _ _ _ _ _ _ _ _ _ _ _ _ _ c.in_ok-write_registers.ensures c.write_slots.ensures)
