use Rattle.std.proofs.Common.{ap, ◌∙◌, ◌++◌}
use Rattle.certificate.specs.Bounds.{Bound}
use Rattle.certificate.specs.Lines.{Begins_block}
use Rattle.certificate.specs.Views.{bound_of, point_of, version_of}
use Rattle.certificate_text.specs.Pieces.{in_order, line_ended, register_text, slot_text}
use Rattle.certificate_text.proofs.Pieces.{block-text}
use Rattle.certificate_text.proofs.GatheredTexts.{gathered-as, gathered-both, gathered-front}
use Rattle.certificate_text.proofs.Written.{passed_on}
use Rattle.certificate_text.proofs.writing.write_block.Goals as goal

pub returns-in_err-write_line : goal.returns-in_err-write_line
returns-in_err-write_line g c =
    let v = version_of c.args.version in
    let b = point_of c.args.point.now in
    gathered-as _ _ _ _ _ _ _ _ _
    (ap (λ line. line_ended v line ++ (in_order (register_text v) 0 b.bound.registers ++ in_order (slot_text v) 0 b.bound.slots)) c.first_line.ensures ∙ block-text v b)
    (gathered-front _ _ _ _ _ _ _ _ c.in_err-write_line.field-0.0 _ (passed_on _ _ c.from_residual.ensures) c.in_err-write_line.ensures)

pub returns : goal.returns
returns g c =
    let v = version_of c.args.version in
    let b = point_of c.args.point.now in
    gathered-as _ _ _ _ _ _ _ _ _
    (ap (λ line. line_ended v line ++ (in_order (register_text v) 0 (bound_of c.bound.result).registers ++ in_order (slot_text v) 0 (bound_of c.bound.result).slots)) c.first_line.ensures
    ∙ ap (λ (bound : Bound). line_ended v (Begins_block b.program b.point b.bound.mode) ++ (in_order (register_text v) 0 bound.registers ++ in_order (slot_text v) 0 bound.slots)) c.bound.ensures
    ∙ block-text v b)
    (gathered-both _ _ _ _ _ _ _ _ _ _ _ _ _ c.in_ok-write_line.ensures c.write_bound.ensures)
