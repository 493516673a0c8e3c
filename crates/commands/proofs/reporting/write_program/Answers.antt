use Rattle.std.proofs.Common.{◌≡◌, ◌∙◌, [], List, ℕ, ap, refl}
use Rattle.std.specs.Prelude.{if◌then◌else◌}
use Rattle.certificate_text.proofs.Written.{passed_on, written-as, written-both, written-front}
use Rattle.task.specs.Views.{grants_of, program_of}
use Rattle.commands.specs.Reports.{ceiling_lines}
use Rattle.commands.proofs.reporting.write_program.Goals as goal

pub returns-in_err-write_points : goal.returns-in_err-write_points
returns-in_err-write_points g c =
    let p = program_of c.args.program.now in
    let marks = if p.marked then ceiling_lines c.args.wide (grants_of c.args.grants.now) c.args.cert.now p.name else [] in
    written-front _ _ _ _ _ marks c.in_err-write_points.field-0.0 _ (passed_on _ _ c.from_residual.ensures) c.in_err-write_points.ensures

pub returns : goal.returns
returns g c =
    let p = program_of c.args.program.now in
    let lines = λ (name : List ℕ). ceiling_lines c.args.wide (grants_of c.args.grants.now) c.args.cert.now name in
    let marks = if p.marked then lines p.name else [] in
    let said : lines c.as_bytes.result.now ≡ marks = ap lines c.as_bytes.ensures.bytes ∙ rw c.if-not-program.false refl in
    written-both _ _ _ _ _ _ _ marks _ _ c.in_ok-write_points.ensures (written-as _ _ _ _ _ _ _ said c.write_ceilings.ensures)
