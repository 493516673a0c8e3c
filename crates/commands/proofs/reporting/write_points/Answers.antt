use Rattle.std.proofs.Common.{◌≡◌, ap, map}
use Rattle.std.specs.Prelude.{Err, None, Ok, Some}
use Rattle.std.specs.List.{slice_index_or}
use Rattle.certificate.specs.Bounds.{bound_at}
use Rattle.certificate.specs.Views.{bound_of}
use Rattle.certificate_text.specs.Pieces.{in_order}
use Rattle.certificate_text.proofs.Loops.{loop-end, loop-failed, loop-next}
use Rattle.certificate_text.proofs.Written.{passed_on, written-as}
use Rattle.commands.specs.Reports.{point_lines}
use Rattle.console.proofs.Pieces.{same-at}
use Rattle.instruction_set.specs.declared.instructions.Instruction.TheVariants.{Halt}
use Rattle.instruction_set.specs.Views.{instruction_of}
use Rattle.task.specs.Views.{grants_of, program_of}
use Rattle.commands.proofs.Listings.{lines_at, nothing-as, points-as}
use Rattle.commands.proofs.reporting.write_points.Goals as goal
use Rattle.commands.proofs.reporting.write_points.Goals.{in-Some+in_ok-write_bound, in_default}

pub returns-in_err-write_bound : goal.returns-in_err-write_bound
returns-in_err-write_bound g c =
    let code = c.code-items.result.now in
    let name = c.as_bytes-name.result.now in
    let grants = grants_of c.args.grants.now in
    let lines = lines_at c.args.wide grants c.args.cert.now name in
    let point = c.loop-point.point in
    let found : Some (bound_of c.in-Some.bound) ≡ bound_at c.args.cert.now name point = c.in-Some.ensures in
    written-as _ _ _ _ _ _ _
    (points-as c.args.wide grants c.args.cert.now name (map instruction_of code) (program_of c.args.program.now) c.as_bytes-name.ensures.bytes c.code-items.ensures.value)
    (loop-failed instruction_of lines code _ _ _ _ _ _ point (in_order lines 0 (map instruction_of code))
    (slice_index_or code point Halt) c.loop-point-test.true (same-at code point _ _ c.loop-point-test.true) c.loop-point.invariant
    c.in_err-write_bound.field-0.0 _ (passed_on _ _ c.from_residual.ensures)
    (written-as (Err c.in_err-write_bound.field-0.0) (g.W.Out.taken c.loop-point.out) (g.W.Out.taken c.write_bound.new.out)
    (g.W.Out.faults c.loop-point.out) (g.W.Out.faults c.write_bound.new.out) _ _ (ap (point_lines c.args.wide grants name point) found) c.in_err-write_bound.ensures))

pub loop-point-preserved : goal.loop-point-preserved
loop-point-preserved g c =
    let code = c.code-items.result.now in
    let name = c.as_bytes-name.result.now in
    let grants = grants_of c.args.grants.now in
    let lines = lines_at c.args.wide grants c.args.cert.now name in
    let point = c.loop-point.point in
    elim c.match-bound_at.branch [
      | in-Some+in_ok-write_bound w ↦
          let found : Some (bound_of w.in-Some.bound) ≡ bound_at c.args.cert.now name point = w.in-Some.ensures in
          rw w.out-is (loop-next instruction_of lines code _ _ _ _ _ _ point (in_order lines 0 (map instruction_of code))
          (slice_index_or code point Halt) c.loop-point-test.true (same-at code point _ _ c.loop-point-test.true) c.loop-point.invariant tt
          (written-as (Ok tt) (g.W.Out.taken c.loop-point.out) (g.W.Out.taken w.write_bound.new.out)
          (g.W.Out.faults c.loop-point.out) (g.W.Out.faults w.write_bound.new.out) _ _ (ap (point_lines c.args.wide grants name point) found) w.in_ok-write_bound.ensures))
      | in_default w ↦
          let found : None ≡ bound_at c.args.cert.now name point = w.in_default.ensures in
          rw w.out-is (loop-next instruction_of lines code _ _ _ _ _ _ point (in_order lines 0 (map instruction_of code))
          (slice_index_or code point Halt) c.loop-point-test.true (same-at code point _ _ c.loop-point-test.true) c.loop-point.invariant tt
          (nothing-as (g.W.Out.taken c.loop-point.out) (g.W.Out.faults c.loop-point.out) _ (ap (point_lines c.args.wide grants name point) found)))
    ]

pub returns : goal.returns
returns g c =
    let code = c.code-items.result.now in
    let name = c.as_bytes-name.result.now in
    let grants = grants_of c.args.grants.now in
    let lines = lines_at c.args.wide grants c.args.cert.now name in
    written-as (Ok tt) _ _ _ _ (in_order lines 0 (map instruction_of code)) _
    (points-as c.args.wide grants c.args.cert.now name (map instruction_of code) (program_of c.args.program.now) c.as_bytes-name.ensures.bytes c.code-items.ensures.value)
    (loop-end instruction_of lines code _ _ _ _ c.loop-point.point (in_order lines 0 (map instruction_of code)) tt c.loop-point-test.false c.loop-point.invariant)
