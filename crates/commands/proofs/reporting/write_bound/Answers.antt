use Rattle.std.proofs.Common.{◌∙◌, map}
use Rattle.std.specs.Prelude.{Err, Ok}
use Rattle.certificate.specs.Views.{bound_of, slot_of}
use Rattle.certificate_text.specs.Pieces.{in_order}
use Rattle.certificate_text.proofs.Loops.{loop-end, loop-failed, loop-next}
use Rattle.certificate_text.proofs.Written.{passed_on, written-as}
use Rattle.task.specs.Views.{grant_of}
use Rattle.commands.proofs.Listings.{line-is, line_at, no-line, nothing-as}
use Rattle.commands.proofs.reporting.write_bound.Goals as goal
use Rattle.commands.proofs.reporting.write_bound.Goals.{in-Some+in_ok-write_line, in_default}

pub returns-in_err-write_line : goal.returns-in_err-write_line
returns-in_err-write_line g c =
    let grants = c.args.grants.now in
    let slots = (bound_of c.args.bound.now).slots in
    let name = c.as_bytes-name.result.now in
    let line = line_at c.args.wide c.args.program.now c.args.point slots in
    let is = line-is c.args.wide c.args.program.now c.args.point (map slot_of c.slots.result.now) slots c.slots.ensures.slots name
    (grant_of c.grant-item.result) c.as_bytes-name.ensures.bytes c.as_bytes.result.now c.in-Some.set.0 c.asked-shown.result.0
    (c.as_bytes.ensures ∙ c.new.ensures) c.in-Some.ensures c.asked-shown.ensures in
    loop-failed grant_of line grants _ _ _ _ _ _ c.loop-grant.grant-index
    (in_order line 0 (map grant_of grants)) c.grant-item.result c.loop-grant-test.true c.grant-item.is c.loop-grant.invariant
    c.in_err-write_line.field-0.0 _ (passed_on _ _ c.from_residual.ensures)
    (written-as (Err c.in_err-write_line.field-0.0) (g.W.Out.taken c.loop-grant.out) (g.W.Out.taken c.write_line.new.out)
    (g.W.Out.faults c.loop-grant.out) (g.W.Out.faults c.write_line.new.out) _ _ is c.in_err-write_line.ensures)

pub loop-grant-preserved : goal.loop-grant-preserved
loop-grant-preserved g c =
    let grants = c.args.grants.now in
    let slots = (bound_of c.args.bound.now).slots in
    let name = c.as_bytes-name.result.now in
    let line = line_at c.args.wide c.args.program.now c.args.point slots in
    elim c.match-rights_in.branch [
      | in-Some+in_ok-write_line w ↦
          let is = line-is c.args.wide c.args.program.now c.args.point (map slot_of c.slots.result.now) slots c.slots.ensures.slots name
          (grant_of c.grant-item.result) c.as_bytes-name.ensures.bytes w.as_bytes.result.now w.in-Some.set.0 w.asked-shown.result.0
          (w.as_bytes.ensures ∙ w.new.ensures) w.in-Some.ensures w.asked-shown.ensures in
          rw w.out-is (loop-next grant_of line grants _ _ _ _ _ _ c.loop-grant.grant-index
          (in_order line 0 (map grant_of grants)) c.grant-item.result c.loop-grant-test.true c.grant-item.is c.loop-grant.invariant tt
          (written-as (Ok tt) (g.W.Out.taken c.loop-grant.out) (g.W.Out.taken w.write_line.new.out)
          (g.W.Out.faults c.loop-grant.out) (g.W.Out.faults w.write_line.new.out) _ _ is w.in_ok-write_line.ensures))
      | in_default w ↦
          let is = no-line c.args.wide c.args.program.now c.args.point (map slot_of c.slots.result.now) slots c.slots.ensures.slots name
          (grant_of c.grant-item.result) c.as_bytes-name.ensures.bytes w.in_default.ensures in
          rw w.out-is (loop-next grant_of line grants _ _ _ _ _ _ c.loop-grant.grant-index
          (in_order line 0 (map grant_of grants)) c.grant-item.result c.loop-grant-test.true c.grant-item.is c.loop-grant.invariant tt
          (nothing-as (g.W.Out.taken c.loop-grant.out) (g.W.Out.faults c.loop-grant.out) _ is))
    ]

pub returns : goal.returns
returns g c =
    loop-end grant_of (line_at c.args.wide c.args.program.now c.args.point (bound_of c.args.bound.now).slots) c.args.grants.now _ _ _ _ c.loop-grant.grant-index _ tt
    c.loop-grant-test.false c.loop-grant.invariant
