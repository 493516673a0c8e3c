use Rattle.std.proofs.Common.{◌∙◌, map, sym}
use Rattle.std.specs.Prelude.{Err, Ok}
use Rattle.certificate_text.specs.Pieces.{in_order}
use Rattle.certificate_text.proofs.Loops.{loop-end, loop-failed, loop-next}
use Rattle.certificate_text.proofs.Written.{passed_on, written-as}
use Rattle.task.specs.Views.{grant_of}
use Rattle.commands.proofs.Listings.{ceiling-is, ceiling_of_grant, no-ceiling, not-zero, nothing-as}
use Rattle.commands.proofs.reporting.write_ceilings.Goals as goal
use Rattle.commands.proofs.reporting.write_ceilings.Goals.{then-bits-ne0+in_ok-write_line, else-bits-ne0}

pub returns-in_err-write_line : goal.returns-in_err-write_line
returns-in_err-write_line g c =
    let i = c.loop-grant.grant-index in
    let line = ceiling_of_grant c.args.wide c.args.cert.now c.args.program.now in
    let set = c.ceiling_at-set.result.0 in
    let is = ceiling-is c.args.wide c.args.cert.now c.args.program.now c.as_bytes-name.result.now set i (grant_of c.grant-item.result) c.as_bytes-name.ensures.bytes c.ceiling_at-set.ensures
    c.asked-shown.result.0 (not-zero set (λ none. c.if-bits-ne0.true (c.bits.ensures tt ∙ none))) c.asked-shown.ensures in
    loop-failed grant_of line c.args.grants.now _ _ _ _ _ _ i
    (in_order line 0 (map grant_of c.args.grants.now)) c.grant-item.result c.loop-grant-test.true c.grant-item.is c.loop-grant.invariant
    c.in_err-write_line.field-0.0 _ (passed_on _ _ c.from_residual.ensures)
    (written-as (Err c.in_err-write_line.field-0.0) (g.W.Out.taken c.loop-grant.out) (g.W.Out.taken c.write_line.new.out)
    (g.W.Out.faults c.loop-grant.out) (g.W.Out.faults c.write_line.new.out) _ _ is c.in_err-write_line.ensures)

pub loop-grant-preserved : goal.loop-grant-preserved
loop-grant-preserved g c =
    let i = c.loop-grant.grant-index in
    let line = ceiling_of_grant c.args.wide c.args.cert.now c.args.program.now in
    let set = c.ceiling_at-set.result.0 in
    elim c.if-bits-ne0.branch [
      | then-bits-ne0+in_ok-write_line w ↦
          let is = ceiling-is c.args.wide c.args.cert.now c.args.program.now c.as_bytes-name.result.now set i (grant_of c.grant-item.result) c.as_bytes-name.ensures.bytes c.ceiling_at-set.ensures
          w.asked-shown.result.0 (not-zero set (λ none. w.if-bits-ne0.true (c.bits.ensures tt ∙ none))) w.asked-shown.ensures in
          rw w.out-is (loop-next grant_of line c.args.grants.now _ _ _ _ _ _ i
          (in_order line 0 (map grant_of c.args.grants.now)) c.grant-item.result c.loop-grant-test.true c.grant-item.is c.loop-grant.invariant tt
          (written-as (Ok tt) (g.W.Out.taken c.loop-grant.out) (g.W.Out.taken w.write_line.new.out)
          (g.W.Out.faults c.loop-grant.out) (g.W.Out.faults w.write_line.new.out) _ _ is w.in_ok-write_line.ensures))
      | else-bits-ne0 w ↦
          let is = no-ceiling c.args.wide c.args.cert.now c.args.program.now c.as_bytes-name.result.now set i (grant_of c.grant-item.result) c.as_bytes-name.ensures.bytes c.ceiling_at-set.ensures
          (sym (c.bits.ensures tt) ∙ w.if-bits-ne0.false) in
          rw w.out-is (loop-next grant_of line c.args.grants.now _ _ _ _ _ _ i
          (in_order line 0 (map grant_of c.args.grants.now)) c.grant-item.result c.loop-grant-test.true c.grant-item.is c.loop-grant.invariant tt
          (nothing-as (g.W.Out.taken c.loop-grant.out) (g.W.Out.faults c.loop-grant.out) _ is))
    ]

pub returns : goal.returns
returns g c =
    loop-end grant_of (ceiling_of_grant c.args.wide c.args.cert.now c.args.program.now) c.args.grants.now _ _ _ _ c.loop-grant.grant-index _ tt c.loop-grant-test.false c.loop-grant.invariant
