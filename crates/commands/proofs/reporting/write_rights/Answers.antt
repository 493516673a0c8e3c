use Rattle.std.proofs.Common.{◌∙◌, [], codes, drop, map, subst, sym, ◌+◌}
use Rattle.std.specs.Prelude.{Ok}
use Rattle.certificate_text.specs.WritingViews.{Writes}
use Rattle.certificate_text.proofs.Written.{Written, passed_on, written-all, written-as, written-failed, written-next}
use Rattle.commands.specs.Reports.{names_in, parted}
use Rattle.commands.proofs.Listings.{names-end, named-here, none-listed, not-zero, passed-here, rights-listed}
use Rattle.commands.specs.ReportViews.{row_seen}
use Rattle.commands.proofs.reporting.write_rights.Goals as goal
use Rattle.commands.proofs.reporting.write_rights.Goals.{then-contains+in_ok-write_pieces, else-contains}

pub returns-then-bits-eq0 : goal.returns-then-bits-eq0
returns-then-bits-eq0 g c = subst (Writes _ _ _ _ _) (none-listed c.args.set.0 (sym (c.bits.ensures tt) ∙ c.if-bits-eq0.true)) c.write_bytes.ensures

pub returns-in_err-write_pieces : goal.returns-in_err-write_pieces
returns-in_err-write_pieces g c =
    let rows = c.named_rights-right-items.result.now in
    let i = c.loop-right.right-index in
    let some = not-zero c.args.set.0 (λ none. c.if-bits-eq0.false (c.bits.ensures tt ∙ none)) in
    let left = parted (codes ",") (names_in c.args.set.0 (map row_seen (drop (i + 1) rows))) in
    let named = named-here c.args.set.0 rows i _ c.loop-right-test.true c.loop-right.separator.now c.as_bytes.result.now c.as_bytes.ensures.value
    (sym c.contains.ensures.computes ∙ c.if-contains.true) in
    written-as _ _ _ _ _ _ _ (rights-listed c.args.set.0 rows c.named_rights-right-items.ensures some)
    (subst (λ r. Writes r (g.W.Out.taken c.args.out.now) (g.W.Out.taken c.write_pieces.new.out)
    (g.W.Out.faults c.args.out.now) (g.W.Out.faults c.write_pieces.new.out) (parted [] (names_in c.args.set.0 (map row_seen rows)))) (sym (passed_on _ _ c.from_residual.ensures))
    (written-failed _ _ _ _ _ _ _ _ left (subst (Written _ _ _ _ _) named c.loop-right.invariant) c.in_err-write_pieces.field-0.0 c.in_err-write_pieces.ensures))

pub loop-right-preserved : goal.loop-right-preserved
loop-right-preserved g c =
    let rows = c.named_rights-right-items.result.now in
    let i = c.loop-right.right-index in
    let left = parted (codes ",") (names_in c.args.set.0 (map row_seen (drop (i + 1) rows))) in
    elim c.if-contains.branch [
      | then-contains+in_ok-write_pieces w ↦
          let named = named-here c.args.set.0 rows i _ c.loop-right-test.true c.loop-right.separator.now w.as_bytes.result.now w.as_bytes.ensures.value
          (sym c.contains.ensures.computes ∙ w.if-contains.true) in
          rw (w.out-is, w.separator-is)
          (written-next _ _ _ _ _ _ _ _ left (subst (Written _ _ _ _ _) named c.loop-right.invariant) tt w.in_ok-write_pieces.ensures)
      | else-contains w ↦
          let passed = passed-here c.args.set.0 rows i _ c.loop-right-test.true c.loop-right.separator.now (sym c.contains.ensures.computes ∙ w.if-contains.false) in
          rw (w.out-is, w.separator-is) (subst (Written _ _ _ _ _) passed c.loop-right.invariant)
    ]

pub returns : goal.returns
returns g c =
    let rows = c.named_rights-right-items.result.now in
    let some = not-zero c.args.set.0 (λ none. c.if-bits-eq0.false (c.bits.ensures tt ∙ none)) in
    written-as (Ok tt) _ _ _ _ _ _ (rights-listed c.args.set.0 rows c.named_rights-right-items.ensures some)
    (written-all _ _ _ _ _ tt (subst (Written _ _ _ _ _) (names-end c.args.set.0 rows c.loop-right.right-index _ c.loop-right-test.false) c.loop-right.invariant))
