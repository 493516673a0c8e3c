use Rattle.std.proofs.Common.{◌∙◌, ap, arith, length, None, ◌∷◌, []}
use Rattle.std.proofs.lemmas.List.{length-append}
use Rattle.fd_table.specs.EntryViews.{entries_kept}
use Rattle.fd_table.proofs.Padding.{kept_more}
use Rattle.fd_table.proofs.entries.keep.Goals as goal

pub loop-at-preserved : goal.loop-at-preserved
loop-at-preserved c =
    let pushed = c.push_reserved.ensures.items in
    let count = ap length pushed ∙ length-append c.loop-at.kept.items (None ∷ []) in
    let before = c.loop-at.invariant.0 in
    let capacity = c.push_reserved.ensures.capacity in (
      omega (arith, count, before),
      (
        ap entries_kept pushed ∙ kept_more c.loop-at.kept.items (omega (arith, before, c.loop-at-test.true, c.requires.few)) ∙ c.loop-at.invariant.1.0,
        omega (arith, capacity, c.loop-at.invariant.1.1),
      ),
    )
