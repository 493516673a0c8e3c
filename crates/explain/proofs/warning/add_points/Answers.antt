use Rattle.std.proofs.Common.{◌++◌, ◌∙◌, ap, map, sym, take}
use Rattle.remarks.specs.RemarkViews.{warned_of}
use Rattle.explain.specs.Observed.{warned_from, warned_there}
use Rattle.explain.specs.ObservedViews.{headed}
use Rattle.explain.proofs.Observing.{adds_both, taken_more}
use Rattle.explain.proofs.warning.add_points.Goals as goal

pub loop-point-preserved : goal.loop-point-preserved
loop-point-preserved c =
    let point = c.loop-point.point in
    let warnings = c.index-of_points-point.result in
    adds_both c.args.list.now.items c.loop-point.list.items c.add_point.new.list.items
    (warned_from 0 (map warned_of (take point c.args.of_points.now))) (warned_there point (warned_of warnings))
    c.loop-point.invariant c.in_ok-add_point.ensures
    ∙ ap (λ more. map headed c.args.list.now.items ++ more)
    (sym (taken_more warned_of c.args.of_points.now warnings point c.loop-point-test.true c.index-of_points-point.is))
