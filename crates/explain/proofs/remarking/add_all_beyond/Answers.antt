use Rattle.std.proofs.Common.{◌≡◌, ◌++◌, ◌∙◌, ap, arith, map}
use Rattle.std.specs.List.{flat_map, range_with_len}
use Rattle.instruction_set.specs.Views.{code_of}
use Rattle.remarks.specs.Listed.{numbers}
use Rattle.remarks.specs.RemarkViews.{bounds_of}
use Rattle.task.specs.Views.{grants_of}
use Rattle.explain.specs.Observed.{beyond_by}
use Rattle.explain.specs.ObservedViews.{headed}
use Rattle.explain.proofs.Observing.{adds_one_more}
use Rattle.explain.proofs.remarking.add_all_beyond.Goals as goal

pub loop-number-preserved : goal.loop-number-preserved
loop-number-preserved c =
    adds_one_more (beyond_by c.args.wide (grants_of c.args.grants.now) (code_of c.args.code.now) (bounds_of c.args.bounds.now))
    c.loop-number.number c.args.list.now.items c.loop-number.list.items c.add_beyond.new.list.items
    c.loop-number.invariant c.in_ok-add_beyond.ensures

pub returns : goal.returns
unfolding numbers
returns c =
    let same : c.loop-number.number ≡ 16 = omega (arith, c.loop-number-test.false, c.loop-number.auto.number-end) in
    c.loop-number.invariant
    ∙ ap (λ n. map headed c.args.list.now.items
    ++ flat_map (beyond_by c.args.wide (grants_of c.args.grants.now) (code_of c.args.code.now) (bounds_of c.args.bounds.now)) (range_with_len 0 n)) same
