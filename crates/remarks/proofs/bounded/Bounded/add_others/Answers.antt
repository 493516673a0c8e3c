use Rattle.std.proofs.Common.{◌≡◌, ◌++◌, ◌∙◌, ap, arith, map}
use Rattle.std.specs.List.{flat_map, range_with_len}
use Rattle.instruction_set.specs.Views.{code_of}
use Rattle.remarks.specs.Listed.{numbers, on_numbers}
use Rattle.remarks.specs.RemarkViews.{bounds_of, remarked_of}
use Rattle.remarks.proofs.Listing.{adds_one_more}
use Rattle.remarks.proofs.bounded.Bounded.add_others.Goals as goal

pub loop-other-preserved : goal.loop-other-preserved
loop-other-preserved c =
    adds_one_more (on_numbers (code_of c.args.self.now.code.now) (bounds_of c.args.self.now.bounds.items) c.args.number)
    c.loop-other.other c.args.list.now.items c.loop-other.list.items c.add_both.new.list.items
    c.loop-other.invariant c.in_ok-add_both.ensures

pub returns : goal.returns
unfolding numbers
returns c =
    let same : c.loop-other.other ≡ 16 = omega (arith, c.loop-other-test.false, c.loop-other.auto.other-end) in
    c.loop-other.invariant
    ∙ ap (λ n. map remarked_of c.args.list.now.items ++ flat_map (on_numbers (code_of c.args.self.now.code.now) (bounds_of c.args.self.now.bounds.items) c.args.number) (range_with_len 0 n)) same
