use Rattle.std.proofs.Common.{◌≡◌, ◌++◌, ◌∙◌, ap, arith, map}
use Rattle.std.specs.List.{flat_map, range_with_len}
use Rattle.instruction_set.specs.Views.{code_of}
use Rattle.remarks.specs.Listed.{numbers, on_numbers}
use Rattle.remarks.specs.RemarkViews.{bounds_of, remarked_of}
use Rattle.remarks.proofs.Listing.{adds_one_more}
use Rattle.remarks.proofs.bounded.Bounded.add_pairs.Goals as goal

pub loop-number-preserved : goal.loop-number-preserved
loop-number-preserved c =
    adds_one_more (λ n. flat_map (on_numbers (code_of c.args.self.now.code.now) (bounds_of c.args.self.now.bounds.items) n) numbers)
    c.loop-number.number c.args.list.now.items c.loop-number.list.items c.add_others.new.list.items
    c.loop-number.invariant c.in_ok-add_others.ensures

pub returns : goal.returns
unfolding numbers
returns c =
    let same : c.loop-number.number ≡ 16 = omega (arith, c.loop-number-test.false, c.loop-number.auto.number-end) in
    c.loop-number.invariant
    ∙ ap (λ all. map remarked_of c.args.list.now.items
    ++ flat_map (λ n. flat_map (on_numbers (code_of c.args.self.now.code.now) (bounds_of c.args.self.now.bounds.items) n) numbers) (range_with_len 0 all)) same
