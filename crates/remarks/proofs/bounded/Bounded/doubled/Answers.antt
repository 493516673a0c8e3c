use Rattle.std.proofs.Common.{◌∙◌, ap, sym}
use Rattle.std.specs.Prelude.{◌&&◌, not}
use Rattle.instruction_set.specs.Views.{code_of}
use Rattle.remarks.specs.RemarkViews.{bounds_of}
use Rattle.remarks.specs.Remarks.{closing_points, has_both, is_doubled, is_halt, is_there}
use Rattle.remarks.specs.Ways.{from_which, is_flagged, points}
use Rattle.remarks.proofs.Lists.{none_passes}
use Rattle.remarks.proofs.bounded.Bounded.doubled.Goals as goal

pub returns-then-not-any_point : goal.returns-then-not-any_point
returns-then-not-any_point c =
    let code = code_of c.args.self.now.code.now in
    let bounds = bounds_of c.args.self.now.bounds.items in
    let closed = from_which code (closing_points code bounds c.args.number) in
    let others = from_which code (closing_points code bounds c.args.other) in
    let both = has_both bounds c.args.number c.args.other in
    let none = sym c.any_point.ensures ∙ c.if-not-any_point.true in
    c.new.ensures.items ∙ sym (none_passes both (is_doubled code bounds closed others c.args.number c.args.other) (points code)
    (λ point lacks. ap (λ has. has && not (is_flagged closed point) && not (is_flagged others point) && not (is_there code is_halt point)) lacks) none)
