use Rattle.std.proofs.Common.{option_map, subst}
use Rattle.std.specs.Prelude.{OnOk, Option}
use Rattle.certificate.specs.Bounds.{Bound}
use Rattle.instruction_set.specs.Programs.{Instruction}
use Rattle.instruction_set.specs.Views.{instruction_of}
use Rattle.remarks.specs.Listed.{closed_there, never_open_at}
use Rattle.remarks.specs.RemarkViews.{AddsRemarks, bounds_of}
use Rattle.remarks.specs.Remarks.{bound_here}
use Rattle.remarks.proofs.bounded.Bounded.add_closed.Goals as goal

pub returns : goal.returns
unfolding never_open_at
returns c =
    let before = c.args.list.now.items in
    let after = c.add_closed_by.new.list.items in
    let point = c.args.point in
    subst (λ (i : Option Instruction). OnOk c.add_closed_by.result
    (AddsRemarks before after (closed_there point (bound_here (bounds_of c.args.self.now.bounds.items) point) i))) c.instruction_at.ensures
    (subst (λ (b : Option Bound). OnOk c.add_closed_by.result
    (AddsRemarks before after (closed_there point b (option_map (λ i. instruction_of i.now) c.instruction_at.result)))) c.bound_here.ensures
    c.add_closed_by.ensures)
