use Rattle.std.proofs.Common.{length, ap, sym, ◌∙◌}
use Rattle.std.specs.Prelude.{Some}
use Rattle.std.specs.Ordering.{nat_cmp, ordering_then}
use Rattle.texts.proofs.NumberOrders.{both-compared}
use Rattle.texts.proofs.numbers.compare_numbers.Goals as goal

pub returns : goal.returns
returns c =
    let left = c.args.left.now in
    let right = c.args.right.now in
    ap Some
    (c.then.ensures ∙ ap (λ o. ordering_then o c.cmp-2.result) c.cmp.ensures
    ∙ ap (ordering_then (nat_cmp (length left) (length right))) c.cmp-2.ensures)
    ∙ both-compared left right (sym c.is_number.ensures ∙ c.if-not-is_number.false) (sym c.is_number-else-not-is_number.ensures ∙ c.if-not-is_number-2.false)
