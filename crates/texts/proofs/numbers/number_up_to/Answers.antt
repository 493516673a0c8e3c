use Rattle.std.proofs.Common.{suc, ◌+◌, ◌-◌, ◌*◌, ◌<◌, ap, sym, ◌∙◌, arith, drop, drop-cons}
use Rattle.std.specs.List.{slice_index_or}
use Rattle.texts.specs.Numbers.{value_from}
use Rattle.texts.proofs.NumberOrders.{past-limit}
use Rattle.texts.proofs.numbers.number_up_to.Goals as goal

pub returns-then-number-from-clause-value : goal.returns-then-number-from-clause-value
returns-then-number-from-clause-value c =
    let word = c.args.word.now in
    let i = c.loop-byte.byte-index in
    let limit = c.args.limit in
    let b = slice_index_or word i 0 in
    let n = c.loop-byte.number in
    let past : limit < n * 10 + (b - 48) = omega (arith, c.if-number-from.true, c.from.ensures, c.from-in-loop-byte.ensures) in
    sym (past-limit limit (n * 10 + (b - 48)) word (drop (suc i) word) (sym c.is_number.ensures ∙ c.if-not-is_number.false)
    (sym (ap (value_from n) (drop-cons word i 0 c.loop-byte-test.true)) ∙ c.loop-byte.invariant.read) past)
