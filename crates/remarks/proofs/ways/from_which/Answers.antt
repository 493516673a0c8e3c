use Rattle.std.proofs.Common.{◌≡◌, ◌+◌, ◌-◌, ◌<◌, ◌≤◌, ◌∙◌, length, sym, subst, ap}
use Rattle.instruction_set.specs.Views.{code_of}
use Rattle.remarks.specs.Ways.{or_before, rounds}
use Rattle.remarks.proofs.Steps.{none_left, one_less, settled}
use Rattle.remarks.proofs.ways.from_which.Goals as goal

pub loop-steps-preserved : goal.loop-steps-preserved
loop-steps-preserved c =
    let code = code_of c.args.code.now in
    let below : c.loop-steps.steps < length code = subst (λ n. c.loop-steps.steps < n) c.count-steps-end.ensures c.loop-steps-test.true in
    let stepped : c.in_ok-more.more.items ≡ or_before code c.loop-steps.found.items = c.in_ok-more.ensures ∙ ap (or_before code) c.deref.ensures.value in
    ap (rounds (or_before code) (length code - (c.loop-steps.steps + 1))) stepped
    ∙ sym (one_less (or_before code) (length code) c.loop-steps.steps c.loop-steps.found.items below) ∙ c.loop-steps.invariant

pub returns : goal.returns
returns c =
    let code = code_of c.args.code.now in
    let all : length code ≤ c.loop-steps.steps = subst (λ n. n ≤ c.loop-steps.steps) c.count-steps-end.ensures c.loop-steps-test.false in
    sym (none_left (or_before code) (length code) c.loop-steps.steps c.loop-steps.found.items all) ∙ c.loop-steps.invariant

pub returns-then-are_same : goal.returns-then-are_same
returns-then-are_same c =
    let code = code_of c.args.code.now in
    let found = c.loop-steps.found.items in
    let stepped : c.in_ok-more.more.items ≡ or_before code found = c.in_ok-more.ensures ∙ ap (or_before code) c.deref.ensures.value in
    let same : c.in_ok-more.more.items ≡ found =
    sym c.deref-in-loop-steps.ensures.value ∙ c.are_same.ensures c.if-are_same.true ∙ c.deref-in-loop-steps-2.ensures.value in
    sym (settled (or_before code) (length code - c.loop-steps.steps) found (sym stepped ∙ same)) ∙ c.loop-steps.invariant
