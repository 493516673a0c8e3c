use Rattle.std.proofs.Common.{◌≡◌, ◌+◌, ◌-◌, ◌<◌, ◌≤◌, ◌∙◌, length, map, sym, subst, ap}
use Rattle.instruction_set.specs.Views.{code_of}
use Rattle.remarks.specs.RemarkViews.{uses_seen}
use Rattle.remarks.specs.Uses.{or_later}
use Rattle.remarks.specs.Ways.{rounds}
use Rattle.remarks.proofs.Steps.{none_left, one_less, settled}
use Rattle.remarks.proofs.reaching.uses_ahead.Goals as goal

pub loop-taken-preserved : goal.loop-taken-preserved
loop-taken-preserved c =
    let code = code_of c.args.code.now in
    let found = map uses_seen c.loop-taken.found.items in
    let below : c.loop-taken.taken < length code = subst (λ n. c.loop-taken.taken < n) c.count-taken-end.ensures c.loop-taken-test.true in
    let stepped : map uses_seen c.in_ok-more.more.items ≡ or_later code found =
    c.in_ok-more.ensures ∙ ap (λ uses. or_later code (map uses_seen uses)) c.deref.ensures.value in
    ap (rounds (or_later code) (length code - (c.loop-taken.taken + 1))) stepped ∙ sym (one_less (or_later code) (length code) c.loop-taken.taken found below)
    ∙ c.loop-taken.invariant

pub returns : goal.returns
returns c =
    let code = code_of c.args.code.now in
    let all : length code ≤ c.loop-taken.taken = subst (λ n. n ≤ c.loop-taken.taken) c.count-taken-end.ensures c.loop-taken-test.false in
    sym (none_left (or_later code) (length code) c.loop-taken.taken (map uses_seen c.loop-taken.found.items) all) ∙ c.loop-taken.invariant

pub returns-then-are_same : goal.returns-then-are_same
returns-then-are_same c =
    let code = code_of c.args.code.now in
    let found = map uses_seen c.loop-taken.found.items in
    let stepped : map uses_seen c.in_ok-more.more.items ≡ or_later code found =
    c.in_ok-more.ensures ∙ ap (λ uses. or_later code (map uses_seen uses)) c.deref.ensures.value in
    let same : map uses_seen c.in_ok-more.more.items ≡ found =
    ap (map uses_seen) (sym c.deref-in-loop-taken.ensures.value) ∙ c.are_same.ensures c.if-are_same.true ∙ ap (map uses_seen) c.deref-in-loop-taken-2.ensures.value in
    sym (settled (or_later code) (length code - c.loop-taken.taken) found (sym stepped ∙ same)) ∙ c.loop-taken.invariant
