-- What so many rounds of a step make: one that is taken first, and none that is left.
use Rattle.std.proofs.Common.{◌≡◌, ◌+◌, ◌-◌, ◌<◌, ◌≤◌, ℕ, zero, suc, ap, arith, refl, ◌∙◌}
use Rattle.remarks.specs.Ways.{rounds}

pub one_less : {X : Type 0} (step : X → X) (all taken : ℕ) (x : X) → taken < all
    → rounds step (all - taken) x ≡ rounds step (all - (taken + 1)) (step x)
unfolding rounds
one_less step all taken x below =
    let left : all - taken ≡ suc (all - (taken + 1)) = omega arith in
    ap (λ n. rounds step n x) left

pub none_left : {X : Type 0} (step : X → X) (all taken : ℕ) (x : X) → all ≤ taken → rounds step (all - taken) x ≡ x
unfolding rounds
none_left step all taken x done =
    let left : all - taken ≡ zero = omega arith in
    ap (λ n. rounds step n x) left

-- what a step doesn't change, no further ones do
pub settled : {X : Type 0} (step : X → X) (more : ℕ) (x : X) → step x ≡ x → rounds step more x ≡ x
unfolding rounds
settled step zero x same = refl
settled step (suc more) x same = ap (rounds step more) same ∙ settled step more x same
