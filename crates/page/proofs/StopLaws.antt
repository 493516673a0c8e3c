-- Numbers that rise, one more behind them.
use Rattle.std.proofs.Common.{◌≡◌, ◌+◌, ◌<◌, ◌≤◌, ℕ, All, Bool, List, [], ◌∷◌, ◌++◌, ap, get_or, length, subst, arith}
use Rattle.std.specs.Prelude.{cond}
use Rattle.std.specs.List.{AllPairs}
use Rattle.page.proofs.Pushes.{all-push, pairs-push}

abbrev pub Rises : List ℕ → Type 0
Rises xs = AllPairs (λ p q. p + 4 ≤ q) xs

abbrev pub Before : List ℕ → ℕ → Type 0
Before xs next = All (λ p. p + 4 ≤ next) xs

pub rises-push : (before after : List ℕ) (next stop : ℕ) (ok : Bool) → after ≡ cond ok (before ++ stop ∷ []) before → Rises before → Before before next → next ≤ stop
    → Rises after
rises-push before after next stop ok is rise below above =
    pairs-push (λ p q. p + 4 ≤ q) before after stop ok is rise (λ k d small. let one = below k d small in omega (arith, one, above))

pub before-push : (before after : List ℕ) (next stop : ℕ) (ok : Bool) → after ≡ cond ok (before ++ stop ∷ []) before → Before before next → next ≤ stop
    → Before after (stop + 4)
before-push before after next stop ok is below above =
    all-push (λ p. p + 4 ≤ stop + 4) before after stop ok is (λ k d small. let one = below k d small in omega (arith, one, above)) (omega arith)

-- Each number behind one may come next when that has, and so may what is past the last.
pub next-fits : (xs ys : List ℕ) (i k higher next : ℕ) → ys ≡ xs → Rises xs → next ≤ higher + get_or ys i 0 + 4 → i + 1 ≤ k → k < length xs → next ≤ higher + get_or xs k 0
next-fits xs ys i k higher next same rise near after within =
    let far : get_or xs i 0 + 4 ≤ get_or xs k 0 = rise i k 0 (omega arith) within in
    let is : get_or ys i 0 ≡ get_or xs i 0 = ap (λ list. get_or list i 0) same in
    omega (arith, far, is, near)

pub last-fits : (xs ys : List ℕ) (i higher height next last : ℕ) → ys ≡ xs → Before xs last → last ≤ height → next ≤ higher + get_or ys i 0 + 4 → i < length ys
    → next ≤ higher + height
last-fits xs ys i higher height next last same below end near within =
    let small : i < length xs = subst (λ (list : List ℕ). i < length list) same within in
    let one : get_or xs i 0 + 4 ≤ last = below i 0 small in
    let is : get_or ys i 0 ≡ get_or xs i 0 = ap (λ list. get_or list i 0) same in
    omega (arith, one, is, near, end)
