-- The digits of a number, written from the lowest one on.
use Rattle.std.proofs.Common.{◌≡◌, ℕ, zero, suc, subst, ◌+◌, ◌-◌, ◌/◌, ◌%◌, ◌^◌, ◌<◌, ◌≤◌, List, [], ◌∷◌, ◌++◌, length, drop, set, decimal, ap, sym, ◌∙◌, append_assoc, arith}
use Rattle.std.proofs.lemmas.Fmt.{decimal_digit, decimal_step}
use Rattle.std.proofs.lemmas.List.{drop-set}

-- a byte put before those that are written
put-before : (digits : List ℕ) (start digit : ℕ) → 0 < start → start ≤ length digits → drop (start - 1) (set digits (start - 1) digit) ≡ digit ∷ drop start digits
put-before digits start digit some room =
    let behind : start - 1 + 1 ≡ start = omega (arith, some) in
    drop-set digits (start - 1) digit (omega (arith, some, room)) ∙ ap (λ at. digit ∷ drop at digits) behind

-- the lowest digit of a number with more
pub lowest-digit : (n start : ℕ) (digits : List ℕ) → 10 ≤ n → n < 2 ^ 32 → 0 < start → start ≤ length digits
    → decimal (n / 10) ++ drop (start - 1) (set digits (start - 1) (48 + n % 10)) ≡ decimal n ++ drop start digits
lowest-digit n start digits more small some room =
    ap (λ written. decimal (n / 10) ++ written) (put-before digits start (48 + n % 10) some room)
    ∙ sym (append_assoc (decimal (n / 10)) ((48 + n % 10) ∷ []) (drop start digits))
    ∙ ap (λ text. text ++ drop start digits) (sym (decimal_step n more (omega (arith, small))))

-- the highest digit
pub highest-digit : (n start : ℕ) (digits : List ℕ) → n < 10 → 0 < start → start ≤ length digits
    → drop (start - 1) (set digits (start - 1) (48 + n)) ≡ decimal n ++ drop start digits
highest-digit n start digits one some room =
    put-before digits start (48 + n) some room ∙ ap (λ text. text ++ drop start digits) (sym (decimal_digit n one))

-- what is left has room before the digit
pub fits-before : (n start : ℕ) → 10 ≤ n → n < 10 ^ start → (0 < start - 1) × (n / 10 < 10 ^ (start - 1))
fits-before n zero more fits = absurd (omega (arith, more, fits))
fits-before n (suc zero) more fits = absurd (omega (arith, more, fits))
fits-before n (suc (suc start)) more fits =
    let behind : suc (suc start) - 1 ≡ suc start = omega arith in
    (omega arith, subst (λ m. n / 10 < 10 ^ m) (sym behind) (omega (arith, fits)))
