-- A number's digits, appended at once where they are few.
use Rattle.std.proofs.Common.{◌≡◌, ℕ, ◌+◌, ◌-◌, ◌*◌, ◌<◌, ◌≤◌, ◌/◌, ◌%◌, ◌^◌, List, [], ◌∷◌, ◌++◌, append_assoc, ap, sym, ◌∙◌, arith}
use Rattle.std.specs.Fmt.{decimal}
use Rattle.std.proofs.lemmas.Fmt.{decimal_digit, decimal_step}

pub one_digit : (n : ℕ) (before : List ℕ) → n < 10 → before ++ (48 + n) ∷ [] ≡ before ++ decimal n
one_digit n before low = ap (λ t. before ++ t) (sym (decimal_digit n low))

-- the last digit, behind those of the tens
behind_tens : (n : ℕ) → 10 ≤ n → n < 2 ^ 64 → decimal n ≡ decimal (n / 10) ++ (48 + (n - n / 10 * 10)) ∷ []
behind_tens n high fits =
    let same : n % 10 ≡ n - n / 10 * 10 = omega arith in
    decimal_step n high fits ∙ ap (λ d. decimal (n / 10) ++ (48 + d) ∷ []) same

-- the last two, behind those of the hundreds
behind_hundreds : (n : ℕ) → 100 ≤ n → n < 2 ^ 64
    → decimal n ≡ decimal (n / 10 / 10) ++ (48 + (n / 10 - n / 10 / 10 * 10)) ∷ (48 + (n - n / 10 * 10)) ∷ []
behind_hundreds n high fits =
    let tens : 10 ≤ n / 10 = omega arith in
    let fit : n / 10 < 2 ^ 64 = omega arith in
    behind_tens n (omega arith) fits
    ∙ ap (λ t. t ++ (48 + (n - n / 10 * 10)) ∷ []) (behind_tens (n / 10) tens fit)
    ∙ append_assoc (decimal (n / 10 / 10)) ((48 + (n / 10 - n / 10 / 10 * 10)) ∷ []) ((48 + (n - n / 10 * 10)) ∷ [])

pub two_digits : (n : ℕ) (before : List ℕ) → 10 ≤ n → n < 100 → before ++ (48 + n / 10) ∷ (48 + (n - n / 10 * 10)) ∷ [] ≡ before ++ decimal n
two_digits n before high low =
    let digit : n / 10 < 10 = omega arith in
    ap (λ t. before ++ t) (sym (behind_tens n high (omega arith) ∙ ap (λ t. t ++ (48 + (n - n / 10 * 10)) ∷ []) (decimal_digit (n / 10) digit)))

pub three_digits : (n : ℕ) (before : List ℕ) → 100 ≤ n → n < 1000
    → before ++ (48 + n / 10 / 10) ∷ (48 + (n / 10 - n / 10 / 10 * 10)) ∷ (48 + (n - n / 10 * 10)) ∷ [] ≡ before ++ decimal n
three_digits n before high low =
    let digit : n / 10 / 10 < 10 = omega arith in
    ap (λ t. before ++ t) (sym (behind_hundreds n high (omega arith)
    ∙ ap (λ t. t ++ (48 + (n / 10 - n / 10 / 10 * 10)) ∷ (48 + (n - n / 10 * 10)) ∷ []) (decimal_digit (n / 10 / 10) digit)))

pub last_two : (n : ℕ) (before so_far : List ℕ) → 100 ≤ n → n < 2 ^ 64 → so_far ≡ before ++ decimal (n / 10 / 10)
    → so_far ++ (48 + (n / 10 - n / 10 / 10 * 10)) ∷ (48 + (n - n / 10 * 10)) ∷ [] ≡ before ++ decimal n
last_two n before so_far high fits is =
    let more = (48 + (n / 10 - n / 10 / 10 * 10)) ∷ (48 + (n - n / 10 * 10)) ∷ [] in
    ap (λ t. t ++ more) is ∙ append_assoc before (decimal (n / 10 / 10)) more ∙ ap (λ t. before ++ t) (sym (behind_hundreds n high fits))
