-- A number and its text in decimal digits, one from the other.
use Rattle.std.proofs.Common.{◌≡◌, ℕ, zero, suc, ◌^◌, ◌<◌, Bool, true, false, not, cond, List, [], ◌∷◌, length, get_or, decimal, refl, ap, sym, ◌∙◌, le-leb, leb-true, ne_eqb, arith}
use Rattle.std.specs.Prelude.{◌==◌, nat_le, Some, None}
use Rattle.std.specs.List.{list_all}
use Rattle.std.proofs.lemmas.Bool.{and_from, and_parts}
use Rattle.std.proofs.lemmas.Fmt.{decimal-digits_value, decimal_digit, digits_decimal, digits_value-decimal, first_decimal}
use Rattle.std.proofs.lemmas.Str.Parse.{IsNumeralModel, numerals_by_fold}
use Rattle.texts.specs.Bytes.{is_digit}
use Rattle.texts.specs.Numbers.{begins_well, is_number, number_of, value_from}
use Rattle.texts.proofs.NumberOrders.{number-is}

-- std's words for digits and what they stand for, and those of here
numeral : IsNumeralModel (λ digits. list_all is_digit digits ≡ true) (value_from 0)
numeral = numerals_by_fold _
    (record {
      empty = refl;
      parts = λ b digits is.
          let each = and_parts (is_digit b) (list_all is_digit digits) is in
          let ends = and_parts (nat_le 48 b) (nat_le b 57) each.0 in
          ((leb-true 48 b ends.0, leb-true b 57 ends.1), each.1);
      more = λ b digits within rest. and_from _ _ (and_from _ _ (le-leb 48 b within.0) (le-leb b 57 within.1)) rest;
    })
    value_from
    (record { empty = λ n. refl; more = λ n b digits within. refl })

-- The text of a number is digits.
pub digits-decimal : (n : ℕ) → n < 2 ^ 64 → list_all is_digit (decimal n) ≡ true
digits-decimal n small = digits_decimal numeral n small

-- a text that doesn't begin with a zero
begins-above : (word : List ℕ) → 48 < get_or word 0 0 → begins_well word ≡ true
begins-above [] above = absurd (omega (arith, above))
begins-above (b ∷ []) above = refl
begins-above (b ∷ c ∷ digits) above = ap not (ne_eqb b 48 (λ zero. omega (arith, above, zero)))

begins-decimal : (n : ℕ) → n < 2 ^ 64 → begins_well (decimal n) ≡ true
begins-decimal zero small = let none : 0 < 10 = omega arith in ap begins_well (decimal_digit 0 none)
begins-decimal (suc n) small = begins-above (decimal (suc n)) (first_decimal (suc n) (omega arith) small)

-- A number's text is read as that number.
pub number-decimal : (n : ℕ) → n < 2 ^ 64 → number_of (decimal n) ≡ Some n
number-decimal n small =
    number-is (decimal n) (and_from _ _ (begins-decimal n small) (digits-decimal n small)) ∙ ap Some (digits_value-decimal numeral n small)

-- a word that begins with a zero is one digit
one-zero : (word : List ℕ) → begins_well word ≡ true → get_or word 0 0 ≡ 48 → length word ≡ 1
one-zero [] well is = absurd cc
one-zero (b ∷ []) well is = refl
one-zero (b ∷ c ∷ digits) well is = absurd (go (ap (λ d. not (d == 48)) (sym is) ∙ well))
  where
    go : false ≡ true → ⊥
    go is = cc

some-digit : (word : List ℕ) → begins_well word ≡ true → 0 < length word
some-digit [] well = absurd cc
some-digit (b ∷ digits) well = omega arith

decimal-is : (word : List ℕ) → is_number word ≡ true → value_from 0 word < 2 ^ 64 → decimal (value_from 0 word) ≡ word
decimal-is word is small =
    let each = and_parts (begins_well word) (list_all is_digit word) is in
    decimal-digits_value numeral word each.1 (some-digit word each.0) (one-zero word each.0) small

-- A word that is read as a number is that number's text.
pub decimal-number : (word : List ℕ) (n : ℕ) → n < 2 ^ 64 → number_of word ≡ Some n → word ≡ decimal n
decimal-number word n small read = go (is_number word) refl read
  where
    go : (number : Bool) → is_number word ≡ number → cond number (Some (value_from 0 word)) None ≡ Some n → word ≡ decimal n
    go false is read = absurd cc
    go true is read =
        let value : value_from 0 word ≡ n = cc in
        sym (decimal-is word is (omega (arith, value, small))) ∙ ap decimal value
