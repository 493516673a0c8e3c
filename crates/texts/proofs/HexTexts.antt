-- A number and its text in hexadecimal digits, one from the other.
use Rattle.std.proofs.Common.{◌≡◌, ℕ, zero, suc, ◌+◌, ◌*◌, ◌/◌, ◌%◌, ◌^◌, ◌<◌, refl, ap, sym, ◌∙◌, subst, subst₂, append_assoc, append-nil, length-append, eqb-true, eq-eqb, arith}
use Rattle.std.specs.Prelude.{◌==◌, ◌&&◌, Bool, true, false, cond, List, [], ◌∷◌, ◌++◌, length, Some, None}
use Rattle.std.specs.List.{list_all}
use Rattle.std.proofs.lemmas.Bool.{and_from, and_parts}
use Rattle.std.proofs.lemmas.Bool.Decides.{nat_tests}
use Rattle.std.proofs.lemmas.List.Folds.{list_all-append}
use Rattle.texts.specs.Hex.{hex_digit, hex_from, hex_of, hex_text, hex_value, is_hex_digit}

-- one digit

pub digit-is : (n : ℕ) → n < 16 → is_hex_digit (hex_digit n) ≡ true
digit-is n small = grind (arith, nat_tests)

digit-value : (n : ℕ) → n < 16 → hex_value (hex_digit n) ≡ n
digit-value n small = grind (arith, nat_tests)

value-digit : (b : ℕ) → is_hex_digit b ≡ true → hex_digit (hex_value b) ≡ b
value-digit b is = grind (arith, nat_tests)

value-small : (b : ℕ) → is_hex_digit b ≡ true → hex_value b < 16
value-small b is = grind (arith, nat_tests)

-- texts

length-hex : (count n : ℕ) → length (hex_text count n) ≡ count
length-hex zero n = refl
length-hex (suc count) n = length-append (hex_text count (n / 16)) (hex_digit (n % 16) ∷ []) ∙ omega (arith, length-hex count (n / 16))

-- The text of a number is digits 0 to 9 and a to f.
pub digits-hex : (count n : ℕ) → list_all is_hex_digit (hex_text count n) ≡ true
digits-hex zero n = refl
digits-hex (suc count) n =
    let small : n % 16 < 16 = omega arith in
    list_all-append is_hex_digit (hex_text count (n / 16)) (hex_digit (n % 16) ∷ [])
    ∙ and_from _ _ (digits-hex count (n / 16)) (and_from _ _ (digit-is (n % 16) small) refl)

hex-from-last : (n b : ℕ) (digits : List ℕ) → hex_from n (digits ++ b ∷ []) ≡ hex_from n digits * 16 + hex_value b
hex-from-last n b [] = refl
hex-from-last n b (d ∷ digits) = hex-from-last (n * 16 + hex_value d) b digits

value-hex : (count n : ℕ) → n < 16 ^ count → hex_from 0 (hex_text count n) ≡ n
value-hex zero n small = omega (arith, small)
value-hex (suc count) n small =
    let low : n % 16 < 16 = omega arith in
    let front : n / 16 < 16 ^ count = omega (arith, small) in
    let whole : n / 16 * 16 + n % 16 ≡ n = omega arith in
    hex-from-last 0 (hex_digit (n % 16)) (hex_text count (n / 16))
    ∙ (λ i. value-hex count (n / 16) front i * 16 + digit-value (n % 16) low i) ∙ whole

hex-is : (count : ℕ) (word : List ℕ) → length word ≡ count → list_all is_hex_digit word ≡ true → hex_of count word ≡ Some (hex_from 0 word)
hex-is count word long digits =
    ap (λ (b : Bool). cond b (Some (hex_from 0 word)) None) (and_from _ _ (eq-eqb (length word) count long) digits)

-- A number's text of so many digits is read as that number, if they are enough.
pub hex-back : (count n : ℕ) → n < 16 ^ count → hex_of count (hex_text count n) ≡ Some n
hex-back count n small = hex-is count (hex_text count n) (length-hex count n) (digits-hex count n) ∙ ap Some (value-hex count n small)

-- digits behind the text of a number
text-from : (count n : ℕ) (digits : List ℕ) → list_all is_hex_digit digits ≡ true
    → hex_text (count + length digits) (hex_from n digits) ≡ hex_text count n ++ digits
text-from count n [] is =
    let none : count + 0 ≡ count = omega arith in
    ap (λ c. hex_text c n) none ∙ sym (append-nil (hex_text count n))
text-from count n (b ∷ digits) is =
    let each = and_parts (is_hex_digit b) (list_all is_hex_digit digits) is in
    let m : ℕ = n * 16 + hex_value b in
    let low = value-small b each.0 in
    let front : m / 16 ≡ n = omega (arith, low) in
    let last : m % 16 ≡ hex_value b = omega (arith, low) in
    let long : count + suc (length digits) ≡ suc count + length digits = omega arith in
    ap (λ c. hex_text c (hex_from m digits)) long ∙ text-from (suc count) m digits each.1
    ∙ (λ i. (hex_text count (front i) ++ (ap hex_digit last ∙ value-digit b each.0) i ∷ []) ++ digits)
    ∙ append_assoc (hex_text count n) (b ∷ []) digits

-- so many digits behind a number below so many
from-small : (count n : ℕ) (digits : List ℕ) → n < 16 ^ count → list_all is_hex_digit digits ≡ true → hex_from n digits < 16 ^ (count + length digits)
from-small count n [] small is = subst (λ c. n < 16 ^ c) {x = count} (omega arith) small
from-small count n (b ∷ digits) small is =
    let each = and_parts (is_hex_digit b) (list_all is_hex_digit digits) is in
    let m : ℕ = n * 16 + hex_value b in
    let low = value-small b each.0 in
    let below : m < 16 ^ suc count = omega (arith, low, small) in
    let long : suc count + length digits ≡ count + suc (length digits) = omega arith in
    subst (λ c. hex_from m digits < 16 ^ c) long (from-small (suc count) m digits below each.1)

-- what a word is that is read as a number
pub record Reads (count : ℕ) (word : List ℕ) (n : ℕ) : Type 0 where
  pub long : length word ≡ count
  pub digits : list_all is_hex_digit word ≡ true
  pub value : hex_from 0 word ≡ n

reads : (count : ℕ) (word : List ℕ) (n : ℕ) → hex_of count word ≡ Some n → Reads count word n
reads count word n read = go ((length word == count) && list_all is_hex_digit word) refl read
  where
    go : (is : Bool) → ((length word == count) && list_all is_hex_digit word) ≡ is → cond is (Some (hex_from 0 word)) None ≡ Some n → Reads count word n
    go false is read = absurd cc
    go true is read =
        let each = and_parts (length word == count) (list_all is_hex_digit word) is in
        record { long = eqb-true (length word) count each.0; digits = each.1; value = cc }

-- A word that is read as a number is that number's text, and the number is below what so many digits can say.
pub hex-text : (count : ℕ) (word : List ℕ) (n : ℕ) → hex_of count word ≡ Some n → (word ≡ hex_text count n) × (n < 16 ^ count)
hex-text count word n read =
    let is = reads count word n read in
    let none : 0 < 16 ^ 0 = omega arith in
    let long : 0 + length word ≡ count = omega (arith, is.long) in (
      sym (text-from 0 0 word is.digits) ∙ (λ i. hex_text (long i) (is.value i)),
      subst₂ (λ m c. m < 16 ^ c) is.value long (from-small 0 0 word none is.digits),
    )
