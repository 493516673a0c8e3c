-- A line of two numbers, as it is read in one pass.
use Rattle.std.proofs.Common.{◌≡◌, ℕ, ◌+◌, ◌-◌, ◌*◌, ◌<◌, ◌≤◌, true, false, List, [], ◌∷◌, ◌++◌, length, refl}
use Rattle.std.proofs.Common.{arith, ap, sym, ◌∙◌, append_assoc, append-nil, length-append, take, drop, get_or, le-leb, leb-true, ne_eqb, suc, add-one}
use Rattle.std.proofs.Math.Seq.{split_at}
use Rattle.std.specs.Prelude.{Some, None, ◌==◌, cond, nat_le}
use Rattle.std.specs.List.{list_all}
use Rattle.std.proofs.lemmas.Bool.{and_from, and_parts}
use Rattle.texts.specs.Bytes.{is_digit}
use Rattle.texts.specs.Numbers.{at_most, begins_well, number_of, value_from}
use Rattle.texts.specs.Parts.{parts, parts_from}
use Rattle.texts.proofs.NumberOrders.{number-is}
use Rattle.simulator.specs.Schedules.{event_of_words, event_with}
use Rattle.simulator.specs.FirstEvents.{BeginsWithEvent, BeginsWithNumber}

-- one digit more
pub value-more : (n : ℕ) (digits : List ℕ) (b : ℕ) → value_from n (digits ++ b ∷ []) ≡ value_from n digits * 10 + (b - 48)
value-more n [] b = refl
value-more n (d ∷ digits) b = value-more (n * 10 + (d - 48)) digits b

pub digit-below : (b : ℕ) → is_digit b ≡ true → b - 48 < 10
digit-below b is =
    let high : b ≤ 57 = leb-true b 57 (and_parts (nat_le 48 b) (nat_le b 57) is).1 in
    omega (arith, high)

-- a byte that is no digit is none of the digits
not-in : (separator b : ℕ) → is_digit separator ≡ false → is_digit b ≡ true → (b == separator) ≡ false
not-in separator b out inside = ne_eqb b separator (λ same. absurd (go (ap is_digit same)))
  where
    go : is_digit b ≡ is_digit separator → ⊥
    go same = let both : true ≡ false = sym inside ∙ same ∙ out in cc

-- digits belong to the part that has begun
past-digits : (separator : ℕ) (word rest begun : List ℕ) → is_digit separator ≡ false → list_all is_digit word ≡ true →
    parts_from separator (word ++ rest) begun ≡ parts_from separator rest (begun ++ word)
past-digits separator [] rest begun out inside = ap (parts_from separator rest) (sym (append-nil begun))
past-digits separator (b ∷ word) rest begun out inside =
    let each = and_parts (is_digit b) (list_all is_digit word) inside in
    ap (λ ends. cond ends (begun ∷ parts_from separator (word ++ rest) []) (parts_from separator (word ++ rest) (begun ++ b ∷ []))) (not-in separator b out each.0)
    ∙ past-digits separator word rest (begun ++ b ∷ []) out each.1
    ∙ ap (parts_from separator rest) (append_assoc begun (b ∷ []) word)

-- the words of a line of two numbers
two-words : (process input : List ℕ) → list_all is_digit process ≡ true → list_all is_digit input ≡ true → parts 32 (process ++ 32 ∷ input) ≡ process ∷ input ∷ []
two-words process input first second =
    past-digits 32 process (32 ∷ input) [] refl first
    ∙ ap (λ words. process ∷ words)
    (ap (λ text. parts 32 text) (sym (append-nil input)) ∙ past-digits 32 input [] [] refl second)

-- the line, and what is behind it
first-line : (process input rest : List ℕ) → list_all is_digit process ≡ true → list_all is_digit input ≡ true →
    parts 10 (process ++ 32 ∷ (input ++ 10 ∷ rest)) ≡ (process ++ 32 ∷ input) ∷ parts 10 rest
first-line process input rest first second =
    past-digits 10 process (32 ∷ (input ++ 10 ∷ rest)) [] refl first
    ∙ past-digits 10 input (10 ∷ rest) (process ++ 32 ∷ []) refl second
    ∙ ap (λ line. line ∷ parts 10 rest) (append_assoc process (32 ∷ []) input)

at-most : (limit n : ℕ) → n ≤ limit → at_most limit (Some n) ≡ Some n
at-most limit n low = ap (λ fits. cond fits (Some n) None) (le-leb n limit low)

pub plain-event : (text middle rest : List ℕ) (process input : ℕ) → BeginsWithNumber text 32 process middle → BeginsWithNumber middle 10 input rest →
    process ≤ 15 → input ≤ 255 → BeginsWithEvent text (record { process = process; input = input; refuse = false }) rest
plain-event text middle rest process input first second few byte =
    let text_is : text ≡ first.word ++ 32 ∷ (second.word ++ 10 ∷ rest) = first.text_is ∙ ap (λ t. first.word ++ 32 ∷ t) second.text_is in
    record {
      line = first.word ++ 32 ∷ second.word;
      parts_are = ap (parts 10) text_is ∙ first-line first.word second.word rest first.digits second.digits;
      event =
          ap event_of_words (two-words first.word second.word first.digits second.digits)
          ∙ ap (λ n. event_with false (at_most 15 n) (at_most 255 (number_of second.word))) first.value
          ∙ ap (λ n. event_with false (at_most 15 (Some process)) (at_most 255 n)) second.value
          ∙ ap (λ n. event_with false n (at_most 255 (Some input))) (at-most 15 process few)
          ∙ ap (event_with false (Some process)) (at-most 255 input byte);
      shorter = longer text_is;
    }
  where
    longer : text ≡ first.word ++ 32 ∷ (second.word ++ 10 ∷ rest) → length rest < length text
    longer is =
        let whole = ap length is ∙ length-append first.word (32 ∷ (second.word ++ 10 ∷ rest)) in
        let behind = length-append second.word (10 ∷ rest) in
        omega (arith, whole, behind)

-- the number that the text begins with
pub number-ends : (text : List ℕ) (end at number : ℕ) → at < length text → get_or text at 0 ≡ end → list_all is_digit (take at text) ≡ true →
    begins_well (take at text) ≡ true → number ≡ value_from 0 (take at text) → BeginsWithNumber text end number (drop (at + 1) text)
number-ends text end at number within is digits begins value = record {
  word = take at text;
  text_is = split_at text at 0 within ∙ ap (λ b. take at text ++ b ∷ drop (suc at) text) is ∙ ap (λ n. take at text ++ end ∷ drop n text) (sym (add-one at));
  digits = digits;
  value = number-is (take at text) (and_from _ _ begins digits) ∙ ap Some (sym value);
}
