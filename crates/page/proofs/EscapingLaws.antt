-- What is shown of a letter, in bytes.
use Rattle.std.proofs.Common.{◌≡◌, ◌/◌, ◌%◌, ◌<◌, ◌≤◌, ℕ, zero, suc, Bool, true, false, List, [], ◌∷◌, ◌++◌, refl, ap, sym, ◌∙◌, subst, append-nil, arith}
use Rattle.std.specs.Prelude.{◌==◌, cond, codes, nat_lt}
use Rattle.std.specs.List.{flat_map}
use Rattle.std.specs.Str.{IsUtf8, chars, encode_utf8_all, is_utf8}
use Rattle.std.proofs.lemmas.Grind.{flat_map-append}
use Rattle.std.proofs.lemmas.Str.{IsUtf8-from_is_utf8, encode_ascii, encodes-append, is_utf8-from_IsUtf8}
use Rattle.std.proofs.lemmas.Bool.Decides.{nat_tests}
use lib.Utf8.{encode}
use Rattle.texts.specs.Hex.{hex_digit, hex_text}
use Rattle.texts.specs.PageViews.{Adds}
use Rattle.texts.specs.declared.pages.Page.{Page}
use Rattle.page.specs.Escaping.{code_letters, is_hidden, seen_letter, escaped, shown_byte, shown_letter}

-- A text that is the same as another is added like that.
pub adds-same : (before after : Page) (text same : List ℕ) → Adds before after text → text ≡ same → Adds before after same
adds-same before after text same adds is = subst (Adds before after) is adds

-- ASCII's letters are their bytes

encodes-both : (a b : List ℕ) → encode_utf8_all a ≡ a → encode_utf8_all b ≡ b → encode_utf8_all (a ++ b) ≡ a ++ b
encodes-both a b is also = encodes-append a b ∙ (λ i. is i ++ also i)

encodes-one : (c : ℕ) → c < 128 → encode_utf8_all (c ∷ []) ≡ c ∷ []
encodes-one c small = ap (λ bytes. bytes ++ []) (encode_ascii c small)

digit-small : (n : ℕ) → n < 16 → hex_digit n < 128
digit-small n small = grind (arith, nat_tests)

encodes-hex : (count n : ℕ) → encode_utf8_all (hex_text count n) ≡ hex_text count n
encodes-hex zero n = refl
encodes-hex (suc count) n =
    let low : n % 16 < 16 = omega arith in
    encodes-both (hex_text count (n / 16)) (hex_digit (n % 16) ∷ []) (encodes-hex count (n / 16)) (encodes-one (hex_digit (n % 16)) (digit-small (n % 16) low))

encodes-codes : (a : List ℕ) (c : ℕ) → encode_utf8_all a ≡ a → c < 128 → encode_utf8_all (c ∷ a) ≡ c ∷ a
encodes-codes a c is small = (λ i. encode_ascii c small i ++ is i)

encodes-number-front : encode_utf8_all (codes "\\u{") ≡ codes "\\u{"
unfolding encode
encodes-number-front = refl

encodes-byte-front : encode_utf8_all (codes "\\x{") ≡ codes "\\x{"
unfolding encode
encodes-byte-front = refl

encodes-end : encode_utf8_all (codes "}") ≡ codes "}"
unfolding encode
encodes-end = refl

-- the number of a letter

abbrev with_digits : Bool → ℕ → List ℕ
with_digits short c = codes "\\u{" ++ (cond short [] (hex_text 2 (c / 0x1_0000)) ++ (hex_text 4 (c % 0x1_0000) ++ codes "}"))

code-is : (c : ℕ) → with_digits (nat_lt c 0x1_0000) c ≡ code_letters c
unfolding code_letters
code-is c = refl

encodes-digits : (short : Bool) (c : ℕ) → encode_utf8_all (with_digits short c) ≡ with_digits short c
encodes-digits short c =
    encodes-both (codes "\\u{") (cond short [] (hex_text 2 (c / 0x1_0000)) ++ (hex_text 4 (c % 0x1_0000) ++ codes "}")) encodes-number-front
    (encodes-both (cond short [] (hex_text 2 (c / 0x1_0000))) (hex_text 4 (c % 0x1_0000) ++ codes "}") (go short)
    (encodes-both (hex_text 4 (c % 0x1_0000)) (codes "}") (encodes-hex 4 (c % 0x1_0000)) encodes-end))
  where
    go : (b : Bool) → encode_utf8_all (cond b [] (hex_text 2 (c / 0x1_0000))) ≡ cond b [] (hex_text 2 (c / 0x1_0000))
    go true = refl
    go false = encodes-hex 2 (c / 0x1_0000)

code-said : (short : Bool) (c : ℕ) → nat_lt c 0x1_0000 ≡ short → with_digits short c ≡ encode_utf8_all (code_letters c)
code-said short c is = sym (encodes-digits short c) ∙ ap encode_utf8_all (ap (λ b. with_digits b c) (sym is) ∙ code-is c)

pub code-short : (c : ℕ) (low : List ℕ) → c < 0x1_0000 → low ≡ hex_text 4 (c % 0x1_0000) → codes "\\u{" ++ (low ++ codes "}") ≡ encode_utf8_all (code_letters c)
code-short c low small is = ap (λ d. codes "\\u{" ++ (d ++ codes "}")) is ∙ code-said true c (is-less c small)
  where
    is-less : (n : ℕ) → n < 0x1_0000 → nat_lt n 0x1_0000 ≡ true
    is-less n h = grind (arith, nat_tests)

pub code-long : (c : ℕ) (high low : List ℕ) → 0x1_0000 ≤ c → high ≡ hex_text 2 (c / 0x1_0000) → low ≡ hex_text 4 (c % 0x1_0000)
    → codes "\\u{" ++ (high ++ (low ++ codes "}")) ≡ encode_utf8_all (code_letters c)
code-long c high low large is also = (λ i. codes "\\u{" ++ (is i ++ (also i ++ codes "}"))) ∙ code-said false c (is-more c large)
  where
    is-more : (n : ℕ) → 0x1_0000 ≤ n → nat_lt n 0x1_0000 ≡ false
    is-more n h = grind (arith, nat_tests)

-- letters that may be markup

pub shown-ampersand : (c : ℕ) → c ≡ 38 → codes "&amp;" ≡ encode_utf8_all (shown_letter c)
unfolding shown_letter encode
shown-ampersand c is = ap (λ n. encode_utf8_all (shown_letter n)) (sym is)

pub shown-less : (c : ℕ) → c ≡ 60 → codes "&lt;" ≡ encode_utf8_all (shown_letter c)
unfolding shown_letter encode
shown-less c is = ap (λ n. encode_utf8_all (shown_letter n)) (sym is)

pub shown-more : (c : ℕ) → c ≡ 62 → codes "&gt;" ≡ encode_utf8_all (shown_letter c)
unfolding shown_letter encode
shown-more c is = ap (λ n. encode_utf8_all (shown_letter n)) (sym is)

pub shown-quote : (c : ℕ) → c ≡ 34 → codes "&quot;" ≡ encode_utf8_all (shown_letter c)
unfolding shown_letter encode
shown-quote c is = ap (λ n. encode_utf8_all (shown_letter n)) (sym is)

-- any other

pub shown-other : (c : ℕ) → (c ≡ 38 → ⊥) → (c ≡ 60 → ⊥) → (c ≡ 62 → ⊥) → (c ≡ 34 → ⊥) → seen_letter c ≡ shown_letter c
unfolding shown_letter
shown-other c a b d e =
    (λ i. cond (sym (other c 38 a) i) (codes "&amp;") (cond (sym (other c 60 b) i) (codes "&lt;") (cond (sym (other c 62 d) i) (codes "&gt;")
    (cond (sym (other c 34 e) i) (codes "&quot;") (seen_letter c)))))
  where
    other : (m n : ℕ) → (m ≡ n → ⊥) → (m == n) ≡ false
    other m n h = grind (arith, nat_tests)

pub seen-hidden : (c d : ℕ) → d ≡ c → is_hidden d ≡ true → encode_utf8_all (code_letters d) ≡ encode_utf8_all (seen_letter c)
unfolding seen_letter
seen-hidden c d is hidden =
    ap (λ n. encode_utf8_all (code_letters n)) is
    ∙ ap (λ (b : Bool). encode_utf8_all (cond b (code_letters c) (c ∷ []))) (sym (sym (ap is_hidden is) ∙ hidden))

pub seen-plain : (c d : ℕ) (bytes : List ℕ) → d ≡ c → is_hidden d ≡ false → bytes ≡ encode c → bytes ≡ encode_utf8_all (seen_letter c)
unfolding seen_letter
seen-plain c d bytes is plain spelt =
    spelt ∙ sym (append-nil (encode c))
    ∙ ap (λ (b : Bool). encode_utf8_all (cond b (code_letters c) (c ∷ []))) (sym (sym (ap is_hidden is) ∙ plain))

-- a byte that is no letter

pub shown-past : (b : ℕ) (digits : List ℕ) → 128 ≤ b → digits ≡ hex_text 2 b → codes "\\x{" ++ (digits ++ codes "}") ≡ encode_utf8_all (shown_byte b)
unfolding shown_byte
shown-past b digits past is =
    ap (λ d. codes "\\x{" ++ (d ++ codes "}")) is
    ∙ sym (encodes-both (codes "\\x{") _ encodes-byte-front (encodes-both (hex_text 2 b) (codes "}") (encodes-hex 2 b) encodes-end))
    ∙ ap (λ (ascii : Bool). encode_utf8_all (cond ascii (shown_letter b) (codes "\\x{" ++ (hex_text 2 b ++ codes "}")))) (sym (is-more b past))
  where
    is-more : (n : ℕ) → 128 ≤ n → nat_lt n 128 ≡ false
    is-more n h = grind (arith, nat_tests)

pub shown-ascii : (b c : ℕ) → b < 128 → c ≡ b → encode_utf8_all (shown_letter c) ≡ encode_utf8_all (shown_byte b)
unfolding shown_byte
shown-ascii b c small is =
    ap (λ n. encode_utf8_all (shown_letter n)) is
    ∙ ap (λ (ascii : Bool). encode_utf8_all (cond ascii (shown_letter b) (codes "\\x{" ++ (hex_text 2 b ++ codes "}")))) (sym (is-less b small))
  where
    is-less : (n : ℕ) → n < 128 → nat_lt n 128 ≡ true
    is-less n h = grind (arith, nat_tests)

-- one after another

pub one-more : (show : ℕ → List ℕ) (text : List ℕ) (c : ℕ)
    → encode_utf8_all (flat_map show text) ++ encode_utf8_all (show c) ≡ encode_utf8_all (flat_map show (text ++ c ∷ []))
one-more show text c =
    sym (encodes-append (flat_map show text) (show c))
    ∙ ap (λ letters. encode_utf8_all (flat_map show text ++ letters)) (sym (append-nil (show c)))
    ∙ ap encode_utf8_all (sym (flat_map-append show text (c ∷ [])))

-- a text that is UTF-8, and one that isn't

pub shown-letters : (text letters : List ℕ) → IsUtf8 text → letters ≡ chars text → encode_utf8_all (flat_map shown_letter letters) ≡ escaped text
shown-letters text letters is same =
    ap (λ l. encode_utf8_all (flat_map shown_letter l)) same
    ∙ ap (λ (b : Bool). encode_utf8_all (cond b (flat_map shown_letter (chars text)) (flat_map shown_byte text))) (sym (is_utf8-from_IsUtf8 text is))

pub shown-bytes : (text : List ℕ) → (IsUtf8 text → ⊥) → encode_utf8_all (flat_map shown_byte text) ≡ escaped text
shown-bytes text isnt =
    ap (λ (b : Bool). encode_utf8_all (cond b (flat_map shown_letter (chars text)) (flat_map shown_byte text))) (sym (go (is_utf8 text) refl))
  where
    go : (b : Bool) → is_utf8 text ≡ b → is_utf8 text ≡ false
    go true is = absurd (isnt (IsUtf8-from_is_utf8 text is))
    go false is = is
