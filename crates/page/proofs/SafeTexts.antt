-- What is shown of a text is safe, whatever the text is.
use Rattle.std.proofs.Common.{◌≡◌, ◌+◌, ◌/◌, ◌%◌, ◌≤◌, ℕ, Bool, true, false, List, [], ◌∷◌, ◌++◌, refl, ap, ◌∙◌, arith}
use Rattle.std.specs.Prelude.{◌==◌, ◌&&◌, ◌||◌, not, cond, codes, nat_lt}
use Rattle.std.specs.List.{flat_map, list_all}
use Rattle.std.specs.Str.{chars, encode_utf8_all, is_utf8}
use Rattle.std.proofs.lemmas.Bool.{and_from, and_parts}
use Rattle.std.proofs.lemmas.Bool.Decides.{nat_tests}
use Rattle.std.proofs.lemmas.List.Folds.{list_all-append}
use lib.Utf8.{encode}
use Rattle.texts.specs.Hex.{hex_text, is_hex_digit}
use Rattle.texts.proofs.HexTexts.{digits-hex}
use Rattle.page.specs.Escaping.{code_letters, has_references_only, is_hidden, is_no_markup, is_safe, seen_letter, escaped, shown_byte, shown_letter, shown_letters}

-- lists

all-both : (test : ℕ → Bool) (a b : List ℕ) → list_all test a ≡ true → list_all test b ≡ true → list_all test (a ++ b) ≡ true
all-both test a b is also = list_all-append test a b ∙ and_from _ _ is also

all-parts : (test : ℕ → Bool) (show : ℕ → List ℕ) → ((c : ℕ) → list_all test (show c) ≡ true) → (text : List ℕ) → list_all test (flat_map show text) ≡ true
all-parts test show each [] = refl
all-parts test show each (c ∷ text) = all-both test (show c) (flat_map show text) (each c) (all-parts test show each text)

all-so : (test other : ℕ → Bool) → ((c : ℕ) → test c ≡ true → other c ≡ true) → (text : List ℕ) → list_all test text ≡ true → list_all other text ≡ true
all-so test other so [] is = refl
all-so test other so (c ∷ text) is =
    let each = and_parts (test c) (list_all test text) is in
    and_from _ _ (so c each.0) (all-so test other so text each.1)

-- digits

digit-safe : (c : ℕ) → is_hex_digit c ≡ true → is_safe c ≡ true
unfolding is_hidden
digit-safe c is = grind (arith, nat_tests)

hex-safe : (count n : ℕ) → list_all is_safe (hex_text count n) ≡ true
hex-safe count n = all-so is_hex_digit is_safe digit-safe (hex_text count n) (digits-hex count n)

-- what stands before them and behind

number-front-safe : list_all is_safe (codes "\\u{") ≡ true
unfolding is_hidden
number-front-safe = refl

byte-front-safe : list_all is_safe (codes "\\x{") ≡ true
unfolding is_hidden
byte-front-safe = refl

end-safe : list_all is_safe (codes "}") ≡ true
unfolding is_hidden
end-safe = refl

-- the number of a letter

code-safe : (c : ℕ) → list_all is_safe (code_letters c) ≡ true
unfolding code_letters
code-safe c =
    all-both is_safe (codes "\\u{") (cond (nat_lt c 0x1_0000) [] (hex_text 2 (c / 0x1_0000)) ++ (hex_text 4 (c % 0x1_0000) ++ codes "}")) number-front-safe
    (all-both is_safe (cond (nat_lt c 0x1_0000) [] (hex_text 2 (c / 0x1_0000))) (hex_text 4 (c % 0x1_0000) ++ codes "}") (go (nat_lt c 0x1_0000))
    (all-both is_safe (hex_text 4 (c % 0x1_0000)) (codes "}") (hex-safe 4 (c % 0x1_0000)) end-safe))
  where
    go : (b : Bool) → list_all is_safe (cond b [] (hex_text 2 (c / 0x1_0000))) ≡ true
    go true = refl
    go false = hex-safe 2 (c / 0x1_0000)

-- a letter

seen-safe : (c : ℕ) → (c == 60) ≡ false → (c == 62) ≡ false → (c == 34) ≡ false → list_all is_safe (seen_letter c) ≡ true
unfolding seen_letter
seen-safe c less more quote = go (is_hidden c) refl
  where
    go : (b : Bool) → is_hidden c ≡ b → list_all is_safe (cond b (code_letters c) (c ∷ [])) ≡ true
    go true hidden = code-safe c
    go false hidden = λ i. ((not (less i) && (not (more i) && not (quote i))) && not (hidden i)) && true

ampersand-safe : list_all is_safe (codes "&amp;") ≡ true
unfolding is_hidden
ampersand-safe = refl

less-safe : list_all is_safe (codes "&lt;") ≡ true
unfolding is_hidden
less-safe = refl

more-safe : list_all is_safe (codes "&gt;") ≡ true
unfolding is_hidden
more-safe = refl

quote-safe : list_all is_safe (codes "&quot;") ≡ true
unfolding is_hidden
quote-safe = refl

pub letter-safe : (c : ℕ) → list_all is_safe (shown_letter c) ≡ true
unfolding shown_letter
letter-safe c = go (c == 38) (c == 60) (c == 62) (c == 34) refl refl refl
  where
    go : (a b d e : Bool) → (c == 60) ≡ b → (c == 62) ≡ d → (c == 34) ≡ e
        → list_all is_safe (cond a (codes "&amp;") (cond b (codes "&lt;") (cond d (codes "&gt;") (cond e (codes "&quot;") (seen_letter c))))) ≡ true
    go true b d e less more quote = ampersand-safe
    go false true d e less more quote = less-safe
    go false false true e less more quote = more-safe
    go false false false true less more quote = quote-safe
    go false false false false less more quote = seen-safe c less more quote

byte-safe : (b : ℕ) → list_all is_safe (shown_byte b) ≡ true
unfolding shown_byte
byte-safe b = go (nat_lt b 128)
  where
    go : (ascii : Bool) → list_all is_safe (cond ascii (shown_letter b) (codes "\\x{" ++ (hex_text 2 b ++ codes "}"))) ≡ true
    go true = letter-safe b
    go false = all-both is_safe (codes "\\x{") (hex_text 2 b ++ codes "}") byte-front-safe (all-both is_safe (hex_text 2 b) (codes "}") (hex-safe 2 b) end-safe)

pub text-safe : (text : List ℕ) → list_all is_safe (shown_letters text) ≡ true
text-safe text = go (is_utf8 text)
  where
    go : (b : Bool) → list_all is_safe (cond b (flat_map shown_letter (chars text)) (flat_map shown_byte text)) ≡ true
    go true = all-parts is_safe shown_letter letter-safe (chars text)
    go false = all-parts is_safe shown_byte byte-safe text

-- references

abbrev is_other : ℕ → Bool
is_other c = not (c == 38)

others-only : (text rest : List ℕ) → list_all is_other text ≡ true → has_references_only rest ≡ true → has_references_only (text ++ rest) ≡ true
others-only [] rest other is = is
others-only (c ∷ text) rest other is =
    let each = and_parts (is_other c) (list_all is_other text) other in
    and_from _ _ (either (is_other c) _ each.0) (others-only text rest each.1 is)
  where
    either : (b more : Bool) → b ≡ true → (b || more) ≡ true
    either true more is = refl
    either false more is = absurd cc

digit-other : (c : ℕ) → is_hex_digit c ≡ true → is_other c ≡ true
digit-other c is = grind (arith, nat_tests)

hex-other : (count n : ℕ) → list_all is_other (hex_text count n) ≡ true
hex-other count n = all-so is_hex_digit is_other digit-other (hex_text count n) (digits-hex count n)

code-other : (c : ℕ) → list_all is_other (code_letters c) ≡ true
unfolding code_letters
code-other c =
    all-both is_other (codes "\\u{") (cond (nat_lt c 0x1_0000) [] (hex_text 2 (c / 0x1_0000)) ++ (hex_text 4 (c % 0x1_0000) ++ codes "}")) refl
    (all-both is_other (cond (nat_lt c 0x1_0000) [] (hex_text 2 (c / 0x1_0000))) (hex_text 4 (c % 0x1_0000) ++ codes "}") (go (nat_lt c 0x1_0000))
    (all-both is_other (hex_text 4 (c % 0x1_0000)) (codes "}") (hex-other 4 (c % 0x1_0000)) refl))
  where
    go : (b : Bool) → list_all is_other (cond b [] (hex_text 2 (c / 0x1_0000))) ≡ true
    go true = refl
    go false = hex-other 2 (c / 0x1_0000)

seen-other : (c : ℕ) → (c == 38) ≡ false → list_all is_other (seen_letter c) ≡ true
unfolding seen_letter
seen-other c other = go (is_hidden c)
  where
    go : (b : Bool) → list_all is_other (cond b (code_letters c) (c ∷ [])) ≡ true
    go true = code-other c
    go false = ap (λ b. not b && true) other

letter-references : (c : ℕ) (rest : List ℕ) → has_references_only rest ≡ true → has_references_only (shown_letter c ++ rest) ≡ true
unfolding shown_letter
letter-references c rest is = go (c == 38) (c == 60) (c == 62) (c == 34) refl
  where
    go : (a b d e : Bool) → (c == 38) ≡ a
        → has_references_only (cond a (codes "&amp;") (cond b (codes "&lt;") (cond d (codes "&gt;") (cond e (codes "&quot;") (seen_letter c)))) ++ rest) ≡ true
    go true b d e ampersand = is
    go false true d e ampersand = is
    go false false true e ampersand = is
    go false false false true ampersand = is
    go false false false false ampersand = others-only (seen_letter c) rest (seen-other c ampersand) is

byte-references : (b : ℕ) (rest : List ℕ) → has_references_only rest ≡ true → has_references_only (shown_byte b ++ rest) ≡ true
unfolding shown_byte
byte-references b rest is = go (nat_lt b 128)
  where
    go : (ascii : Bool) → has_references_only (cond ascii (shown_letter b) (codes "\\x{" ++ (hex_text 2 b ++ codes "}")) ++ rest) ≡ true
    go true = letter-references b rest is
    go false =
        others-only (codes "\\x{" ++ (hex_text 2 b ++ codes "}")) rest
        (all-both is_other (codes "\\x{") (hex_text 2 b ++ codes "}") refl (all-both is_other (hex_text 2 b) (codes "}") (hex-other 2 b) refl)) is

parts-references : (show : ℕ → List ℕ) → ((c : ℕ) (rest : List ℕ) → has_references_only rest ≡ true → has_references_only (show c ++ rest) ≡ true)
    → (text : List ℕ) → has_references_only (flat_map show text) ≡ true
parts-references show each [] = refl
parts-references show each (c ∷ text) = each c (flat_map show text) (parts-references show each text)

pub text-references : (text : List ℕ) → has_references_only (shown_letters text) ≡ true
text-references text = go (is_utf8 text)
  where
    go : (b : Bool) → has_references_only (cond b (flat_map shown_letter (chars text)) (flat_map shown_byte text)) ≡ true
    go true = parts-references shown_letter letter-references (chars text)
    go false = parts-references shown_byte byte-references text

-- bytes

past-ascii : (b : ℕ) → 128 ≤ b → is_no_markup b ≡ true
past-ascii b past = grind (arith, nat_tests)

encode-safe : (c : ℕ) → is_safe c ≡ true → list_all is_no_markup (encode c) ≡ true
unfolding encode
encode-safe c safe = go (nat_lt c 128) (nat_lt c 2048) (nat_lt c 65536)
  where
    next : (n : ℕ) → is_no_markup (128 + n % 64) ≡ true
    next n = past-ascii (128 + n % 64) (omega arith)

    go : (one two three : Bool) → list_all is_no_markup (cond one (c ∷ []) (cond two ((192 + c / 64) ∷ (128 + c % 64) ∷ [])
        (cond three ((224 + c / 4096) ∷ (128 + c / 64 % 64) ∷ (128 + c % 64) ∷ [])
        ((240 + c / 262144) ∷ (128 + c / 4096 % 64) ∷ (128 + c / 64 % 64) ∷ (128 + c % 64) ∷ [])))) ≡ true
    go true two three = and_from _ _ (and_parts (is_no_markup c) (not (is_hidden c)) safe).0 refl
    go false true three = and_from _ _ (past-ascii (192 + c / 64) (omega arith)) (and_from _ _ (next c) refl)
    go false false true = and_from _ _ (past-ascii (224 + c / 4096) (omega arith)) (and_from _ _ (next (c / 64)) (and_from _ _ (next c) refl))
    go false false false =
        and_from _ _ (past-ascii (240 + c / 262144) (omega arith)) (and_from _ _ (next (c / 4096)) (and_from _ _ (next (c / 64)) (and_from _ _ (next c) refl)))

bytes-safe : (letters : List ℕ) → list_all is_safe letters ≡ true → list_all is_no_markup (encode_utf8_all letters) ≡ true
bytes-safe [] safe = refl
bytes-safe (c ∷ letters) safe =
    let each = and_parts (is_safe c) (list_all is_safe letters) safe in
    all-both is_no_markup (encode c) (encode_utf8_all letters) (encode-safe c each.0) (bytes-safe letters each.1)

pub text-bytes : (text : List ℕ) → list_all is_no_markup (escaped text) ≡ true
text-bytes text = bytes-safe (shown_letters text) (text-safe text)
