-- A quoted text is read as its bytes.
use Rattle.std.proofs.Common.{◌≡◌, ℕ, ◌/◌, ◌%◌, ◌^◌, ◌<◌, Bool, true, false, not, cond}
use Rattle.std.proofs.Common.{List, [], ◌∷◌, ◌++◌, refl, ap, sym, ◌∙◌, append_assoc, append-nil, ltb-true, arith}
use Rattle.std.proofs.Common.{zero, suc, ◌+◌, length, drop, get_or, add-one, drop-cons}
use Rattle.std.specs.Prelude.{◌==◌, ◌&&◌, ◌≤◌, nat_le, nat_lt, Option, Some, None}
use Rattle.std.specs.List.{flat_map}
use Rattle.std.proofs.lemmas.Bool.{and_parts}
use Rattle.texts.specs.Hex.{hex_digit, hex_text}
use Rattle.texts.proofs.HexTexts.{hex-back}
use Rattle.records.specs.Calls.{is_text}
use Rattle.records.specs.declared.quoting.Progress.{Progress as ProgressCode}
use Rattle.records.specs.declared.quoting.Progress.TheVariants as code
use Rattle.records.specs.QuotedViews.{progress_seen}
use Rattle.records.specs.Quoted.{QuoteEffect, QuoteProgress, Within, Escaped, Halfway, Behind, Leads, Gives, Stops}
use Rattle.records.specs.Quoted.{byte_text, effect, given_byte, going, if_closed, is_plain, quoted, unquoted, unquoted_from}

-- a plain byte gives itself
plain-effect : (b : ℕ) → is_plain b ≡ true → effect Within b ≡ Gives b
unfolding effect
plain-effect b plain =
    let each = and_parts (nat_le 33 b && nat_le b 126 && not (b == 34)) (not (b == 92)) plain in
    let front = and_parts (nat_le 33 b && nat_le b 126) (not (b == 34)) each.0 in
    go (b == 34) (b == 92) (is_plain b) front.1 each.1 plain
  where
    go : (closes escapes stays : Bool) → not closes ≡ true → not escapes ≡ true → stays ≡ true
        → cond closes (Leads Behind) (cond escapes (Leads Escaped) (cond stays (Gives b) Stops)) ≡ Gives b
    go true escapes stays other plain is = absurd cc
    go false true stays other plain is = absurd cc
    go false false true other plain is = refl
    go false false false other plain is = absurd cc

-- both digits of an escape give the byte
digits-effect : (b : ℕ) → b < 16 ^ 2 → effect (Halfway (hex_digit (b / 16 % 16))) (hex_digit (b % 16)) ≡ Gives b
unfolding effect
digits-effect b small = ap given_byte (hex-back 2 b small)

-- an escape gives its byte
escape-back : (b : ℕ) (rest bytes : List ℕ) → nat_lt b 256 ≡ true → unquoted_from (92 ∷ 120 ∷ hex_text 2 b ++ rest) bytes Within ≡ unquoted_from rest (bytes ++ b ∷ []) Within
unfolding effect
escape-back b rest bytes small =
    let below = ltb-true b 256 small in
    ap (λ e. going e bytes (unquoted_from rest)) (digits-effect b (omega (arith, below)))

-- a byte's text gives the byte
byte-back : (b : ℕ) (rest bytes : List ℕ) → nat_lt b 256 ≡ true → unquoted_from (byte_text b ++ rest) bytes Within ≡ unquoted_from rest (bytes ++ b ∷ []) Within
byte-back b rest bytes small = go (is_plain b) refl
  where
    go : (plain : Bool) → is_plain b ≡ plain → unquoted_from (cond plain (b ∷ []) (92 ∷ 120 ∷ hex_text 2 b) ++ rest) bytes Within ≡ unquoted_from rest (bytes ++ b ∷ []) Within
    go true plain = ap (λ e. going e bytes (unquoted_from rest)) (plain-effect b plain)
    go false plain = escape-back b rest bytes small

bytes-back : (text rest bytes : List ℕ) → is_text text ≡ true → unquoted_from (flat_map byte_text text ++ rest) bytes Within ≡ unquoted_from rest (bytes ++ text) Within
bytes-back [] rest bytes is = ap (λ t. unquoted_from rest t Within) (sym (append-nil bytes))
bytes-back (b ∷ text) rest bytes is =
    let each = and_parts (nat_lt b 256) (is_text text) is in
    ap (λ t. unquoted_from t bytes Within) (append_assoc (byte_text b) (flat_map byte_text text) rest)
    ∙ byte-back b (flat_map byte_text text ++ rest) bytes each.0 ∙ bytes-back text rest (bytes ++ b ∷ []) each.1
    ∙ ap (λ t. unquoted_from rest t Within) (append_assoc bytes (b ∷ []) text)

pub quoted-back : (text : List ℕ) → is_text text ≡ true → unquoted (quoted text) ≡ Some text
unfolding quoted unquoted effect
quoted-back text is = bytes-back text (34 ∷ []) [] is

-- a step of the reading, by what the next byte does
pub byte-goes : (word : List ℕ) (i : ℕ) (bytes next : List ℕ) (progress after : QuoteProgress) (f : QuoteEffect) (whole : Option (List ℕ)) → i < length word
    → unquoted_from (drop i word) bytes progress ≡ whole → effect progress (get_or word i 0) ≡ f
    → going f bytes (unquoted_from (drop (i + 1) word)) ≡ unquoted_from (drop (i + 1) word) next after
    → unquoted_from (drop (i + 1) word) next after ≡ whole
byte-goes word i bytes next progress after f whole within before is goes =
    let left = drop-cons word i 0 within ∙ ap (λ n. get_or word i 0 ∷ drop n word) (sym (add-one i)) in
    sym goes ∙ sym (ap (λ e. going e bytes (unquoted_from (drop (i + 1) word))) is) ∙ sym (ap (λ l. unquoted_from l bytes progress) left) ∙ before

-- a byte that may not stand there
pub byte-stops : (word : List ℕ) (i : ℕ) (bytes : List ℕ) (progress : QuoteProgress) (whole : Option (List ℕ)) → i < length word
    → unquoted_from (drop i word) bytes progress ≡ whole → effect progress (get_or word i 0) ≡ Stops → whole ≡ None
byte-stops word i bytes progress whole within before stops =
    let rest = unquoted_from (drop (i + 1) word) in
    sym before
    ∙ ap (λ l. unquoted_from l bytes progress) (drop-cons word i 0 within ∙ ap (λ n. get_or word i 0 ∷ drop n word) (sym (add-one i)))
    ∙ ap (λ e. going e bytes rest) stops

nothing-left : (word : List ℕ) (i : ℕ) → length word ≤ i → drop i word ≡ []
nothing-left [] zero past = refl
nothing-left [] (suc i) past = refl
nothing-left (b ∷ word) zero past = absurd (omega arith)
nothing-left (b ∷ word) (suc i) past = nothing-left word i (omega arith)

not-closed : (bytes : List ℕ) (progress : ProgressCode) → (progress ≡ code.Behind → ⊥) → if_closed bytes (progress_seen progress) ≡ None
not-closed bytes code.Before unclosed = refl
not-closed bytes code.Within unclosed = refl
not-closed bytes code.Escaped unclosed = refl
not-closed bytes code.Lettered unclosed = refl
not-closed bytes (code.Halfway digit) unclosed = refl
not-closed bytes code.Behind unclosed = absurd (unclosed refl)

-- a text that ends before its last quote
pub ends-open : (word : List ℕ) (i : ℕ) (bytes : List ℕ) (progress : ProgressCode) (whole : Option (List ℕ)) → length word ≤ i → (progress ≡ code.Behind → ⊥)
    → unquoted_from (drop i word) bytes (progress_seen progress) ≡ whole → whole ≡ None
ends-open word i bytes progress whole past unclosed before =
    sym before ∙ ap (λ l. unquoted_from l bytes (progress_seen progress)) (nothing-left word i past) ∙ not-closed bytes progress unclosed
