-- Laws of parts: joined they are the text again, and what is joined has those parts.
use Rattle.std.proofs.Common.{◌≡◌, ℕ, Bool, true, false, not, List, [], ◌∷◌, ◌++◌, refl, ap, sym, ◌∙◌, append_assoc, append-nil, eqb-true, eq-eqb}
use Rattle.std.specs.Prelude.{◌==◌, ◌&&◌, cond, Option, Some, None, is_some, option_map}
use Rattle.std.specs.List.{list_all}
use Rattle.std.proofs.Common.{Bor}
use Rattle.std.proofs.lemmas.Bool.{and_from, and_parts}
use Rattle.texts.specs.Parts.{joined, parts, parts_from}
use Rattle.texts.specs.Words.{is_used_up, words_left}

-- whether the byte that separates isn't in a part
abbrev pub lacks : ℕ → List ℕ → Bool
lacks separator part = list_all (λ byte. not (byte == separator)) part

-- There is a part at least.
some-part : (separator : ℕ) (text begun : List ℕ) → is_used_up (parts_from separator text begun) ≡ false
some-part separator [] begun = refl
some-part separator (b ∷ text) begun = go (b == separator) (some-part separator text (begun ++ b ∷ []))
  where
    go : (ends : Bool) → is_used_up (parts_from separator text (begun ++ b ∷ [])) ≡ false
        → is_used_up (cond ends (begun ∷ parts_from separator text []) (parts_from separator text (begun ++ b ∷ []))) ≡ false
    go true some = refl
    go false some = some

pub none-left : (none : Bool) (o : Option (Bor (List ℕ))) → is_some o ≡ not none → none ≡ is_used_up (words_left (option_map (λ rest. rest.now) o))
none-left true None is = refl
none-left false None is = absurd cc
none-left true (Some rest) is = absurd cc
none-left false (Some rest) is = sym (some-part 32 rest.now [])

-- a part that others follow
joined-more : (separator : ℕ) (part text begun : List ℕ)
    → joined separator (part ∷ parts_from separator text begun) ≡ part ++ separator ∷ joined separator (parts_from separator text begun)
joined-more separator part [] begun = refl
joined-more separator part (b ∷ text) begun = go (b == separator) (joined-more separator part text (begun ++ b ∷ []))
  where
    ends-or : Bool → List (List ℕ)
    ends-or ends = cond ends (begun ∷ parts_from separator text []) (parts_from separator text (begun ++ b ∷ []))

    go : (ends : Bool) → joined separator (part ∷ parts_from separator text (begun ++ b ∷ [])) ≡ part ++ separator ∷ joined separator (parts_from separator text (begun ++ b ∷ []))
        → joined separator (part ∷ ends-or ends) ≡ part ++ separator ∷ joined separator (ends-or ends)
    go true more = refl
    go false more = more

joined-from : (separator : ℕ) (text begun : List ℕ) → joined separator (parts_from separator text begun) ≡ begun ++ text
joined-from separator [] begun = sym (append-nil begun)
joined-from separator (b ∷ text) begun = go (b == separator) refl (joined-from separator text []) (joined-from separator text (begun ++ b ∷ []))
  where
    go : (ends : Bool) → (b == separator) ≡ ends → joined separator (parts_from separator text []) ≡ text
        → joined separator (parts_from separator text (begun ++ b ∷ [])) ≡ (begun ++ b ∷ []) ++ text
        → joined separator (cond ends (begun ∷ parts_from separator text []) (parts_from separator text (begun ++ b ∷ []))) ≡ begun ++ b ∷ text
    go true is here there =
        joined-more separator begun text [] ∙ ap (λ rest. begun ++ separator ∷ rest) here
        ∙ ap (λ c. begun ++ c ∷ text) (sym (eqb-true b separator is))
    go false is here there = there ∙ append_assoc begun (b ∷ []) text

-- The parts, joined, are the text.
pub joined-parts : (separator : ℕ) (text : List ℕ) → joined separator (parts separator text) ≡ text
joined-parts separator text = joined-from separator text []

-- bytes that don't separate belong to the part that has begun
parts-behind : (separator : ℕ) (part rest begun : List ℕ) → lacks separator part ≡ true → parts_from separator (part ++ rest) begun ≡ parts_from separator rest (begun ++ part)
parts-behind separator [] rest begun lack = ap (parts_from separator rest) (sym (append-nil begun))
parts-behind separator (b ∷ part) rest begun lack =
    go (b == separator) (and_parts _ _ lack).0 ∙ parts-behind separator part rest (begun ++ b ∷ []) (and_parts _ _ lack).1
    ∙ ap (parts_from separator rest) (append_assoc begun (b ∷ []) part)
  where
    go : (ends : Bool) → not ends ≡ true
        → cond ends (begun ∷ parts_from separator (part ++ rest) []) (parts_from separator (part ++ rest) (begun ++ b ∷ [])) ≡ parts_from separator (part ++ rest) (begun ++ b ∷ [])
    go true other = absurd cc
    go false other = refl

-- The first part ends at the first byte that separates.
pub parts-more : (separator : ℕ) (part rest : List ℕ) → lacks separator part ≡ true → parts separator (part ++ separator ∷ rest) ≡ part ∷ parts separator rest
parts-more separator part rest lack =
    parts-behind separator part (separator ∷ rest) [] lack
    ∙ ap (λ ends. cond ends (part ∷ parts separator rest) (parts_from separator rest (part ++ separator ∷ []))) (eq-eqb separator separator refl)

-- A text without the byte that separates is one part.
pub parts-one : (separator : ℕ) (part : List ℕ) → lacks separator part ≡ true → parts separator part ≡ part ∷ []
parts-one separator part lack = ap (parts separator) (sym (append-nil part)) ∙ parts-behind separator part [] [] lack

-- Some parts, joined, have just these parts, if none has the byte that separates.
pub parts-joined : (separator : ℕ) (part : List ℕ) (others : List (List ℕ)) → list_all (lacks separator) (part ∷ others) ≡ true
    → parts separator (joined separator (part ∷ others)) ≡ part ∷ others
parts-joined separator part [] lack = parts-one separator part (and_parts _ _ lack).0
parts-joined separator part (next ∷ others) lack =
    let each = and_parts (lacks separator part) (list_all (lacks separator) (next ∷ others)) lack in
    parts-more separator part (joined separator (next ∷ others)) each.0 ∙ ap (λ rest. part ∷ rest) (parts-joined separator next others each.1)

-- No part has the byte that separates.
lacks-last : (separator b : ℕ) (part : List ℕ) → lacks separator part ≡ true → not (b == separator) ≡ true → lacks separator (part ++ b ∷ []) ≡ true
lacks-last separator b [] lack other = ap (λ c. c && true) other
lacks-last separator b (c ∷ part) lack other =
    let each = and_parts (not (c == separator)) (lacks separator part) lack in
    ap (λ d. d && lacks separator (part ++ b ∷ [])) each.0 ∙ lacks-last separator b part each.1 other

parts-lack-from : (separator : ℕ) (text begun : List ℕ) → lacks separator begun ≡ true → list_all (lacks separator) (parts_from separator text begun) ≡ true
parts-lack-from separator [] begun lack = ap (λ c. c && true) lack
parts-lack-from separator (b ∷ text) begun lack =
    go (b == separator) (parts-lack-from separator text [] refl) (λ other. parts-lack-from separator text (begun ++ b ∷ []) (lacks-last separator b begun lack other))
  where
    go : (ends : Bool) → list_all (lacks separator) (parts_from separator text []) ≡ true
        → (not ends ≡ true → list_all (lacks separator) (parts_from separator text (begun ++ b ∷ [])) ≡ true)
        → list_all (lacks separator) (cond ends (begun ∷ parts_from separator text []) (parts_from separator text (begun ++ b ∷ []))) ≡ true
    go true here there = ap (λ c. c && list_all (lacks separator) (parts_from separator text [])) lack ∙ here
    go false here there = there refl

pub parts-lack : (separator : ℕ) (text : List ℕ) → list_all (lacks separator) (parts separator text) ≡ true
parts-lack separator text = parts-lack-from separator text [] refl

-- Bytes that pass a test lack each byte that doesn't.
pub lacks-by : (test : ℕ → Bool) (separator : ℕ) (word : List ℕ) → test separator ≡ false → list_all test word ≡ true → lacks separator word ≡ true
lacks-by test separator [] other is = refl
lacks-by test separator (b ∷ word) other is =
    let each = and_parts (test b) (list_all test word) is in
    and_from _ _ (go (b == separator) refl each.0) (lacks-by test separator word other each.1)
  where
    go : (same : Bool) → (b == separator) ≡ same → test b ≡ true → not same ≡ true
    go true same passes = sym other ∙ ap test (sym (eqb-true b separator same)) ∙ passes
    go false same passes = refl
