-- Laws of sets as words.
use Rattle.std.proofs.Common.{◌≡◌, ℕ, zero, suc, ◌+◌, ◌*◌, ◌/◌, ◌%◌, ◌^◌, ◌<◌, List, [], ◌∷◌, ◌++◌, length, Bool, true, false, not, cond, refl, ap, ◌∙◌, sym}
use Rattle.std.proofs.Common.{append-nil, ne_eqb, eq-eqb, eqb-true, zero-add, arith}
use Rattle.std.specs.Prelude.{◌==◌, ◌&&◌, ◌||◌, codes}
use Rattle.std.specs.List.{list_all}
use Rattle.std.specs.Str.{bytes_eq}
use Rattle.std.proofs.lemmas.Bool.{and_from, and_parts}
use Rattle.texts.specs.Parts.{joined, parts}
use Rattle.texts.proofs.WordLaws.{lacks, parts-joined}
use Rattle.call_facts.specs.Sets.{Row, command_rows, flag_rows, has_word, listed, member_names, right_rows, bits_named, set_of_list, set_word}
use Rattle.call_facts.proofs.Same.{same-text, three-parts}

-- listed behind nothing they are joined
pub listed-joined : (names : List (List ℕ)) → listed [] names ≡ joined 44 names
listed-joined [] = refl
listed-joined (name ∷ []) = append-nil name
listed-joined (name ∷ next ∷ names) = ap (λ rest. name ++ 44 ∷ rest) (listed-joined (next ∷ names))

-- each row has a bit twice that of the row before it, and the first has this one
abbrev are_doubled : ℕ → List Row → Bool
are_doubled bit [] = true
are_doubled bit (r ∷ rows) = (r.bit == bit) && are_doubled (bit + bit) rows

-- no row has this name, asked from either side
abbrev is_fresh : List ℕ → List Row → Bool
is_fresh name rows = list_all (λ r. not (bytes_eq name r.name)) rows

abbrev is_apart : List ℕ → List Row → Bool
is_apart name rows = list_all (λ r. not (bytes_eq r.name name)) rows

abbrev are_distinct : List Row → Bool
are_distinct [] = true
are_distinct (r ∷ rows) = is_fresh r.name rows && is_apart r.name rows && are_distinct rows

abbrev have_no_comma : List Row → Bool
have_no_comma rows = list_all (λ r. lacks 44 r.name) rows

-- what rows have to be for their sets to be read back
abbrev are_good : List Row → Bool
are_good rows = (are_doubled 1 rows && are_distinct rows) && (have_no_comma rows && (is_apart (codes "none") rows && is_apart [] rows))

no-name : (name : List ℕ) (rows : List Row) (set : ℕ) → is_fresh name rows ≡ true → has_word name (member_names rows set) ≡ false
no-name name [] set fresh = refl
no-name name (r ∷ rows) set fresh =
    let each = and_parts (not (bytes_eq name r.name)) (is_fresh name rows) fresh in
    go (set % 2 == 1) (pass (bytes_eq name r.name) each.0) (no-name name rows (set / 2) each.1)
  where
    others : List (List ℕ)
    others = member_names rows (set / 2)

    pass : (same : Bool) → not same ≡ true → (same || has_word name others) ≡ has_word name others
    pass true other = absurd cc
    pass false other = refl

    go : (low : Bool) → has_word name (r.name ∷ others) ≡ has_word name others → has_word name others ≡ false → has_word name (cond low (r.name ∷ others) others) ≡ false
    go true first rest = first ∙ rest
    go false first rest = rest

-- a word that no row has as its name adds nothing
other-word : (name : List ℕ) (rows : List Row) (words : List (List ℕ)) → is_apart name rows ≡ true → bits_named rows (name ∷ words) ≡ bits_named rows words
other-word name [] words apart = refl
other-word name (r ∷ rows) words apart =
    let each = and_parts (not (bytes_eq r.name name)) (is_apart name rows) apart in
    (λ i. cond (go (bytes_eq r.name name) each.0 i) r.bit 0 + other-word name rows words each.1 i)
  where
    go : (same : Bool) → not same ≡ true → (same || has_word r.name words) ≡ has_word r.name words
    go true other = absurd cc
    go false other = refl

no-words : (rows : List Row) → bits_named rows [] ≡ 0
no-words [] = refl
no-words (r ∷ rows) = zero-add (bits_named rows []) ∙ no-words rows

-- The names of a set stand for the set.
names-back : (rows : List Row) (bit set : ℕ) → are_doubled bit rows ≡ true → are_distinct rows ≡ true → set < 2 ^ length rows → bits_named rows (member_names rows set) ≡ bit * set
names-back [] bit set doubled distinct small = let none : set ≡ 0 = omega (arith, small) in let nothing : 0 ≡ bit * 0 = omega arith in nothing ∙ ap (λ n. bit * n) (sym none)
names-back (r ∷ rows) bit set doubled distinct small =
    let one = and_parts (r.bit == bit) (are_doubled (bit + bit) rows) doubled in
    let each = three-parts (is_fresh r.name rows) (is_apart r.name rows) (are_distinct rows) distinct in
    let bound : set < 2 ^ suc (length rows) = small in
    let half : set / 2 < 2 ^ length rows = omega (arith, bound) in
    let rest = names-back rows (bit + bit) (set / 2) one.1 each.2 half in
    let is = eqb-true r.bit bit one.0 in
    go (set % 2 == 1) refl each.0 each.1 rest is
  where
    others : List (List ℕ)
    others = member_names rows (set / 2)

    twice : (low : ℕ) → set % 2 ≡ low → bit * low + (bit + bit) * (set / 2) ≡ bit * set
    twice low is =
        let whole : low + 2 * (set / 2) ≡ set = omega (arith, is) in
        let spread : bit * low + (bit + bit) * (set / 2) ≡ bit * (low + 2 * (set / 2)) = omega arith in
        spread ∙ ap (λ n. bit * n) whole

    go-even : (n : ℕ) → (n == 1) ≡ false → n < 2 → n ≡ 0
    go-even zero other small = refl
    go-even (suc zero) other small = absurd cc
    go-even (suc (suc n)) other small = absurd (omega (arith, small))

    go : (low : Bool) → (set % 2 == 1) ≡ low → is_fresh r.name rows ≡ true → is_apart r.name rows ≡ true → bits_named rows others ≡ (bit + bit) * (set / 2) → r.bit ≡ bit
        → bits_named (r ∷ rows) (cond low (r.name ∷ others) others) ≡ bit * set
    go true low fresh apart rest is =
        let odd : set % 2 ≡ 1 = eqb-true (set % 2) 1 low in
        let first = ap (λ (same : Bool). cond (same || has_word r.name others) r.bit 0) (same-text r.name) in
        let sum : bit + (bit + bit) * (set / 2) ≡ bit * 1 + (bit + bit) * (set / 2) = omega arith in
        (λ i. first i + other-word r.name rows others apart i) ∙ (λ i. is i + rest i) ∙ sum ∙ twice 1 odd
    go false low fresh apart rest is =
        let even : set % 2 ≡ 0 = go-even (set % 2) low (omega arith) in
        let none : 0 + (bit + bit) * (set / 2) ≡ bit * 0 + (bit + bit) * (set / 2) = omega arith in
        (λ i. cond (no-name r.name rows (set / 2) fresh i) r.bit 0 + rest i) ∙ none ∙ twice 0 even

names-lack : (rows : List Row) (set : ℕ) → have_no_comma rows ≡ true → list_all (lacks 44) (member_names rows set) ≡ true
names-lack [] set lack = refl
names-lack (r ∷ rows) set lack =
    let each = and_parts (lacks 44 r.name) (have_no_comma rows) lack in
    go (set % 2 == 1) each.0 (names-lack rows (set / 2) each.1)
  where
    go : (low : Bool) → lacks 44 r.name ≡ true → list_all (lacks 44) (member_names rows (set / 2)) ≡ true
        → list_all (lacks 44) (cond low (r.name ∷ member_names rows (set / 2)) (member_names rows (set / 2))) ≡ true
    go true first rest = and_from _ _ first rest
    go false first rest = rest

list-back : (rows : List Row) (names : List (List ℕ)) → is_apart [] rows ≡ true → list_all (lacks 44) names ≡ true → bits_named rows (parts 44 (joined 44 names)) ≡ bits_named rows names
list-back rows [] apart lack = other-word [] rows [] apart
list-back rows (name ∷ names) apart lack = ap (bits_named rows) (parts-joined 44 name names lack)

-- The word of a set is read as that set.
pub set-back : (rows : List Row) (set : ℕ) → are_good rows ≡ true → set < 2 ^ length rows → set_of_list rows (set_word rows set) ≡ set
unfolding set_word set_of_list
set-back rows set good small =
    let both = and_parts (are_doubled 1 rows && are_distinct rows) (have_no_comma rows && (is_apart (codes "none") rows && is_apart [] rows)) good in
    let bits = and_parts (are_doubled 1 rows) (are_distinct rows) both.0 in
    let names = and_parts (have_no_comma rows) (is_apart (codes "none") rows && is_apart [] rows) both.1 in
    let apart = and_parts (is_apart (codes "none") rows) (is_apart [] rows) names.1 in
    go (set == 0) refl apart.0
    (ap (λ (text : List ℕ). bits_named rows (parts 44 text)) (listed-joined (member_names rows set))
    ∙ list-back rows (member_names rows set) apart.1 (names-lack rows set names.0) ∙ names-back rows 1 set bits.0 bits.1 small ∙ (omega arith))
  where
    go : (none : Bool) → (set == 0) ≡ none → is_apart (codes "none") rows ≡ true → bits_named rows (parts 44 (listed [] (member_names rows set))) ≡ set
        → bits_named rows (parts 44 (cond none (codes "none") (listed [] (member_names rows set)))) ≡ set
    go true is apart rest = other-word (codes "none") rows [] apart ∙ no-words rows ∙ sym (eqb-true set 0 is)
    go false is apart rest = rest

pub good-rights : are_good right_rows ≡ true
good-rights = refl

pub good-commands : are_good command_rows ≡ true
good-commands = refl

pub good-flags : are_good flag_rows ≡ true
good-flags = refl
