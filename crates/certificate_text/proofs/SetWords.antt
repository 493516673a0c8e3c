-- The words of sets of rights are read as these sets, and words that are read as sets are their words.
use Rattle.std.proofs.Common.{◌≡◌, ℕ, ◌-◌, ◌^◌, ◌<◌, ◌≤◌, Bool, true, false, cond, List, [], ◌∷◌, refl, ap, sym, ◌∙◌, subst, arith}
use Rattle.std.specs.Prelude.{◌&&◌, ◌||◌, Option, Some, None, Ok, Err}
use Rattle.std.proofs.lemmas.Bool.{and_from, and_parts}
use Rattle.rights.specs.Sets.{all_rights, both_parts, further_part, further_rights, is_within, plain_part, plain_rights}
use Rattle.texts.specs.Hex.{hex_of, hex_text}
use Rattle.texts.proofs.HexTexts.{hex-back, hex-text}
use Rattle.certificate.specs.Bounds.{Version, tells_further}
use Rattle.certificate.specs.Lines.{is_ceiling, is_range}
use Rattle.certificate.specs.Told.{is_told_ceiling}
use Rattle.certificate_text.specs.Faults.{Syntax}
use Rattle.certificate_text.specs.Texts.{ceiling_words, further_word, if_further, plain_word}
use Rattle.certificate_text.specs.Words.{ceiling_from, further_above, further_of_words, if_no_word, range_from, rights_above, rights_from, rights_of_words, told_above, told_further, two_from}
use Rattle.certificate_text.proofs.RightSets.{all-further, further-below, further-of, greatest-told, least-told, none-further, parts-whole, plain-below, plain-of}
use Rattle.certificate_text.proofs.RightSets.{plain-small, plain-within, within-most}

-- A least and a greatest set are told by a version that tells of further rights, and by others if nothing is said of them.
abbrev pub are_told_sets : Version → ℕ → ℕ → Bool
are_told_sets version least greatest = tells_further version || (is_within least plain_rights && is_within further_rights greatest)

-- THE WORDS ARE READ

set-back : (set : ℕ) → set ≤ all_rights → rights_from (hex_of 4 (plain_word set)) (further_part set) ≡ Some set
set-back set most =
    ap (λ o. rights_from o (further_part set)) (hex-back 4 (plain_part set) (plain-below set))
    ∙ ap (λ (b : Bool). cond b (Some (both_parts (plain_part set) (further_part set))) None) (plain-within set)
    ∙ ap Some (parts-whole set most)

further-back : (version : Version) (least greatest : ℕ) → least ≤ all_rights → greatest ≤ all_rights → are_told_sets version least greatest ≡ true
    → further_of_words version (if_further version (further_word least ∷ further_word greatest ∷ [])) ≡ Some (further_part least, further_part greatest)
further-back version least greatest few most told = go (tells_further version) told
  where
    words : List (List ℕ)
    words = further_word least ∷ further_word greatest ∷ []

    go : (tells : Bool) → (tells || (is_within least plain_rights && is_within further_rights greatest)) ≡ true
        → cond tells (told_further (cond tells words [])) (if_no_word (0, 2 ^ 32 - 1) (cond tells words [])) ≡ Some (further_part least, further_part greatest)
    go true told =
        λ i. two_from (hex-back 8 (further_part least) (further-below least) i) (hex-back 8 (further_part greatest) (further-below greatest) i)
    go false told =
        let each = and_parts (is_within least plain_rights) (is_within further_rights greatest) told in
        λ i. Some (sym (none-further least each.0) i, sym (all-further greatest each.1 most) i)

pub rights-back : (version : Version) (least greatest : ℕ) → is_range all_rights least greatest ≡ true → are_told_sets version least greatest ≡ true
    → rights_of_words (plain_word least) (plain_word greatest) (further_of_words version (if_further version (further_word least ∷ further_word greatest ∷ [])))
    ≡ Ok (least, greatest)
rights-back version least greatest is told =
    let each = and_parts (is_within least greatest) (is_within greatest all_rights) is in
    let most = within-most greatest all_rights each.1 in
    let low = within-most least greatest each.0 in
    let few : least ≤ all_rights = omega (arith, most, low) in
    ap (rights_of_words (plain_word least) (plain_word greatest)) (further-back version least greatest few most told)
    ∙ (λ i. range_from all_rights (set-back least few i) (set-back greatest most i))
    ∙ ap (λ (b : Bool). cond b (Ok (least, greatest)) (Err Syntax)) is

above-back : (version : Version) (rights : ℕ) → is_told_ceiling version rights ≡ true
    → further_above version (if_further version (further_word rights ∷ [])) ≡ Some (further_part rights)
above-back version rights told = go (tells_further version) told
  where
    words : List (List ℕ)
    words = further_word rights ∷ []

    go : (tells : Bool) → (tells || is_within rights plain_rights) ≡ true
        → cond tells (told_above (cond tells words [])) (if_no_word 0 (cond tells words [])) ≡ Some (further_part rights)
    go true told = hex-back 8 (further_part rights) (further-below rights)
    go false told = ap Some (sym (none-further rights told))

pub ceiling-back : (version : Version) (rights : ℕ) → is_ceiling rights ≡ true → is_told_ceiling version rights ≡ true
    → rights_above (plain_word rights) (further_above version (if_further version (further_word rights ∷ []))) ≡ Ok rights
ceiling-back version rights is told =
    let most = within-most rights all_rights (and_parts (is_within rights all_rights) _ is).0 in
    ap (rights_above (plain_word rights)) (above-back version rights told)
    ∙ ap ceiling_from (set-back rights most)
    ∙ ap (λ (b : Bool). cond b (Ok rights) (Err Syntax)) is

-- WHAT IS READ HAS THESE WORDS

-- two sets of which a range is made
pub record Ranges (all : ℕ) (least greatest : Option ℕ) (range : ℕ × ℕ) : Type 0 where
  pub least_is : least ≡ Some range.0
  pub greatest_is : greatest ≡ Some range.1
  pub proper : is_range all range.0 range.1 ≡ true

pub range-is : (all : ℕ) (least greatest : Option ℕ) (range : ℕ × ℕ) → range_from all least greatest ≡ Ok range → Ranges all least greatest range
range-is all None greatest range is = absurd cc
range-is all (Some a) None range is = absurd cc
range-is all (Some a) (Some b) range is = go (is_range all a b) refl is
  where
    go : (proper : Bool) → is_range all a b ≡ proper → cond proper (Ok (a, b)) (Err Syntax) ≡ Ok range → Ranges all (Some a) (Some b) range
    go false p is = absurd cc
    go true p is =
        let pair : ℕ × ℕ = (a, b) in
        let same : pair ≡ range = cc in
        subst (Ranges all (Some a) (Some b)) same (record { least_is = refl; greatest_is = refl; proper = p })

-- a set that is read of a word of the fourteen rights, and further ones
record SetIs (word : List ℕ) (further set : ℕ) : Type 0 where
  plain : ℕ
  word_is : hex_text 4 plain ≡ word
  known : is_within plain plain_rights ≡ true
  whole : both_parts plain further ≡ set

set-is : (word : List ℕ) (further set : ℕ) → rights_from (hex_of 4 word) further ≡ Some set → SetIs word further set
set-is word further set is = go (hex_of 4 word) refl is
  where
    within : (n : ℕ) (known : Bool) → hex_of 4 word ≡ Some n → is_within n plain_rights ≡ known → cond known (Some (both_parts n further)) None ≡ Some set → SetIs word further set
    within n false read k is = absurd cc
    within n true read k is = record { plain = n; word_is = sym (hex-text 4 word n read).0; known = k; whole = cc }

    go : (o : Option ℕ) → hex_of 4 word ≡ o → rights_from o further ≡ Some set → SetIs word further set
    go None read is = absurd cc
    go (Some n) read is = within n (is_within n plain_rights) read refl is

module _ {word : List ℕ} {further set : ℕ} (is : SetIs word further set) where
  plain-word-is : plain_word set ≡ word
  plain-word-is =
      ap plain_word (sym is.whole) ∙ ap (hex_text 4) (plain-of is.plain further (plain-small is.plain is.known)) ∙ is.word_is

  further-is : further < 2 ^ 32 → further_part set ≡ further
  further-is few = ap further_part (sym is.whole) ∙ further-of is.plain further (plain-small is.plain is.known) few

  set-least-told : further ≡ 0 → is_within set plain_rights ≡ true
  set-least-told none =
      subst (λ n. is_within n plain_rights ≡ true) (ap (both_parts is.plain) (sym none) ∙ is.whole) (least-told is.plain is.known)

  set-greatest-told : further ≡ 2 ^ 32 - 1 → is_within further_rights set ≡ true
  set-greatest-told all =
      subst (λ n. is_within further_rights n ≡ true) (ap (both_parts is.plain) (sym all) ∙ is.whole) (greatest-told is.plain is.known)

-- further rights of two sets, told or not
record TwoAre (tells : Bool) (words : List (List ℕ)) (further : ℕ × ℕ) : Type 0 where
  words_are : cond tells (hex_text 8 further.0 ∷ hex_text 8 further.1 ∷ []) [] ≡ words
  least_few : further.0 < 2 ^ 32
  greatest_few : further.1 < 2 ^ 32
  none : tells ≡ false → further.0 ≡ 0
  all : tells ≡ false → further.1 ≡ 2 ^ 32 - 1

two-are : (tells : Bool) (words : List (List ℕ)) (further : ℕ × ℕ) → cond tells (told_further words) (if_no_word (0, 2 ^ 32 - 1) words) ≡ Some further
    → TwoAre tells words further
two-are true [] further is = absurd cc
two-are true (a ∷ []) further is = absurd cc
two-are true (a ∷ b ∷ []) further is = go (hex_of 8 a) (hex_of 8 b) refl refl is
  where
    go : (x y : Option ℕ) → hex_of 8 a ≡ x → hex_of 8 b ≡ y → two_from x y ≡ Some further → TwoAre true (a ∷ b ∷ []) further
    go None y a_is b_is is = absurd cc
    go (Some m) None a_is b_is is = absurd cc
    go (Some m) (Some n) a_is b_is is =
        let pair : ℕ × ℕ = (m, n) in
        let same : pair ≡ further = cc in
        let left = hex-text 8 a m a_is in
        let right = hex-text 8 b n b_is in
        let left_few = left.1 in
        let right_few = right.1 in
        subst (TwoAre true (a ∷ b ∷ [])) same (record {
          words_are = λ i. sym left.0 i ∷ sym right.0 i ∷ [];
          least_few = omega (arith, left_few);
          greatest_few = omega (arith, right_few);
          none = λ not. absurd cc;
          all = λ not. absurd cc;
        })
two-are true (a ∷ b ∷ c ∷ words) further is = absurd cc
two-are false [] further is =
    let pair : ℕ × ℕ = (0, 2 ^ 32 - 1) in
    let same : pair ≡ further = cc in
    subst (TwoAre false []) same (record { words_are = refl; least_few = omega arith; greatest_few = omega arith; none = λ not. refl; all = λ not. refl })
two-are false (a ∷ words) further is = absurd cc

pub record RightsAre (version : Version) (least greatest : List ℕ) (words : List (List ℕ)) (range : ℕ × ℕ) : Type 0 where
  pub least_is : plain_word range.0 ≡ least
  pub greatest_is : plain_word range.1 ≡ greatest
  pub further_are : if_further version (further_word range.0 ∷ further_word range.1 ∷ []) ≡ words
  pub proper : is_range all_rights range.0 range.1 ≡ true
  pub told : are_told_sets version range.0 range.1 ≡ true

pub rights-are : (version : Version) (least greatest : List ℕ) (words : List (List ℕ)) (range : ℕ × ℕ)
    → rights_of_words least greatest (further_of_words version words) ≡ Ok range → RightsAre version least greatest words range
rights-are version least greatest words range is = go (further_of_words version words) refl is
  where
    told-by : (tells : Bool) (x y : ℕ) → (tells ≡ false → is_within x plain_rights ≡ true) → (tells ≡ false → is_within further_rights y ≡ true)
        → (tells || (is_within x plain_rights && is_within further_rights y)) ≡ true
    told-by true x y few most = refl
    told-by false x y few most = and_from (is_within x plain_rights) (is_within further_rights y) (few refl) (most refl)

    go : (o : Option (ℕ × ℕ)) → further_of_words version words ≡ o → rights_of_words least greatest o ≡ Ok range → RightsAre version least greatest words range
    go None read is = absurd cc
    go (Some further) read is =
        let sets = range-is all_rights (rights_from (hex_of 4 least) further.0) (rights_from (hex_of 4 greatest) further.1) range is in
        let two = two-are (tells_further version) words further read in
        let low = set-is least further.0 range.0 sets.least_is in
        let high = set-is greatest further.1 range.1 sets.greatest_is in
        record {
          least_is = plain-word-is low;
          greatest_is = plain-word-is high;
          further_are = (λ i. if_further version (hex_text 8 (further-is low two.least_few i) ∷ hex_text 8 (further-is high two.greatest_few i) ∷ [])) ∙ two.words_are;
          proper = sets.proper;
          told = told-by (tells_further version) range.0 range.1 (λ not. set-least-told low (two.none not)) (λ not. set-greatest-told high (two.all not));
        }

-- further rights of a ceiling, told or not
record OneIs (tells : Bool) (words : List (List ℕ)) (further : ℕ) : Type 0 where
  words_are : cond tells (hex_text 8 further ∷ []) [] ≡ words
  few : further < 2 ^ 32
  none : tells ≡ false → further ≡ 0

one-is : (tells : Bool) (words : List (List ℕ)) (further : ℕ) → cond tells (told_above words) (if_no_word 0 words) ≡ Some further → OneIs tells words further
one-is true [] further is = absurd cc
one-is true (a ∷ []) further is =
    let read = hex-text 8 a further is in
    let few = read.1 in
    record { words_are = ap (λ word. word ∷ []) (sym read.0); few = omega (arith, few); none = λ not. absurd cc }
one-is true (a ∷ b ∷ words) further is = absurd cc
one-is false [] further is =
    let same : 0 ≡ further = cc in
    subst (OneIs false []) same (record { words_are = refl; few = omega arith; none = λ not. refl })
one-is false (a ∷ words) further is = absurd cc

pub record CeilingIs (version : Version) (plain : List ℕ) (words : List (List ℕ)) (rights : ℕ) : Type 0 where
  pub words_are : ceiling_words version rights ≡ plain ∷ words
  pub proper : is_ceiling rights ≡ true
  pub told : is_told_ceiling version rights ≡ true

pub ceiling-is : (version : Version) (plain : List ℕ) (words : List (List ℕ)) (rights : ℕ) → rights_above plain (further_above version words) ≡ Ok rights
    → CeilingIs version plain words rights
ceiling-is version plain words rights is = go (further_above version words) refl is
  where
    told-by : (tells : Bool) (x : ℕ) → (tells ≡ false → is_within x plain_rights ≡ true) → (tells || is_within x plain_rights) ≡ true
    told-by true x few = refl
    told-by false x few = few refl

    within : (further n : ℕ) (proper : Bool) → further_above version words ≡ Some further → rights_from (hex_of 4 plain) further ≡ Some n → is_ceiling n ≡ proper
        → cond proper (Ok n) (Err Syntax) ≡ Ok rights → CeilingIs version plain words rights
    within further n false read set p is = absurd cc
    within further n true read set p is =
        let same : n ≡ rights = cc in
        let one = one-is (tells_further version) words further read in
        let whole = set-is plain further n set in
        subst (CeilingIs version plain words) same (record {
          words_are = λ i. plain-word-is whole i ∷ ((λ j. if_further version (hex_text 8 (further-is whole one.few j) ∷ [])) ∙ one.words_are) i;
          proper = p;
          told = told-by (tells_further version) n (λ not. set-least-told whole (one.none not));
        })

    made : (further : ℕ) (o : Option ℕ) → further_above version words ≡ Some further → rights_from (hex_of 4 plain) further ≡ o → ceiling_from o ≡ Ok rights
        → CeilingIs version plain words rights
    made further None read set is = absurd cc
    made further (Some n) read set is = within further n (is_ceiling n) read set refl is

    go : (o : Option ℕ) → further_above version words ≡ o → rights_above plain o ≡ Ok rights → CeilingIs version plain words rights
    go None read is = absurd cc
    go (Some further) read is = made further (rights_from (hex_of 4 plain) further) read refl is
