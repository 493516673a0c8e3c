-- The words of a line, byte by byte.
use Rattle.std.proofs.Common.{◌≡◌, ◌+◌, ◌-◌, ◌<◌, ◌≤◌, ℕ, suc, Bool, true, false, List, [], ◌∷◌, ◌++◌, length, map, get_or, take, drop, refl, ap, sym, ◌∙◌, arith, append_assoc}
use Rattle.std.proofs.Common.{length-drop, length-take-le, drop-cons}
use Rattle.std.specs.Prelude.{cond, not, ◌&&◌, ◌||◌, is_some, Some, slice_range}
use Rattle.std.proofs.Math.Seq.{take-suc}
use Rattle.std.proofs.lemmas.List.{get_or-drop, map-append}
use Rattle.instruction_set.specs.Lines.{word_ended, has_stray, has_stray_from, is_blank, is_word_byte, quoted_behind, quoted_words, words_from}
use Rattle.prog_asm.specs.LineFaults.{stray_from, stray_in}
use Rattle.prog_asm.specs.declared.lines.Word.{Word as WordCode}
use Rattle.prog_asm.specs.LineViews.{texts_of, word_of}
use Rattle.prog_asm.specs.WordPlaces.{Word, placed_from, placed_word, placed_words}

-- The words so far, the word that has begun, and what is left.
pub record WordsSoFar (line : List ℕ) (words : List Word) (quoted : Bool) (start at : ℕ) : Type 0 where
  pub begun : start ≤ at
  pub same : words ++ placed_from quoted at (drop at line) (slice_range line start at) ≡ placed_words line

abbrev pub word_from : List ℕ → ℕ → ℕ → Word
word_from line start at = record { text = slice_range line start at; span = record { start = start; end = at } }

placed-blank : (at b : ℕ) (rest begun : List ℕ) → is_blank b ≡ true → placed_from false at (b ∷ rest) begun ≡ placed_word begun at ++ placed_from false (at + 1) rest []
placed-blank at b rest begun blank =
    ap (λ is. cond is (placed_word begun at ++ placed_from false (at + 1) rest []) (placed_from (quoted_behind false b) (at + 1) rest (begun ++ b ∷ []))) blank

placed-more : (quoted : Bool) (at b : ℕ) (rest begun : List ℕ) → (not quoted && is_blank b) ≡ false →
    placed_from quoted at (b ∷ rest) begun ≡ placed_from (quoted_behind quoted b) (at + 1) rest (begun ++ b ∷ [])
placed-more quoted at b rest begun more =
    ap (λ is. cond is (placed_word begun at ++ placed_from false (at + 1) rest []) (placed_from (quoted_behind quoted b) (at + 1) rest (begun ++ b ∷ []))) more

placed-some : (begun : List ℕ) (at : ℕ) → 0 < length begun → placed_word begun at ≡ record { text = begun; span = record { start = at - length begun; end = at } } ∷ []
placed-some [] at some = absurd (omega arith)
placed-some (b ∷ begun) at some = refl

slice_range-none : (line : List ℕ) (start end : ℕ) → end ≤ start → slice_range line start end ≡ []
slice_range-none line start end none = let zero_is : end - start ≡ 0 = omega arith in ap (λ n. take n (drop start line)) zero_is

length-slice_range : (line : List ℕ) (start at : ℕ) → at ≤ length line → length (slice_range line start at) ≡ at - start
length-slice_range line start at within = length-take-le (at - start) (drop start line) (omega (arith, length-drop start line))

slice_range-more : (line : List ℕ) (start at : ℕ) → start ≤ at → at < length line → slice_range line start (at + 1) ≡ slice_range line start at ++ get_or line at 0 ∷ []
slice_range-more line start at begun within =
    let rest = drop start line in
    let long : at - start < length rest = omega (arith, length-drop start line) in
    let count : at + 1 - start ≡ suc (at - start) = omega arith in
    let place : start + (at - start) ≡ at = omega arith in
    ap (λ n. take n rest) count ∙ take-suc rest (at - start) 0 long ∙ ap (λ b. take (at - start) rest ++ b ∷ []) (get_or-drop start line (at - start) 0 ∙ ap (λ n. get_or line n 0) place)

-- the word that ends there
placed-there : (line : List ℕ) (start at : ℕ) → start < at → at ≤ length line → placed_word (slice_range line start at) at ≡ word_from line start at ∷ []
placed-there line start at some within =
    let long = length-slice_range line start at within in
    let begins : at - length (slice_range line start at) ≡ start = omega (arith, long) in
    placed-some (slice_range line start at) at (omega (arith, long)) ∙ ap (λ n. record { text = slice_range line start at; span = record { start = n; end = at } } ∷ []) begins

here : (line : List ℕ) (at : ℕ) → at < length line → drop at line ≡ get_or line at 0 ∷ drop (at + 1) line
here line at within = let next : suc at ≡ at + 1 = omega arith in drop-cons line at 0 within ∙ ap (λ n. get_or line at 0 ∷ drop n line) next

-- a blank behind a word
pub word-ends : (line : List ℕ) (words : List Word) (start at : ℕ) → start < at → at < length line → is_blank (get_or line at 0) ≡ true →
    WordsSoFar line words false start at → WordsSoFar line (words ++ word_from line start at ∷ []) false (at + 1) (at + 1)
word-ends line words start at some within blank so_far =
    let word = slice_range line start at in
    let rest = drop (at + 1) line in
    let placed = word_from line start at in
    record {
      begun = omega arith;
      same =
          ap (λ begun. (words ++ placed ∷ []) ++ placed_from false (at + 1) rest begun) (slice_range-none line (at + 1) (at + 1) (omega arith))
          ∙ append_assoc words (placed ∷ []) (placed_from false (at + 1) rest [])
          ∙ sym (ap (λ left. words ++ placed_from false at left word) (here line at within)
          ∙ ap (λ more. words ++ more) (placed-blank at (get_or line at 0) rest word blank
          ∙ ap (λ more. more ++ placed_from false (at + 1) rest []) (placed-there line start at some (omega arith))))
          ∙ so_far.same;
    }

-- a blank behind none
pub no-word-ends : (line : List ℕ) (words : List Word) (start at : ℕ) → at ≤ start → at < length line → is_blank (get_or line at 0) ≡ true →
    WordsSoFar line words false start at → WordsSoFar line words false (at + 1) (at + 1)
no-word-ends line words start at none within blank so_far =
    let rest = drop (at + 1) line in
    record {
      begun = omega arith;
      same =
          ap (λ begun. words ++ placed_from false (at + 1) rest begun) (slice_range-none line (at + 1) (at + 1) (omega arith))
          ∙ sym (ap (λ left. words ++ placed_from false at left (slice_range line start at)) (here line at within)
          ∙ ap (λ more. words ++ more) (placed-blank at (get_or line at 0) rest (slice_range line start at) blank
          ∙ ap (λ begun. placed_word begun at ++ placed_from false (at + 1) rest []) (slice_range-none line start at none)))
          ∙ so_far.same;
    }

-- a byte of a word
pub word-goes-on : (line : List ℕ) (words : List Word) (quoted : Bool) (start at : ℕ) → at < length line →
    (not quoted && is_blank (get_or line at 0)) ≡ false → WordsSoFar line words quoted start at →
    WordsSoFar line words (quoted_behind quoted (get_or line at 0)) start (at + 1)
word-goes-on line words quoted start at within more so_far =
    let b = get_or line at 0 in
    let rest = drop (at + 1) line in
    record {
      begun = omega (arith, so_far.begun);
      same =
          sym (ap (λ left. words ++ placed_from quoted at left (slice_range line start at)) (here line at within)
          ∙ ap (λ more. words ++ more) (placed-more quoted at b rest (slice_range line start at) more
          ∙ ap (λ begun. placed_from (quoted_behind quoted b) (at + 1) rest begun) (sym (slice_range-more line start at so_far.begun within))))
          ∙ so_far.same;
    }

-- The words are those of the line, wherever they stand.
placed-ended : (begun : List ℕ) (at : ℕ) → map (λ word. word.text) (placed_word begun at) ≡ word_ended begun
placed-ended [] at = refl
placed-ended (b ∷ begun) at = refl

placed-texts : (quoted : Bool) (at : ℕ) (line begun : List ℕ) → map (λ word. word.text) (placed_from quoted at line begun) ≡ words_from quoted line begun
placed-texts quoted at [] begun = placed-ended begun at
placed-texts quoted at (b ∷ line) begun =
    go (not quoted && is_blank b)
    (map-append (λ word. word.text) (placed_word begun at) (placed_from false (at + 1) line [])
    ∙ ap (λ ended. ended ++ map (λ word. word.text) (placed_from false (at + 1) line [])) (placed-ended begun at)
    ∙ ap (λ more. word_ended begun ++ more) (placed-texts false (at + 1) line []))
    (placed-texts (quoted_behind quoted b) (at + 1) line (begun ++ b ∷ []))
  where
    go : (ends : Bool) →
        map (λ word. word.text) (placed_word begun at ++ placed_from false (at + 1) line []) ≡ word_ended begun ++ words_from false line [] →
        map (λ word. word.text) (placed_from (quoted_behind quoted b) (at + 1) line (begun ++ b ∷ [])) ≡ words_from (quoted_behind quoted b) line (begun ++ b ∷ []) →
        map (λ word. word.text) (cond ends (placed_word begun at ++ placed_from false (at + 1) line []) (placed_from (quoted_behind quoted b) (at + 1) line (begun ++ b ∷ [])))
        ≡ cond ends (word_ended begun ++ words_from false line []) (words_from (quoted_behind quoted b) line (begun ++ b ∷ []))
    go true there more = there
    go false there more = more

pub texts-placed : (line : List ℕ) → map (λ word. word.text) (placed_words line) ≡ quoted_words line
texts-placed line = placed-texts false 0 line []

pub texts-seen : (words : List WordCode) → texts_of words ≡ map (λ word. word.text) (map word_of words)
texts-seen [] = refl
texts-seen (word ∷ words) = ap (λ rest. word.text.now ∷ rest) (texts-seen words)

-- A byte that no word has is there where one is found.
stray-is : (quoted : Bool) (at : ℕ) (line : List ℕ) → is_some (stray_from quoted at line) ≡ has_stray_from quoted line
stray-is quoted at [] = refl
stray-is quoted at (b ∷ line) = go (not (quoted || is_blank b || is_word_byte b)) (stray-is (quoted_behind quoted b) (at + 1) line)
  where
    go : (is : Bool) → is_some (stray_from (quoted_behind quoted b) (at + 1) line) ≡ has_stray_from (quoted_behind quoted b) line →
        is_some (cond is (Some (record { start = at; end = at + 1 })) (stray_from (quoted_behind quoted b) (at + 1) line)) ≡ (is || has_stray_from (quoted_behind quoted b) line)
    go true rest = refl
    go false rest = rest

pub strays_found : (line : List ℕ) → is_some (stray_in line) ≡ has_stray line
strays_found line = stray-is false 0 line
