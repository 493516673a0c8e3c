-- What a line is read as, by its label and the words behind it.
use Rattle.std.proofs.Common.{◌≡◌, ◌-◌, ℕ, Bool, List, [], ◌∷◌, map, refl, ap, sym, ◌∙◌}
use Rattle.std.specs.Prelude.{Option, Some, None, false, is_ok, is_some, option_map, cond, Result, Ok, Err}
use Rattle.instruction_set.specs.Assembly.{Line, Mistake, Word, labelled, line_read, line_read_of, with_label}
use Rattle.instruction_set.specs.Fields.{before_last}
use Rattle.instruction_set.specs.Forms.{Written}
use Rattle.instruction_set.specs.Lines.{quoted_words, uncommented}
use Rattle.prog_asm.specs.LineFaults.{behind_label, label_in, stray_in}
use Rattle.prog_asm.specs.declared.mistakes.Mistake.{Mistake as MistakeCode}
use Rattle.prog_asm.specs.declared.mistakes.Mistake.TheVariants as mistake
use Rattle.prog_asm.specs.declared.lines.Word.{Word as WordCode}
use Rattle.prog_asm.specs.LineViews.{texts_of, word_of}
use Rattle.prog_asm.specs.ReadingViews.{FailsReading, line_of_parts}
use Rattle.prog_asm.specs.WordPlaces.{Span, placed_words, words_on}
use Rattle.prog_asm.specs.WordPlaces as places
use Rattle.prog_asm.proofs.WordsRead.{strays_found, texts-placed, texts-seen}

-- a label doesn't keep an instruction from being read
pub labels_keep : (label : Option (List ℕ)) (read : Result (Option Written) Mistake) → is_ok (with_label label read) ≡ is_ok read
labels_keep label (Ok read) = refl
labels_keep label (Err mistake) = refl

abbrev pub said : List places.Word → List (List ℕ)
said words = map (λ word. word.text) words

words-parts : (wide : Bool) (stray : Option Span) (words : List places.Word) →
    cond (is_some stray) (Err Word) (line_read_of wide (said words)) ≡ line_of_parts wide stray (label_in words) (said (behind_label words))
words-parts wide (Some at) words = refl
words-parts wide None [] = refl
words-parts wide None (word ∷ words) = go (before_last 58 word.text)
  where
    go : (label : Option (List ℕ)) → labelled wide label word.text (said words) ≡ line_of_parts wide None
        (option_map (λ name. record { text = name; span = record { start = word.span.start; end = word.span.end - 1 } }) label)
        (said (cond (is_some label) words (word ∷ words)))
    go None = refl
    go (Some name) = refl

pub parts-read : (wide : Bool) (text : List ℕ) → line_read wide text ≡ line_of_parts wide (stray_in (uncommented text)) (label_in (words_on text)) (said (behind_label (words_on text)))
unfolding line_read
parts-read wide text =
    let code = uncommented text in
    ap (λ is. cond is (Err Word) (line_read_of wide (quoted_words code))) (sym (strays_found code))
    ∙ ap (λ words. cond (is_some (stray_in code)) (Err Word) (line_read_of wide words)) (sym (texts-placed code))
    ∙ words-parts wide (stray_in code) (placed_words code)

-- A line's parts, as the code has them.
pub parts-seen : (wide : Bool) (text : List ℕ) (stray : Option Span) (label : Option places.Word) (words : List WordCode) → stray ≡ stray_in (uncommented text) → label ≡ label_in (words_on text) →
    map word_of words ≡ behind_label (words_on text) → line_of_parts wide stray label (texts_of words) ≡ line_read wide text
parts-seen wide text stray label words is named behind = ap (line_of_parts wide stray label) (texts-seen words ∙ ap said behind) ∙ rw (is, named) (sym (parts-read wide text))

pub unread-is : (kind : MistakeCode) (read same : Result Line Mistake) → kind ≡ mistake.Wrong → read ≡ same → FailsReading kind read → is_ok same ≡ false
unread-is mistake.Wrong read same is there fails = ap is_ok (sym there) ∙ fails
unread-is mistake.Memory read same is there fails = absurd cc
