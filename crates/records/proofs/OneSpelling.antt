-- A text has one spelling: bytes that are read as some calls are their text.
use Rattle.std.proofs.Common.{◌≡◌, ℕ, ◌+◌, Bool, true, false, cond, List, [], ◌∷◌, ◌++◌, length, refl, ap, sym, ◌∙◌, append_assoc, append-nil}
use Rattle.std.specs.Prelude.{Option, Some, None, Ok, option_and_then}
use Rattle.std.specs.List.{flat_map}
use Rattle.std.specs.Str.{bytes_eq}
use Rattle.std.proofs.lemmas.Grind.{flat_map-append}
use Rattle.rights.proofs.Words.{same_bytes}
use Rattle.texts.specs.Lines.{Line as TextLine, lines_from}
use Rattle.texts.specs.Parts.{joined, parts}
use Rattle.texts.proofs.WordLaws.{joined-parts}
use Rattle.records.specs.Calls.{RecordEntry, RecordedCalls}
use Rattle.records.specs.Readings.{Behind, Counts, Form, NoEnd, calls_of_text, ends_after, entry_of_text}
use Rattle.records.specs.Readings.{entry_of_words, faulty, and_entry, if_text, is_counts_line, calls_after, read_last, calls_of_lines}
use Rattle.records.specs.Texts.{calls_text, counts_line, line_with_feed, entry_text, calls_first_line}

-- a line that is read as an entry is its text
if-text : (text : List ℕ) (o : Option RecordEntry) (e : RecordEntry) → option_and_then (if_text text) o ≡ Some e → entry_text e ≡ text
if-text text None e is = absurd cc
if-text text (Some f) e is = go (bytes_eq (entry_text f) text) refl is
  where
    go : (same : Bool) → bytes_eq (entry_text f) text ≡ same → cond same (Some f) None ≡ Some e → entry_text e ≡ text
    go true same is = let f_is : f ≡ e = cc in ap entry_text (sym f_is) ∙ same_bytes (entry_text f) text same
    go false same is = absurd cc

pub line-text : (text : List ℕ) (e : RecordEntry) → entry_of_text text ≡ Some e → entry_text e ≡ text
unfolding entry_of_text
line-text text e is = if-text text (entry_of_words (parts 32 text)) e is

-- the texts of some entries, each with its line feed
abbrev pub body : RecordedCalls → List ℕ
body calls = flat_map (λ entry. line_with_feed (entry_text entry)) calls

-- one more
body-more : (calls : RecordedCalls) (e : RecordEntry) (first rest : List ℕ) → entry_text e ≡ first → body (calls ++ e ∷ []) ++ rest ≡ body calls ++ (first ++ 10 ∷ rest)
body-more calls e first rest is =
    ap (λ text. text ++ rest) (flat_map-append (λ entry. line_with_feed (entry_text entry)) calls (e ∷ []) ∙ ap (λ last. body calls ++ last) (append-nil (line_with_feed (entry_text e))))
    ∙ append_assoc (body calls) (line_with_feed (entry_text e)) rest
    ∙ ap (λ text. body calls ++ text) (append_assoc (entry_text e) (10 ∷ []) rest ∙ ap (λ text. text ++ 10 ∷ rest) is)

-- nothing stands behind the last line
ended-is : (calls d : RecordedCalls) (number : ℕ) (next : List ℕ) (texts : List (List ℕ)) (offset : ℕ) → ends_after calls number (lines_from offset (next ∷ texts)) ≡ Ok d
    → (next ∷ texts ≡ [] ∷ []) × (calls ≡ d)
ended-is calls d number next [] offset is = go (bytes_eq next []) refl is
  where
    go : (empty : Bool) → bytes_eq next [] ≡ empty → cond empty (Ok calls) (faulty Behind (number + 1)) ≡ Ok d → (next ∷ [] ≡ [] ∷ []) × (calls ≡ d)
    go true empty is = (ap (λ text. text ∷ []) (same_bytes next [] empty), cc)
    go false empty is = absurd cc
ended-is calls d number next (text ∷ []) offset is = absurd cc
ended-is calls d number next (text ∷ more ∷ texts) offset is = absurd cc

-- what is left of a text, behind some calls, is what their lines lack of the text of those that are read
last-line : (calls d : RecordedCalls) (number : ℕ) (first next : List ℕ) (texts : List (List ℕ)) (offset : ℕ) → read_last calls number first (lines_from offset (next ∷ texts)) ≡ Ok d
    → body calls ++ joined 10 (first ∷ next ∷ texts) ≡ body d ++ line_with_feed (counts_line d)
unfolding read_last
last-line calls d number first next texts offset is = go (bytes_eq (counts_line calls) first) refl is
  where
    go : (same : Bool) → bytes_eq (counts_line calls) first ≡ same → cond same (ends_after calls number (lines_from offset (next ∷ texts))) (faulty Counts number) ≡ Ok d
        → body calls ++ joined 10 (first ∷ next ∷ texts) ≡ body d ++ line_with_feed (counts_line d)
    go true same is =
        let rest = ended-is calls d number next texts offset is in
        ap (λ texts. body calls ++ joined 10 (first ∷ texts)) rest.0 ∙ ap (λ text. body calls ++ line_with_feed text) (sym (same_bytes (counts_line calls) first same))
        ∙ ap (λ c. body c ++ line_with_feed (counts_line c)) rest.1
    go false same is = absurd cc

-- an entry's line, and then the others
next-line : (calls d : RecordedCalls) (number : ℕ) (first rest : List ℕ) (lines : List TextLine)
    → ((e : RecordEntry) → calls_after lines number (calls ++ e ∷ []) ≡ Ok d → body (calls ++ e ∷ []) ++ rest ≡ body d ++ line_with_feed (counts_line d))
    → and_entry calls number (calls_after lines number) (entry_of_text first) ≡ Ok d → body calls ++ (first ++ 10 ∷ rest) ≡ body d ++ line_with_feed (counts_line d)
next-line calls d number first rest lines more is = go (entry_of_text first) refl is
  where
    go : (read : Option RecordEntry) → entry_of_text first ≡ read → and_entry calls number (calls_after lines number) read ≡ Ok d
        → body calls ++ (first ++ 10 ∷ rest) ≡ body d ++ line_with_feed (counts_line d)
    go None read is = absurd cc
    go (Some e) read is = sym (body-more calls e first rest (line-text first e read)) ∙ more e is

read-texts : (calls d : RecordedCalls) (number : ℕ) (first : List ℕ) (texts : List (List ℕ)) (offset : ℕ) → calls_after (lines_from offset (first ∷ texts)) number calls ≡ Ok d
    → body calls ++ joined 10 (first ∷ texts) ≡ body d ++ line_with_feed (counts_line d)
unfolding calls_after
read-texts calls d number first [] offset is = go (bytes_eq first []) is
  where
    go : (empty : Bool) → cond empty (faulty NoEnd (number + 1)) (faulty Form (number + 1)) ≡ Ok d
        → body calls ++ joined 10 (first ∷ []) ≡ body d ++ line_with_feed (counts_line d)
    go true is = absurd cc
    go false is = absurd cc
read-texts calls d number first (next ∷ texts) offset is =
    go (is_counts_line first) (λ e more. read-texts (calls ++ e ∷ []) d (number + 1) next texts (offset + length first + 1) more) is
  where
    lines : List TextLine
    lines = lines_from (offset + length first + 1) (next ∷ texts)

    go : (last : Bool)
        → ((e : RecordEntry) → calls_after lines (number + 1) (calls ++ e ∷ []) ≡ Ok d → body (calls ++ e ∷ []) ++ joined 10 (next ∷ texts) ≡ body d ++ line_with_feed (counts_line d))
        → cond last (read_last calls (number + 1) first lines) (and_entry calls (number + 1) (calls_after lines (number + 1)) (entry_of_text first)) ≡ Ok d
        → body calls ++ joined 10 (first ∷ next ∷ texts) ≡ body d ++ line_with_feed (counts_line d)
    go true more is = last-line calls d (number + 1) first next texts (offset + length first + 1) is
    go false more is = next-line calls d (number + 1) first (joined 10 (next ∷ texts)) lines more is

-- the lines of a text, from the first one on
whole-text : (d : RecordedCalls) (texts : List (List ℕ)) → calls_of_lines (lines_from 0 texts) ≡ Ok d → calls_text d ≡ joined 10 texts
whole-text d [] is = absurd cc
whole-text d (first ∷ []) is = absurd cc
whole-text d (first ∷ next ∷ texts) is = go (bytes_eq first calls_first_line) refl is
  where
    go : (same : Bool) → bytes_eq first calls_first_line ≡ same → cond same (calls_after (lines_from (0 + length first + 1) (next ∷ texts)) 1 []) (faulty Form 1) ≡ Ok d
        → calls_text d ≡ joined 10 (first ∷ next ∷ texts)
    go true same is =
        let rest = read-texts [] d 1 next texts (0 + length first + 1) is in
        append_assoc calls_first_line (10 ∷ []) (body d ++ line_with_feed (counts_line d)) ∙ ap (λ text. calls_first_line ++ 10 ∷ text) (sym rest)
        ∙ ap (λ line. line ++ 10 ∷ joined 10 (next ∷ texts)) (sym (same_bytes first calls_first_line same))
    go false same is = absurd cc

-- Bytes that are read as some calls are their text.
pub text-read : (text : List ℕ) (d : RecordedCalls) → calls_of_text text ≡ Ok d → calls_text d ≡ text
unfolding calls_of_text
text-read text d is = whole-text d (parts 10 text) is ∙ joined-parts 10 text
