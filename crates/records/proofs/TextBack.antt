-- The text of calls is read as those calls.
use Rattle.std.proofs.Common.{◌≡◌, ℕ, ◌+◌, ◌-◌, ◌^◌, ◌<◌, Bool, true, false, cond, List, [], ◌∷◌, ◌++◌, length, decimal, refl, ap, sym, ◌∙◌, append_assoc, append-nil, arith}
use Rattle.std.specs.Prelude.{◌==◌, codes, min, nat_le, Ok, count_by}
use Rattle.std.specs.List.{flat_map, list_all}
use Rattle.std.proofs.lemmas.Bool.{and_from, and_parts}
use Rattle.std.proofs.lemmas.Bool.Decides.{nat_tests}
use Rattle.std.proofs.lemmas.List.Folds.{list_all-append}
use Rattle.texts.specs.Bytes.{is_digit}
use Rattle.texts.specs.Lines.{Line as TextLine, lines_from}
use Rattle.texts.specs.Parts.{parts, parts_from}
use Rattle.texts.proofs.NumberTexts.{digits-decimal}
use Rattle.texts.proofs.WordLaws.{lacks, lacks-by, parts-more}
use Rattle.records.specs.Calls.{RecordedCalls, RecordEntry, Reason, Loader, Quiet, Global, Right, Unknown, Name, are_calls, is_entry}
use Rattle.records.specs.Named.{all_reasons, reason_name}
use Rattle.records.specs.Readings.{Counts, calls_of_text, ends_after, entry_of_text, faulty, and_entry, is_counts_line, calls_after, read_last, calls_of_lines}
use Rattle.records.specs.Texts.{calls_text, count, counted_text, counts_line, line_with_feed, entry_text, calls_first_line, has_call, is_left_out, wants_right}
use Rattle.records.proofs.LineBack.{text-back, text-goes-on, text-lacks}
use Rattle.records.proofs.OneSpelling.{body}
use Rattle.call_facts.proofs.Same.{same-text}

-- LINES

-- a part that others follow is a line with its line feed
lines-more : (offset : ℕ) (part text begun : List ℕ)
    → lines_from offset (part ∷ parts_from 10 text begun) ≡ (record { text = part; offset = offset; is_ended = true }) ∷ lines_from (offset + length part + 1) (parts_from 10 text begun)
lines-more offset part [] begun = refl
lines-more offset part (b ∷ text) begun = go (b == 10) (lines-more offset part text (begun ++ b ∷ []))
  where
    ends-or : Bool → List (List ℕ)
    ends-or ends = cond ends (begun ∷ parts_from 10 text []) (parts_from 10 text (begun ++ b ∷ []))

    go : (ends : Bool)
        → lines_from offset (part ∷ parts_from 10 text (begun ++ b ∷ []))
        ≡ (record { text = part; offset = offset; is_ended = true }) ∷ lines_from (offset + length part + 1) (parts_from 10 text (begun ++ b ∷ []))
        → lines_from offset (part ∷ ends-or ends) ≡ (record { text = part; offset = offset; is_ended = true }) ∷ lines_from (offset + length part + 1) (ends-or ends)
    go true more = refl
    go false more = more

-- the first line of a text
first-one : (offset : ℕ) (line rest : List ℕ) → lacks 10 line ≡ true
    → lines_from offset (parts 10 (line_with_feed line ++ rest)) ≡ (record { text = line; offset = offset; is_ended = true }) ∷ lines_from (offset + length line + 1) (parts 10 rest)
first-one offset line rest lack =
    ap (λ text. lines_from offset (parts 10 text)) (append_assoc line (10 ∷ []) rest)
    ∙ ap (lines_from offset) (parts-more 10 line rest lack) ∙ lines-more offset line rest []

-- THE LAST LINE

abbrev is_shown : ℕ → Bool
is_shown byte = nat_le 32 byte

shown-digit : (b : ℕ) → is_digit b ≡ true → is_shown b ≡ true
shown-digit b is = grind (arith, nat_tests)

all-shown : (digits : List ℕ) → list_all is_digit digits ≡ true → list_all is_shown digits ≡ true
all-shown [] are = refl
all-shown (b ∷ digits) are =
    let each = and_parts (is_digit b) (list_all is_digit digits) are in and_from (is_shown b) (list_all is_shown digits) (shown-digit b each.0) (all-shown digits each.1)

shown-both : (first rest : List ℕ) → list_all is_shown first ≡ true → list_all is_shown rest ≡ true → list_all is_shown (first ++ rest) ≡ true
shown-both first rest one two = list_all-append is_shown first rest ∙ and_from (list_all is_shown first) (list_all is_shown rest) one two

few : (n : ℕ) → min n (2 ^ 32 - 1) < 2 ^ 64
few n = omega arith

shown-counted : (word : List ℕ) (n : ℕ) → list_all is_shown word ≡ true → list_all is_shown (counted_text word (min n (2 ^ 32 - 1))) ≡ true
shown-counted word n is =
    let number = all-shown (decimal (min n (2 ^ 32 - 1))) (digits-decimal (min n (2 ^ 32 - 1)) (few n)) in
    shown-both word (32 ∷ decimal (min n (2 ^ 32 - 1))) is number

shown-reason : (r : Reason) → list_all is_shown (reason_name r) ≡ true
shown-reason Loader = refl
shown-reason Quiet = refl
shown-reason Global = refl
shown-reason Right = refl
shown-reason Unknown = refl
shown-reason Name = refl

shown-reasons : (reasons : List Reason) (calls : RecordedCalls) → list_all is_shown (flat_map (λ reason. counted_text (reason_name reason) (count (is_left_out reason) calls)) reasons) ≡ true
shown-reasons [] calls = refl
shown-reasons (r ∷ reasons) calls =
    shown-both (counted_text (reason_name r) (count (is_left_out r) calls)) (flat_map (λ reason. counted_text (reason_name reason) (count (is_left_out reason) calls)) reasons)
    (shown-counted (reason_name r) (count_by (λ entry. is_left_out r entry.event) calls) (shown-reason r)) (shown-reasons reasons calls)

end-lacks : (calls : RecordedCalls) → lacks 10 (counts_line calls) ≡ true
unfolding counts_line
end-lacks calls =
    let reasons = flat_map (λ reason. counted_text (reason_name reason) (count (is_left_out reason) calls)) all_reasons in
    let rights = counted_text (codes "rights") (count wants_right calls) in
    let made = counted_text (codes "calls") (count has_call calls) in
    lacks-by is_shown 10 (codes "end" ++ (made ++ (reasons ++ rights))) refl
    (shown-both made (reasons ++ rights) (shown-counted (codes "calls") (count_by (λ entry. has_call entry.event) calls) refl)
    (shown-both reasons rights (shown-reasons all_reasons calls) (shown-counted (codes "rights") (count_by (λ entry. wants_right entry.event) calls) refl)))

end-last : (calls : RecordedCalls) → is_counts_line (counts_line calls) ≡ true
unfolding counts_line
end-last calls = refl

at-end : (calls : RecordedCalls) (offset number : ℕ) → calls_after (lines_from offset (parts 10 (line_with_feed (counts_line calls)))) number calls ≡ Ok calls
unfolding calls_after read_last
at-end calls offset number =
    let rest = lines_from (offset + length (counts_line calls) + 1) (parts 10 []) in
    ap (λ text. calls_after (lines_from offset (parts 10 text)) number calls) (sym (append-nil (line_with_feed (counts_line calls))))
    ∙ ap (λ lines. calls_after lines number calls) (first-one offset (counts_line calls) [] (end-lacks calls))
    ∙ ap (λ (last : Bool). cond last (read_last calls (number + 1) (counts_line calls) rest)
    (and_entry calls (number + 1) (calls_after rest (number + 1)) (entry_of_text (counts_line calls)))) (end-last calls)
    ∙ ap (λ (same : Bool). cond same (ends_after calls (number + 1) rest) (faulty Counts (number + 1))) (same-text (counts_line calls))

-- THE LINES OF ENTRIES

one-line : (done : RecordedCalls) (e : RecordEntry) (offset number : ℕ) (lines : List TextLine) → is_entry e ≡ true
    → calls_after ((record { text = entry_text e; offset = offset; is_ended = true }) ∷ lines) number done ≡ calls_after lines (number + 1) (done ++ e ∷ [])
unfolding calls_after
one-line done e offset number lines is =
    ap (λ (last : Bool). cond last (read_last done (number + 1) (entry_text e) lines)
    (and_entry done (number + 1) (calls_after lines (number + 1)) (entry_of_text (entry_text e)))) (text-goes-on e is)
    ∙ ap (and_entry done (number + 1) (calls_after lines (number + 1))) (text-back e is)

-- The lines of entries, behind those of others, are read as all of them.
read-body : (calls done : RecordedCalls) (offset number : ℕ) (rest : List ℕ) → are_calls calls ≡ true
    → (at : ℕ) × ((line : ℕ) × (calls_after (lines_from offset (parts 10 (body calls ++ rest))) number done ≡ calls_after (lines_from at (parts 10 rest)) line (done ++ calls)))
read-body [] done offset number rest are = (offset, (number, ap (calls_after (lines_from offset (parts 10 rest)) number) (sym (append-nil done))))
read-body (e ∷ calls) done offset number rest are =
    let each = and_parts (is_entry e) (are_calls calls) are in
    let text = entry_text e in
    let behind = offset + length text + 1 in
    let more = read-body calls (done ++ e ∷ []) behind (number + 1) rest each.1 in
    let here : calls_after (lines_from offset (parts 10 (body (e ∷ calls) ++ rest))) number done ≡ calls_after (lines_from behind (parts 10 (body calls ++ rest))) (number + 1) (done ++ e ∷ []) =
    ap (λ t. calls_after (lines_from offset (parts 10 t)) number done) (append_assoc (line_with_feed text) (body calls) rest)
    ∙ ap (λ lines. calls_after lines number done) (first-one offset text (body calls ++ rest) (text-lacks e each.0))
    ∙ one-line done e offset number (lines_from behind (parts 10 (body calls ++ rest))) each.0
    in
    let all = append_assoc done (e ∷ []) calls in
    (more.0, (more.1.0, here ∙ more.1.1 ∙ ap (calls_after (lines_from more.0 (parts 10 rest)) more.1.0) all))

-- The text of calls is read as those calls.
pub calls-back : (calls : RecordedCalls) → are_calls calls ≡ true → calls_of_text (calls_text calls) ≡ Ok calls
unfolding calls_of_text
calls-back calls are =
    let rest = body calls ++ line_with_feed (counts_line calls) in
    let behind = 0 + length calls_first_line + 1 in
    let read = read-body calls [] behind 1 (line_with_feed (counts_line calls)) are in
    ap calls_of_lines (first-one 0 calls_first_line rest refl) ∙ read.1.1 ∙ at-end calls read.0 read.1.0
