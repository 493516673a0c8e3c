-- Names that lie in one text: what is put before them, passed, and appended to the text.
use Rattle.std.proofs.Common.{◌≡◌, ℕ, zero, suc, ◌<◌, ◌≤◌, ◌-◌, ◌+◌, List, [], ◌∷◌, ◌++◌, Option, Some, None, Result, Ok, Err, length, map, take, drop, get_or, ap, subst, sym, ◌∙◌, refl, arith}
use Rattle.std.specs.Prelude.{◌≢◌, OnOk, reverse, slice_get}
use Rattle.std.specs.Option.{option_map, option_to_list}
use Rattle.std.proofs.lemmas.Option.{slice_get-map, slice_get-get_or, get_or_from_slice_get}
use Rattle.std.specs.declared.alloc.AllocError.{AllocError}
use Rattle.std.proofs.Math.Seq.{drop-append_seam}
use Rattle.std.proofs.lemmas.List.{append_assoc, append-nil, reverse-append, map-append, length-append, length-map, length-reverse, get_or-reverse}
use Rattle.std.proofs.lemmas.List.{length-drop, length-take, take-append-le, drop-append-le, drop_more}
use Rattle.file_tree.specs.Places.{with_name, names_from, path_components}
use Rattle.lookup.specs.NameViews.{AreSpansOf, IsSpanOf, spanned, all_spanned}
use Rattle.lookup.specs.declared.names.Span.{Span}
use Rattle.lookup.proofs.PathLaws.{names_at_byte}

-- a span that is pushed comes first
all_spanned-push : (text : List ℕ) (spans : List Span) (span : Span) → all_spanned text (spans ++ span ∷ []) ≡ spanned text span ∷ all_spanned text spans
all_spanned-push text spans span = rw (map-append (spanned text) spans (span ∷ []), reverse-append (map (spanned text) spans) (spanned text span ∷ [])) refl

pub within_push : (text : List ℕ) (spans : List Span) (span : Span) → AreSpansOf text spans → IsSpanOf text span → AreSpansOf text (spans ++ span ∷ [])
within_push text [] span all here = (here, tt)
within_push text (s ∷ spans) span all here = (all.0, within_push text spans span all.1 here)

-- a span that is popped lay in the text, and so do the others
within_pop : (text : List ℕ) (spans : List Span) (span : Span) → AreSpansOf text (spans ++ span ∷ []) → AreSpansOf text spans × IsSpanOf text span
within_pop text [] span all = (tt, all.0)
within_pop text (s ∷ spans) span all = let rest = within_pop text spans span all.1 in ((all.0, rest.0), rest.1)

pub within_rest : (text : List ℕ) (spans rest : List Span) (r : Option Span) → spans ≡ rest ++ option_to_list r → AreSpansOf text spans → AreSpansOf text rest
within_rest text spans rest None is all = let same : spans ≡ rest = is ∙ append-nil rest in rw same at all
within_rest text spans rest (Some span) is all = (within_pop text rest span (rw is at all)).0

-- the last one lies in it
last_split : (n : ℕ) (spans : List Span) (span : Span) → length spans ≡ suc n → slice_get spans n ≡ Some span → spans ≡ take n spans ++ span ∷ []
last_split n [] span count is = cc
last_split zero (s ∷ []) span count is = cc
last_split zero (s ∷ t ∷ spans) span count is = absurd (omega arith)
last_split (suc n) (s ∷ spans) span count is = ap (λ (rest : List Span). s ∷ rest) (last_split n spans span (omega arith) is)

pub within_last : (text : List ℕ) (spans : List Span) (i : ℕ) (span : Span) → i ≡ length spans - 1 → slice_get spans i ≡ Some span → AreSpansOf text spans → IsSpanOf text span
within_last text [] i span last is all = cc
within_last text (s ∷ spans) i span last is all =
    let count : length (s ∷ spans) ≡ suc i = omega arith in
    (within_pop text (take i (s ∷ spans)) span (subst (AreSpansOf text) (last_split i (s ∷ spans) span count is) all)).1

-- and so does each of them, which comes as far from the front as it lies from the end
pub within_at : (text : List ℕ) (spans : List Span) (i : ℕ) (span : Span) → slice_get spans i ≡ Some span → AreSpansOf text spans → IsSpanOf text span
within_at text [] i span is all = absurd cc
within_at text (s ∷ spans) zero span is all = let same : s ≡ span = cc in subst (IsSpanOf text) same all.0
within_at text (s ∷ spans) (suc i) span is all = within_at text spans i span is all.1

pub name_behind : (text : List ℕ) (spans : List Span) (at : ℕ) (span : Span) → at < length spans → slice_get spans (length spans - 1 - at) ≡ Some span →
    slice_get (all_spanned text spans) at ≡ Some (spanned text span)
name_behind text spans at span low is =
    let names : List (List ℕ) = map (spanned text) spans in
    let count : length names ≡ length spans = length-map spans (spanned text) in
    let fits : at < length names = rw count low in
    let turned : at < length (reverse names) = rw (length-reverse names) fits in
    let there : slice_get names (length names - 1 - at) ≡ Some (spanned text span) =
    rw count (slice_get-map (spanned text) spans (length spans - 1 - at) ∙ ap (option_map (spanned text)) is) in
    slice_get-get_or (reverse names) at [] turned
    ∙ ap Some (get_or-reverse names at [] fits ∙ get_or_from_slice_get names (length names - 1 - at) (spanned text span) [] there)

-- what is appended to the text leaves them as they are
within_more : (text more : List ℕ) (spans : List Span) → AreSpansOf text spans → AreSpansOf (text ++ more) spans
within_more text more [] all = tt
within_more text more (s ∷ spans) all =
    let longer = length-append text more in
    let fits : s.end ≤ length (text ++ more) = omega arith in
    ((all.0.0, fits), within_more text more spans all.1)

name_more : (text more : List ℕ) (span : Span) → IsSpanOf text span → spanned (text ++ more) span ≡ spanned text span
name_more text more span here =
    let count = length-drop span.start text in
    let whole : span.start ≤ length text = omega arith in
    let short : span.end - span.start ≤ length (drop span.start text) = omega arith in
    rw (drop-append-le span.start text more whole, take-append-le (span.end - span.start) (drop span.start text) more short) refl

names_same : (text more : List ℕ) (spans : List Span) → AreSpansOf text spans → map (spanned (text ++ more)) spans ≡ map (spanned text) spans
names_same text more [] all = refl
names_same text more (s ∷ spans) all = rw (name_more text more s all.0, names_same text more spans all.1) refl

all_spanned-more : (text more : List ℕ) (spans : List Span) → AreSpansOf text spans → all_spanned (text ++ more) spans ≡ all_spanned text spans
all_spanned-more text more spans all = ap reverse (names_same text more spans all)

-- a name that isn't empty comes before others
with_name_some : (name : List ℕ) (names : List (List ℕ)) → 0 < length name → with_name name names ≡ name ∷ names
with_name_some [] names h = absurd (omega arith)
with_name_some (b ∷ name) names h = refl

name_length : (text : List ℕ) (start end : ℕ) → start ≤ end → end ≤ length text → length (take (end - start) (drop start text)) ≡ end - start
name_length text start end low high = simp (length-take, length-drop) (omega arith)

pub put_some : (text : List ℕ) (spans after : List Span) (span : Span) → after ≡ spans ++ span ∷ [] → span.start ≤ span.end → span.start ≢ span.end → span.end ≤ length text →
    all_spanned text after ≡ with_name (spanned text span) (all_spanned text spans)
put_some text spans after span is low some high =
    let count = name_length text span.start span.end low high in
    rw is (all_spanned-push text spans span ∙ sym (with_name_some (spanned text span) (all_spanned text spans) (omega arith)))

-- The names of what was read of a path, from its end, come before others; the first one goes on to the left.
abbrev pub AreRead : List ℕ → List (List ℕ) → ℕ → ℕ → List (List ℕ) → Type 0
AreRead text old start end names =
    (begun : List ℕ) → names_from begun (drop start text) ++ old ≡ with_name (begun ++ take (end - start) (drop start text)) names

pub read_byte : (text : List ℕ) (old : List (List ℕ)) (i start end : ℕ) (names : List (List ℕ)) → start ≡ i + 1 → i < length text → start ≤ end → get_or text i 0 ≢ 47 →
    AreRead text old start end names → AreRead text old i end names
read_byte text old i start end names next there low other read begun =
    let longer : end - i ≡ suc (end - (i + 1)) = omega arith in
    let same = append_assoc begun (get_or text i 0 ∷ []) (take (end - (i + 1)) (drop (i + 1) text)) in
    let later : AreRead text old (i + 1) end names = rw next at read in
    rw (names_at_byte begun text i there other, longer, drop_more text i 0 there)
    (later (begun ++ get_or text i 0 ∷ []) ∙ ap (λ (name : List ℕ). with_name name names) same)

pub all_read : (text : List ℕ) (old : List (List ℕ)) (from start end : ℕ) (names : List (List ℕ)) (after : List Span) (r : Result (Unit {0}) AllocError) → start ≡ from →
    AreRead text old start end names → OnOk r (all_spanned text after ≡ with_name (take (end - start) (drop start text)) names) →
    OnOk r (all_spanned text after ≡ path_components (drop from text) ++ old)
unfolding path_components
all_read text old from start end names after (Ok u) here read is = rw (← here) (is ∙ sym (read []))
all_read text old from start end names after (Err e) here read is = tt

-- The names of a path that is appended to the text come before the others.
pub put_within : (text path whole : List ℕ) (spans after : List Span) → whole ≡ text ++ path → AreSpansOf text spans →
    (AreSpansOf whole spans → AreSpansOf whole after) → AreSpansOf whole after
put_within text path whole spans after is all keep = keep (rw is (within_more text path spans all))

pub put_first : (text path whole : List ℕ) (from : ℕ) (spans after : List Span) (names : List (List ℕ)) (r : Result (Unit {0}) AllocError) → whole ≡ text ++ path → from ≡ length text →
    AreSpansOf text spans → all_spanned text spans ≡ names → OnOk r (all_spanned whole after ≡ path_components (drop from whole) ++ all_spanned whole spans) →
    OnOk r (all_spanned whole after ≡ path_components path ++ names)
put_first text path whole from spans after names (Ok u) is here all view put =
    let path_is : drop from whole ≡ path = rw (is, here) (drop-append_seam text path) in
    let old : all_spanned whole spans ≡ names = rw is (all_spanned-more text path spans all ∙ view) in
    rw (path_is, old) at put
put_first text path whole from spans after names (Err e) is here all view put = tt
