-- Lists of remarks that some are added to: none, some and then others, and those of one number more.
use Rattle.std.proofs.Common.{◌≡◌, ◌+◌, ◌++◌, ◌∙◌, ℕ, zero, suc, List, [], ◌∷◌, ap, append_assoc, arith, map, sym}
use Rattle.std.specs.List.{flat_map, range_with_len}
use Rattle.std.proofs.lemmas.List.{append-nil}
use Rattle.std.proofs.lemmas.List.Concat.{flat_map-append}
use Rattle.remarks.specs.declared.remarks.Remarked.{Remarked as RemarkedCode}
use Rattle.remarks.specs.Listed.{Remarked}
use Rattle.remarks.specs.RemarkViews.{AddsRemarks, remarked_of}

pub adds_none : (list : List RemarkedCode) → AddsRemarks list list []
adds_none list = sym (append-nil (map remarked_of list))

pub adds_both : (before between after : List RemarkedCode) (some others : List Remarked)
    → AddsRemarks before between some → AddsRemarks between after others → AddsRemarks before after (some ++ others)
adds_both before between after some others first second =
    second ∙ ap (λ list. list ++ others) first ∙ append_assoc (map remarked_of before) some others

range_last : (n first : ℕ) → range_with_len first (suc n) ≡ range_with_len first n ++ (first + n) ∷ []
range_last zero first =
    let same : first ≡ first + 0 = omega arith in
    ap (λ last. last ∷ []) same
range_last (suc n) first =
    let same : first + 1 + n ≡ first + suc n = omega arith in
    ap (λ list. first ∷ list) (range_last n (first + 1)) ∙ ap (λ last. first ∷ range_with_len (first + 1) n ++ last ∷ []) same

pub range_more : (n : ℕ) → range_with_len 0 (n + 1) ≡ range_with_len 0 n ++ n ∷ []
range_more n =
    let more : n + 1 ≡ suc n = omega arith in
    let same : 0 + n ≡ n = omega arith in
    ap (range_with_len 0) more ∙ range_last n 0 ∙ ap (λ last. range_with_len 0 n ++ last ∷ []) same

flat_more : {Y : Type 0} (f : ℕ → List Y) (n : ℕ) → flat_map f (range_with_len 0 (n + 1)) ≡ flat_map f (range_with_len 0 n) ++ f n
flat_more f n =
    ap (flat_map f) (range_more n) ∙ flat_map-append f (range_with_len 0 n) (n ∷ [])
    ∙ ap (λ list. flat_map f (range_with_len 0 n) ++ list) (append-nil (f n))

pub adds_one_more : (f : ℕ → List Remarked) (n : ℕ) (before between after : List RemarkedCode)
    → AddsRemarks before between (flat_map f (range_with_len 0 n)) → AddsRemarks between after (f n) → AddsRemarks before after (flat_map f (range_with_len 0 (n + 1)))
adds_one_more f n before between after so_far more =
    adds_both before between after (flat_map f (range_with_len 0 n)) (f n) so_far more
    ∙ ap (λ list. map remarked_of before ++ list) (sym (flat_more f n))
