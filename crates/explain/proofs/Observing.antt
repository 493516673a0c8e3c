-- Lists of what is observed that some is added to: what is added for one number more, and at one point more.
use Rattle.std.proofs.Common.{◌≡◌, ◌+◌, ◌<◌, ◌++◌, ◌∙◌, ℕ, List, [], ◌∷◌}
use Rattle.std.proofs.Common.{ap, append_assoc, arith, get_or, length, map, sym, take}
use Rattle.std.specs.Prelude.{Result, Ok, Err, OnOk}
use Rattle.std.specs.List.{flat_map, range_with_len}
use Rattle.std.proofs.lemmas.List.{append-nil, length-map, length-take-le, map-append, map-id, take_more}
use Rattle.std.proofs.lemmas.List.Concat.{flat_map-append}
use Rattle.std.proofs.lemmas.List.FromFn.{map-range_with_len_more}
use Rattle.remarks.specs.Warnings.{Warned}
use Rattle.explain.specs.declared.observations.Observation.{Observation}
use Rattle.explain.specs.Observed.{Headed, warned_from, warned_there}
use Rattle.explain.specs.ObservedViews.{AddsObserved, headed}

pub adds_both : (before between after : List Observation) (some others : List Headed)
    → AddsObserved before between some → AddsObserved between after others → AddsObserved before after (some ++ others)
adds_both before between after some others first second =
    second ∙ ap (λ list. list ++ others) first ∙ append_assoc (map headed before) some others

range_more : (n : ℕ) → range_with_len 0 (n + 1) ≡ range_with_len 0 n ++ n ∷ []
range_more n =
    sym (map-id (range_with_len 0 (n + 1))) ∙ map-range_with_len_more (λ m. m) 0 n n (omega arith)
    ∙ ap (λ list. list ++ n ∷ []) (map-id (range_with_len 0 n))

flat_more : (f : ℕ → List Headed) (n : ℕ) → flat_map f (range_with_len 0 (n + 1)) ≡ flat_map f (range_with_len 0 n) ++ f n
flat_more f n =
    ap (flat_map f) (range_more n) ∙ flat_map-append f (range_with_len 0 n) (n ∷ [])
    ∙ ap (λ list. flat_map f (range_with_len 0 n) ++ list) (append-nil (f n))

pub adds_one_more : (f : ℕ → List Headed) (n : ℕ) (before between after : List Observation)
    → AddsObserved before between (flat_map f (range_with_len 0 n)) → AddsObserved between after (f n)
    → AddsObserved before after (flat_map f (range_with_len 0 (n + 1)))
adds_one_more f n before between after so_far more =
    adds_both before between after (flat_map f (range_with_len 0 n)) (f n) so_far more
    ∙ ap (λ list. map headed before ++ list) (sym (flat_more f n))

pub warned_more : (point : ℕ) (ws : List Warned) (w : Warned)
    → warned_from point (ws ++ w ∷ []) ≡ warned_from point ws ++ warned_there (point + length ws) w
warned_more point [] w =
    let same : point ≡ point + 0 = omega arith in
    append-nil (warned_there point w) ∙ ap (λ at. warned_there at w) same
warned_more point (v ∷ ws) w =
    let same : point + 1 + length ws ≡ point + length (v ∷ ws) = omega arith in
    ap (λ list. warned_there point v ++ list) (warned_more (point + 1) ws w ∙ ap (λ at. warned_from (point + 1) ws ++ warned_there at w) same)
    ∙ sym (append_assoc (warned_there point v) (warned_from (point + 1) ws) (warned_there (point + length (v ∷ ws)) w))

-- of one more of a list's first members
pub taken_more : {X : Type 0} (f : X → Warned) (xs : List X) (x : X) (n : ℕ) → n < length xs → x ≡ get_or xs n x
    → warned_from 0 (map f (take (n + 1) xs)) ≡ warned_from 0 (map f (take n xs)) ++ warned_there n (f x)
taken_more f xs x n below is =
    let before = map f (take n xs) in
    let counted : length before ≡ n = length-map (take n xs) f ∙ length-take-le n xs (omega (arith, below)) in
    let so_many : 0 + length before ≡ n = omega (arith, counted) in
    let grown : map f (take (n + 1) xs) ≡ before ++ f x ∷ [] =
    ap (map f) (take_more xs n x below) ∙ map-append f (take n xs) (get_or xs n x ∷ []) ∙ ap (λ y. before ++ f y ∷ []) (sym is) in
    ap (warned_from 0) grown ∙ warned_more 0 before (f x) ∙ ap (λ at. warned_from 0 before ++ warned_there at (f x)) so_many

-- what follows from something where it is done
pub on_ok : {T E : Type 0} (r : Result T E) (P Q : Type 0) → (P → Q) → OnOk r P → OnOk r Q
on_ok (Ok x) P Q so is = so is
on_ok (Err e) P Q so is = is
