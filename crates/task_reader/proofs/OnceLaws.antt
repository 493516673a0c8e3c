-- Words that are given once, and the place of a word among them.
use Rattle.std.proofs.Common.{◌≡◌, ◌<◌, ◌+◌, inl, inr, ℕ, suc, List, [], ◌∷◌, ◌++◌, Option, Some, None, option_map, Bool, true, false, cond, length, map, refl, ap, sym, ◌∙◌}
use Rattle.std.proofs.Common.{append_assoc, append-nil, arith, drop, get_or, subst}
use Rattle.std.specs.Prelude.{◌&&◌, ◌||◌, not, nat_lt, position, if◌then◌else◌}
use Rattle.std.specs.Borrow.{Bor}
use Rattle.std.specs.List.{list_any, position_or_len}
use Rattle.std.specs.Str.{bytes_eq}
use Rattle.std.proofs.lemmas.Bool.{cases_Bool, ltb-true, lt-ltb, ltb_from_iff}
use Rattle.std.proofs.lemmas.Cmp.{nat_list_eq_equiv}
use Rattle.std.proofs.lemmas.List.{map-append}
use Rattle.std.proofs.Math.Seq.{drop-cons}
use Rattle.task_reader.specs.Documents.{is_among, are_once}
use Rattle.task_reader.specs.Written.{place_from, place_among}

-- whether no word is among those before it, where these are seen already
abbrev pub once_behind : List (List ℕ) → List (List ℕ) → Bool
once_behind seen [] = true
once_behind seen (word ∷ words) = not (list_any (bytes_eq word) seen) && once_behind (seen ++ word ∷ []) words

-- whether no word is among others
abbrev none_among : List (List ℕ) → List (List ℕ) → Bool
none_among seen [] = true
none_among seen (word ∷ words) = not (list_any (bytes_eq word) seen) && none_among seen words

seen-more : (a b c d : Bool) → (not (a || b || false) && (c && not d)) ≡ ((not a && c) && not (b || d))
seen-more true b c d = refl
seen-more false true true d = refl
seen-more false true false d = refl
seen-more false false true d = refl
seen-more false false false d = refl

none_among-more : (seen : List (List ℕ)) (word : List ℕ) (words : List (List ℕ)) → none_among (seen ++ word ∷ []) words ≡ (none_among seen words && not (is_among word words))
none_among-more seen word [] = refl
none_among-more seen word (next ∷ words) =
    ap (λ b. not b && none_among (seen ++ word ∷ []) words) (any-more next seen)
    ∙ ap (λ b. not (list_any (bytes_eq next) seen || b || false) && none_among (seen ++ word ∷ []) words) (nat_list_eq_equiv.symm next word)
    ∙ ap (λ b. not (list_any (bytes_eq next) seen || bytes_eq word next || false) && b) (none_among-more seen word words)
    ∙ seen-more (list_any (bytes_eq next) seen) (bytes_eq word next) (none_among seen words) (is_among word words)
  where
    or-or : (a b : Bool) → (a || b || false) ≡ (a || (b || false))
    or-or true b = refl
    or-or false b = refl

    any-more : (next : List ℕ) (seen : List (List ℕ)) → list_any (bytes_eq next) (seen ++ word ∷ []) ≡ (list_any (bytes_eq next) seen || bytes_eq next word || false)
    any-more next [] = refl
    any-more next (x ∷ seen) = elim (cases_Bool (bytes_eq next x)) [ inl here ↦ rw here refl | inr other ↦ rw other (any-more next seen) ]

turned : (a m o n : Bool) → (not a && (o && (n && not m))) ≡ ((not m && o) && (not a && n))
turned true true o n = refl
turned true false true n = refl
turned true false false n = refl
turned false true true true = refl
turned false true true false = refl
turned false true false n = refl
turned false false true true = refl
turned false false true false = refl
turned false false false n = refl

both-ways : (seen words : List (List ℕ)) → once_behind seen words ≡ (are_once words && none_among seen words)
both-ways seen [] = refl
both-ways seen (word ∷ words) =
    ap (λ b. not (list_any (bytes_eq word) seen) && b) (both-ways (seen ++ word ∷ []) words ∙ ap (λ b. are_once words && b) (none_among-more seen word words))
    ∙ turned (list_any (bytes_eq word) seen) (is_among word words) (are_once words) (none_among seen words)

pub once-behind : (words : List (List ℕ)) → are_once words ≡ once_behind [] words
once-behind words = sym (both-ways [] words ∙ ap (λ b. are_once words && b) (nothing words) ∙ and-true (are_once words))
  where
    nothing : (words : List (List ℕ)) → none_among [] words ≡ true
    nothing [] = refl
    nothing (word ∷ words) = nothing words

    and-true : (b : Bool) → (b && true) ≡ b
    and-true true = refl
    and-true false = refl

both-less : (k l : ℕ) → nat_lt (suc k) (suc l) ≡ nat_lt k l
both-less k l = sym (ltb_from_iff (up, down))
  where
    up : nat_lt k l ≡ true → suc k < suc l
    up is = let less : k < l = ltb-true k l is in omega arith

    down : suc k < suc l → nat_lt k l ≡ true
    down is = lt-ltb k l (omega arith)

-- the place of a word in a list of texts
counted-on : (n k l : ℕ) → option_map (λ i. n + i) (cond (nat_lt (suc k) (suc l)) (Some (suc k)) None) ≡ option_map (λ i. n + 1 + i) (cond (nat_lt k l) (Some k) None)
counted-on n k l = ap (λ b. option_map (λ i. n + i) (cond b (Some (suc k)) None)) (both-less k l) ∙ by (nat_lt k l)
  where
    by : (b : Bool) → option_map (λ i. n + i) (cond b (Some (suc k)) None) ≡ option_map (λ i. n + 1 + i) (cond b (Some k) None)
    by true = ap Some (let more : n + suc k ≡ n + 1 + k = omega arith in more)
    by false = refl

counted-so : (n k l : ℕ) → option_map (λ i. n + i) (cond (nat_lt (1 + k) (suc l)) (Some (1 + k)) None) ≡ option_map (λ i. n + 1 + i) (cond (nat_lt k l) (Some k) None)
counted-so n k l = let more : 1 + k ≡ suc k = omega arith in ap (λ s. option_map (λ i. n + i) (cond (nat_lt s (suc l)) (Some s) None)) more ∙ counted-on n k l

here-first : (n l : ℕ) → option_map (λ i. n + i) (cond (nat_lt 0 (suc l)) (Some 0) None) ≡ Some n
here-first n l =
    let less : nat_lt 0 (suc l) ≡ true = lt-ltb 0 (suc l) (omega arith) in
    ap (λ b. option_map (λ i. n + i) (cond b (Some 0) None)) less ∙ ap Some (let same : n + 0 ≡ n = omega arith in same)

place-position : (n : ℕ) (names : List (Bor (List ℕ))) (word : List ℕ)
    → option_map (λ i. n + i) (position (λ name. bytes_eq word name.now) names) ≡ place_from n (map (λ name. name.now) names) word
place-position n [] word = refl
place-position n (name ∷ names) word =
    elim (cases_Bool (bytes_eq word name.now)) [
      | inl here ↦ rw (here, sym (nat_list_eq_equiv.symm word name.now) ∙ here) (here-first n (length names))
      | inr other ↦ rw (other, sym (nat_list_eq_equiv.symm word name.now) ∙ other)
          (counted-so n (position_or_len (λ name. bytes_eq word name.now) names) (length names) ∙ place-position (n + 1) names word)
    ]

pub place-among : (names : List (Bor (List ℕ))) (word : List ℕ)
    → position (λ name. bytes_eq word name.now) names ≡ place_among (map (λ name. name.now) names) word
place-among names word = zero-more (position (λ name. bytes_eq word name.now) names) ∙ place-position 0 names word
  where
    zero-more : (at : Option ℕ) → at ≡ option_map (λ i. 0 + i) at
    zero-more None = refl
    zero-more (Some i) = ap Some (omega arith)

-- a set's keys as texts: a word is among them, and is put behind them
pub any-texts : (word : List ℕ) (keys : List (Bor (List ℕ))) → list_any (λ key. bytes_eq word key.now) keys ≡ list_any (bytes_eq word) (map (λ key. key.now) keys)
any-texts word [] = refl
any-texts word (key ∷ keys) = ap (λ b. bytes_eq word key.now || b) (any-texts word keys)

-- the words so far are the keys, and none of them is twice
pub record SoFar (words keys rest : List (List ℕ)) : Type 0 where
  pub parted : words ≡ keys ++ rest
  pub once : are_once words ≡ once_behind keys rest

pub none-yet : (words : List (List ℕ)) → SoFar words [] words
none-yet words = record { parted = refl; once = once-behind words }

pub one-more : (words keys rest : List (List ℕ)) (word : List ℕ) → list_any (bytes_eq word) keys ≡ false → SoFar words keys (word ∷ rest) → SoFar words (keys ++ word ∷ []) rest
one-more words keys rest word new so = record {
  parted = so.parted ∙ sym (append_assoc keys (word ∷ []) rest);
  once = so.once ∙ ap (λ b. not b && once_behind (keys ++ word ∷ []) rest) new;
}

pub once-again : (words keys rest : List (List ℕ)) (word : List ℕ) → list_any (bytes_eq word) keys ≡ true → SoFar words keys (word ∷ rest) → are_once words ≡ false
once-again words keys rest word seen so = so.once ∙ ap (λ b. not b && once_behind (keys ++ word ∷ []) rest) seen

pub all-once : (words keys : List (List ℕ)) → SoFar words keys [] → (are_once words ≡ true) × (words ≡ keys)
all-once words keys so = (so.once, so.parted ∙ append-nil keys)

-- the words from an index on
pub texts-from : (words : List (Bor (List ℕ))) (i : ℕ) (d : Bor (List ℕ)) → i < length words
    → map (λ w. w.now) (drop i words) ≡ (get_or words i d).now ∷ map (λ w. w.now) (drop (i + 1) words)
texts-from words i d within =
    ap (map (λ w. w.now)) (drop-cons words i d within) ∙ (let next : suc i ≡ i + 1 = omega arith in ap (λ n. (get_or words i d).now ∷ map (λ w. w.now) (drop n words)) next)

-- a set of texts once a word is put into it that it doesn't have, and one that it has
pub with-new : (words keys after : List (Bor (List ℕ))) (i : ℕ) (d : Bor (List ℕ)) → i < length words
    → list_any (λ key. bytes_eq (get_or words i d).now key.now) keys ≡ false
    → after ≡ (if list_any (λ key. bytes_eq (get_or words i d).now key.now) keys then keys else keys ++ get_or words i d ∷ [])
    → SoFar (map (λ w. w.now) words) (map (λ w. w.now) keys) (map (λ w. w.now) (drop i words))
    → SoFar (map (λ w. w.now) words) (map (λ w. w.now) after) (map (λ w. w.now) (drop (i + 1) words))
with-new words keys after i d within new is so =
    let word = get_or words i d in
    let more : after ≡ keys ++ word ∷ [] = is ∙ ap (λ b. if b then keys else keys ++ word ∷ []) new in
    let texts : map (λ w. w.now) after ≡ map (λ w. w.now) keys ++ word.now ∷ [] = ap (map (λ w. w.now)) more ∙ map-append (λ w. w.now) keys (word ∷ []) in
    subst (λ keys. SoFar (map (λ w. w.now) words) keys (map (λ w. w.now) (drop (i + 1) words))) (sym texts)
    (one-more (map (λ w. w.now) words) (map (λ w. w.now) keys) (map (λ w. w.now) (drop (i + 1) words)) word.now (sym (any-texts word.now keys) ∙ new)
    (subst (SoFar (map (λ w. w.now) words) (map (λ w. w.now) keys)) (texts-from words i d within) so))

pub with-known : (words keys : List (Bor (List ℕ))) (i : ℕ) (d : Bor (List ℕ)) → i < length words
    → list_any (λ key. bytes_eq (get_or words i d).now key.now) keys ≡ true
    → SoFar (map (λ w. w.now) words) (map (λ w. w.now) keys) (map (λ w. w.now) (drop i words)) → are_once (map (λ w. w.now) words) ≡ false
with-known words keys i d within known so =
    let word = get_or words i d in
    once-again (map (λ w. w.now) words) (map (λ w. w.now) keys) (map (λ w. w.now) (drop (i + 1) words)) word.now (sym (any-texts word.now keys) ∙ known)
    (subst (SoFar (map (λ w. w.now) words) (map (λ w. w.now) keys)) (texts-from words i d within) so)
