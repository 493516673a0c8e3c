-- The last byte of a word.
use Rattle.std.proofs.Common.{◌≡◌, ℕ, suc, ◌-◌, ◌<◌, Bool, true, false, List, [], ◌∷◌, ◌++◌, length, get_or, take, refl, ap, sym, ◌∙◌, arith, eq-eqb, take-suc, take_all}
use Rattle.std.specs.Prelude.{Some, None, option_map, cond, ◌==◌}
use Rattle.std.proofs.lemmas.Bool.{ne_eqb}
use Rattle.instruction_set.specs.Fields.{before_last}

before_last-append : (byte b : ℕ) (front : List ℕ) → before_last byte (front ++ b ∷ []) ≡ cond (b == byte) (Some front) None
before_last-append byte b [] = refl
before_last-append byte b (x ∷ []) = go (b == byte)
  where
    go : (is : Bool) → option_map (λ front. x ∷ front) (cond is (Some []) None) ≡ cond is (Some (x ∷ [])) None
    go true = refl
    go false = refl
before_last-append byte b (x ∷ y ∷ front) = ap (option_map (λ front. x ∷ front)) (before_last-append byte b (y ∷ front)) ∙ go (b == byte)
  where
    go : (is : Bool) → option_map (λ front. x ∷ front) (cond is (Some (y ∷ front)) None) ≡ cond is (Some (x ∷ y ∷ front)) None
    go true = refl
    go false = refl

-- by place
pub before_last-is : (byte : ℕ) (word : List ℕ) → 0 < length word → before_last byte word ≡ cond (get_or word (length word - 1) 0 == byte) (Some (take (length word - 1) word)) None
before_last-is byte word some =
    let front = take (length word - 1) word in
    let last = get_or word (length word - 1) 0 in
    let all : suc (length word - 1) ≡ length word = omega arith in
    let split : word ≡ front ++ last ∷ [] = sym (take_all (length word) word (omega arith)) ∙ ap (λ n. take n word) (sym all) ∙ take-suc word (length word - 1) 0 (omega arith) in
    ap (before_last byte) split ∙ before_last-append byte last front

pub before_last-some : (byte : ℕ) (word : List ℕ) → 0 < length word → get_or word (length word - 1) 0 ≡ byte → before_last byte word ≡ Some (take (length word - 1) word)
before_last-some byte word some is =
    before_last-is byte word some ∙ ap (λ b. cond b (Some (take (length word - 1) word)) None) (eq-eqb (get_or word (length word - 1) 0) byte is)

pub before_last-other : (byte : ℕ) (word : List ℕ) → 0 < length word → (get_or word (length word - 1) 0 ≡ byte → ⊥) → before_last byte word ≡ None
before_last-other byte word some other =
    before_last-is byte word some ∙ ap (λ b. cond b (Some (take (length word - 1) word)) None) (ne_eqb (get_or word (length word - 1) 0) byte other)

pub before_last-empty : (byte : ℕ) (word : List ℕ) → length word < 1 → before_last byte word ≡ None
before_last-empty byte [] none = refl
before_last-empty byte (b ∷ word) none = absurd (omega arith)
