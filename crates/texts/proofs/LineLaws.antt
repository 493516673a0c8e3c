-- Laws of a text's lines.
use Rattle.std.proofs.Common.{◌≡◌, ℕ, ◌+◌, ◌≤◌, Bool, true, false, List, [], ◌∷◌, ◌++◌, length, map, refl, ap, suc, sym, arith}
use Rattle.std.specs.Prelude.{cond, ◌==◌}
use Rattle.texts.specs.Parts.{parts, parts_from}
use Rattle.texts.specs.Lines.{Line, lines_from, lines_of}

abbrev pub has_more : List (List ℕ) → Bool
has_more [] = false
has_more (text ∷ texts) = true

-- The lines are the parts between line feeds, and nothing is left out.
texts-from : (offset : ℕ) (texts : List (List ℕ)) → map (λ line. line.text) (lines_from offset texts) ≡ texts
texts-from offset [] = refl
texts-from offset (last ∷ []) = refl
texts-from offset (line ∷ next ∷ texts) = ap (λ rest. line ∷ rest) (texts-from (offset + length line + 1) (next ∷ texts))

pub texts-of : (text : List ℕ) → map (λ line. line.text) (lines_of text) ≡ parts 10 text
texts-of text = texts-from 0 (parts 10 text)

-- Each line but the last has a line feed.
few-from : (offset : ℕ) (texts : List (List ℕ)) → length (lines_from offset texts) ≡ length texts
few-from offset [] = refl
few-from offset (last ∷ []) = refl
few-from offset (line ∷ next ∷ texts) = ap suc (few-from (offset + length line + 1) (next ∷ texts))

few-parts : (text begun : List ℕ) → length (parts_from 10 text begun) ≤ length text + 1
few-parts [] begun = omega arith
few-parts (b ∷ text) begun = go (b == 10) (few-parts text []) (few-parts text (begun ++ b ∷ []))
  where
    go : (ends : Bool) → length (parts_from 10 text []) ≤ length text + 1 → length (parts_from 10 text (begun ++ b ∷ [])) ≤ length text + 1 →
        length (cond ends (begun ∷ parts_from 10 text []) (parts_from 10 text (begun ++ b ∷ []))) ≤ length (b ∷ text) + 1
    go true here there = omega (arith, here)
    go false here there = omega (arith, there)

pub few-lines : (text : List ℕ) → length (lines_of text) ≤ length text + 1
few-lines text = let same = few-from 0 (parts 10 text) in let few = few-parts text [] in omega (arith, same, few)

-- The first of some lines, and those behind it: it is ended where there are more.
pub record Next (texts : List (List ℕ)) (line : Line) (left : List Line) : Type 0 where
  pub rest : List (List ℕ)
  pub offset : ℕ
  pub texts_are : texts ≡ line.text ∷ rest
  pub left_is : left ≡ lines_from offset rest
  pub ended : line.is_ended ≡ has_more rest

pub next-line : (offset : ℕ) (texts : List (List ℕ)) (line : Line) (left : List Line) → lines_from offset texts ≡ line ∷ left → Next texts line left
next-line offset [] line left is = absurd cc
next-line offset (last ∷ []) line left is =
    let same : record { text = last; offset = offset; is_ended = false } ≡ line = cc in
    record {
      rest = [];
      offset = offset;
      texts_are = ap (λ (x : Line). x.text ∷ []) same;
      left_is = cc;
      ended = ap (λ (x : Line). x.is_ended) (sym same);
    }
next-line offset (first ∷ second ∷ texts) line left is =
    let same : record { text = first; offset = offset; is_ended = true } ≡ line = cc in
    record {
      rest = second ∷ texts;
      offset = offset + length first + 1;
      texts_are = ap (λ (x : Line). x.text ∷ second ∷ texts) same;
      left_is = cc;
      ended = ap (λ (x : Line). x.is_ended) (sym same);
    }
