-- The first line of a text, and those behind it.
use Rattle.std.proofs.Common.{◌≡◌, ℕ, ◌+◌, Bool, true, false, List, [], ◌∷◌, ◌++◌, length, refl, ap, ◌∙◌, Bor, add_assoc}
use Rattle.std.specs.Prelude.{Option, Some, None, option_map, is_some, cond, ◌==◌}
use Rattle.texts.specs.Parts.{Begins, parts, parts_from}
use Rattle.texts.specs.Lines.{lines_from}
use Rattle.texts.specs.LineViews.{lines_left}

-- a line that is not the last
more : (offset : ℕ) (line text begun : List ℕ) →
    lines_from offset (line ∷ parts_from 10 text begun) ≡ (record { text = line; offset = offset; is_ended = true })
    ∷ lines_from (offset + length line + 1) (parts_from 10 text begun)
more offset line [] begun = refl
more offset line (b ∷ text) begun = go (b == 10) (more offset line text (begun ++ b ∷ []))
  where
    go : (ends : Bool) → lines_from offset (line ∷ parts_from 10 text (begun ++ b ∷ [])) ≡ (record { text = line; offset = offset; is_ended = true })
        ∷ lines_from (offset + length line + 1) (parts_from 10 text (begun ++ b ∷ [])) →
        lines_from offset (line ∷ cond ends (begun ∷ parts_from 10 text [])
        (parts_from 10 text (begun ++ b ∷ []))) ≡ (record { text = line; offset = offset; is_ended = true })
        ∷ lines_from (offset + length line + 1) (cond ends (begun ∷ parts_from 10 text []) (parts_from 10 text (begun ++ b ∷ [])))
    go true rest = refl
    go false rest = rest

pub next-ended : (offset : ℕ) (all first : List ℕ) (o : Option (Bor (List ℕ))) → Begins (parts 10 all) 10 first (option_map (λ r. r.now) o) →
    is_some o ≡ true → lines_from offset (parts 10 all) ≡ (record { text = first; offset = offset; is_ended = is_some o })
    ∷ lines_left (offset + (length first + 1)) (option_map (λ r. r.now) o)
next-ended offset all first None begins is = absurd cc
next-ended offset all first (Some rest) begins is =
    ap (lines_from offset) begins ∙ more offset first rest.now []
    ∙ ap (λ n. (record { text = first; offset = offset; is_ended = true }) ∷ lines_from n (parts 10 rest.now)) (add_assoc offset (length first) 1)

pub next-last : (offset left : ℕ) (all first : List ℕ) (o : Option (Bor (List ℕ))) → Begins (parts 10 all) 10 first (option_map (λ r. r.now) o) →
    is_some o ≡ false → lines_from offset (parts 10 all) ≡ (record { text = first; offset = offset; is_ended = is_some o })
    ∷ lines_left left (option_map (λ r. r.now) o)
next-last offset left all first None begins is = ap (lines_from offset) begins
next-last offset left all first (Some rest) begins is = absurd cc
