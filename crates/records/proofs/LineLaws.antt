-- Laws of lines as words.
use Rattle.std.proofs.Common.{◌≡◌, ℕ, List, [], ◌∷◌, ◌++◌, ap, sym, append-nil}
use Rattle.texts.specs.Parts.{joined}
use Rattle.records.specs.Texts.{after_spaces}

-- words with a space between each two are the first one and the others, each behind a space
pub joined-spaced : (word : List ℕ) (words : List (List ℕ)) → joined 32 (word ∷ words) ≡ word ++ after_spaces words
joined-spaced word [] = sym (append-nil word)
joined-spaced word (next ∷ words) = ap (λ rest. word ++ 32 ∷ rest) (joined-spaced next words)
