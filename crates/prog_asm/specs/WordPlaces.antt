-- The words of a line, with where each begins and ends in it. (own)
use Rattle.std.specs.Prelude.{ℕ, ◌+◌, ◌-◌, Bool, false, ◌&&◌, List, [], ◌∷◌, ◌++◌, length, not, if◌then◌else◌}
use Rattle.instruction_set.specs.Lines.{is_blank, quoted_behind, uncommented}

-- from this byte to before that one
pub record Span : Type 0 where
  pub start : ℕ
  pub end : ℕ

pub record Word : Type 0 where
  pub text : List ℕ
  pub span : Span

-- the word that ends before this byte, if one has begun
abbrev pub placed_word : List ℕ → ℕ → List Word
placed_word [] at = []
placed_word (b ∷ begun) at = record { text = b ∷ begun; span = record { start = at - length (b ∷ begun); end = at } } ∷ []

-- the words of what is left of a line from this byte on
abbrev pub placed_from : Bool → ℕ → List ℕ → List ℕ → List Word
placed_from quoted at [] begun = placed_word begun at
placed_from quoted at (b ∷ line) begun =
    if not quoted && is_blank b then placed_word begun at ++ placed_from false (at + 1) line []
    else placed_from (quoted_behind quoted b) (at + 1) line (begun ++ b ∷ [])

abbrev pub placed_words : List ℕ → List Word
placed_words line = placed_from false 0 line []

-- before its comment
abbrev pub words_on : List ℕ → List Word
words_on line = placed_words (uncommented line)
