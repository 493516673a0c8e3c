-- Words of which one has come to its end.
use Rattle.std.proofs.Common.{◌≡◌, ◌<◌, ℕ, List, [], ◌∷◌, length, refl, arith}
use Rattle.std.specs.Prelude.{true, false, max, nat_le, nat_lt}
use Rattle.std.specs.Str.{str_eq_ignore_ascii_case}
use Rattle.task_text.specs.NearWords.{is_meant, is_prefixed, is_within_one_edit}

pub no_word : (word known : List ℕ) → length word < 1 → is_within_one_edit word known ≡ nat_le (length known) 1
no_word [] known none = refl
no_word (a ∷ word) known none = absurd (omega arith)

pub no_known : (word known : List ℕ) → length known < 1 → is_within_one_edit word known ≡ nat_le (length word) 1
no_known [] [] none = refl
no_known (a ∷ word) [] none = refl
no_known word (b ∷ known) none = absurd (omega arith)

-- a word that is meant but for its prefix, and one that is meant only if one edit leads to it
pub meant-prefixed : (known word : List ℕ) → str_eq_ignore_ascii_case word known ≡ false → is_prefixed known word ≡ true → is_meant known word ≡ true
meant-prefixed known word other prefixed = rw (other, prefixed) refl

pub meant-edited : (known word : List ℕ) → str_eq_ignore_ascii_case word known ≡ false → is_prefixed known word ≡ false → nat_lt (max (length word) (length known)) 3 ≡ false →
    is_meant known word ≡ is_within_one_edit word known
meant-edited known word other prefixed long = rw (other, prefixed, long) refl
