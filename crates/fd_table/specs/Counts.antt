-- How many open descriptions there are. (own)
use Rattle.std.specs.Prelude.{◌≡◌, ◌==◌, ℕ, Bool, true, not, ◌&&◌, List, [], ◌∷◌, length}
use Rattle.std.specs.List.{list_any}
use Rattle.fd_table.specs.OpenFiles.{OpenFiles, any_named, names}

abbrev pub is_number_among : ℕ → List ℕ → Bool
is_number_among n numbers = list_any (λ m. m == n) numbers

-- no number stands there twice
abbrev pub are_numbers_apart : List ℕ → Bool
are_numbers_apart [] = true
are_numbers_apart (n ∷ numbers) = not (is_number_among n numbers) && are_numbers_apart numbers

-- The numbers that some entry or some message names are so many.
pub record Counts (f : OpenFiles) (count : ℕ) : Type 0 where
  pub numbers : List ℕ
  pub apart : are_numbers_apart numbers ≡ true
  pub named : (n : ℕ) → is_number_among n numbers ≡ any_named f (names n)
  pub all : length numbers ≡ count
