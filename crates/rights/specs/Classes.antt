-- Classes of socket pairs. (own)
use Rattle.std.specs.Prelude.{ℕ, List}

-- Where a pair was made: an initial pair by its number, or a point of a program.
pub data Class : Type 0 where
  Initial : ℕ → Class
  Made_at : List ℕ → ℕ → Class
