-- What is written where the program stops before its end. (own)
use Rattle.std.specs.Prelude.{ℕ, List, [], Option, Some}
use Rattle.rights.specs.Output.{TookFront}

-- `Writes` says what is written in whole, and with which status, to a writer that has taken nothing before. A beginning of such a
-- text was taken.
pub record HasBegun (Writes : ℕ → Option (List ℕ) → Option (List ℕ) → Type 0) (before after : Option (List ℕ)) : Type 0 where
  pub status : ℕ
  pub text : List ℕ
  pub whole : Writes status (Some []) (Some text)
  pub begun : TookFront before after text
