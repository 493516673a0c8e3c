-- Counting different things up to a limit, some after others. (own)
use Rattle.std.specs.Prelude.{ℕ, Bool, nat_le, List, length, Option, Some, None, if◌then◌else◌}
use Rattle.certificate.specs.Growth.{distinct_behind}

abbrev pub if_few : {A : Type 0} → ℕ → List A → Option (List A)
if_few most xs = if nat_le (length xs) most then Some xs else None

-- the different ones among those that are listed already and more, where that is no more than so many
abbrev pub listed_with : {A : Type 0} → (A → A → Bool) → ℕ → List A → List A → Option (List A)
listed_with same most listed more = if_few most (distinct_behind same listed more)
