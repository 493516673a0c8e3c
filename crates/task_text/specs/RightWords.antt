-- The names that a list of rights is made of. (own)
use Rattle.std.specs.Prelude.{ℕ, ◌++◌, Bool, List, drop, map, take, if◌then◌else◌}
use Rattle.rights.specs.Sets.{right_names}

-- those of the fourteen rights of every task, with their other names behind them; and those of the further rights
abbrev pub plain_words : List (List ℕ)
plain_words = map (λ named. named.0) (take 14 right_names ++ drop 46 right_names)

abbrev pub further_words : List (List ℕ)
further_words = map (λ named. named.0) (take 32 (drop 14 right_names))

-- those that a task may name, which asks for further rights or doesn't
abbrev pub right_words : Bool → List (List ℕ)
right_words wide = if wide then plain_words ++ further_words else plain_words
