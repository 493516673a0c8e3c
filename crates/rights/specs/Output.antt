-- What a writer has taken.
use Rattle.std.specs.Prelude.{◌≡◌, ℕ, List, ◌++◌, Option}
use Rattle.std.specs.Option.{option_map}

-- After it, these bytes stand behind what was taken before it, where what is taken is told at all.
abbrev pub Took : Option (List ℕ) → Option (List ℕ) → List ℕ → Type 0
Took before after bytes = after ≡ option_map (λ taken. taken ++ bytes) before

-- Some beginning of these bytes was taken.
pub record TookFront (before after : Option (List ℕ)) (bytes : List ℕ) : Type 0 where
  pub front : List ℕ
  pub rest : List ℕ
  pub whole : front ++ rest ≡ bytes
  pub took : Took before after front
