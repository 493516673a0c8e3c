-- What a page holds: all that was added, unless memory was refused for some of it. (own)
use Rattle.std.specs.Prelude.{◌≡◌, ℕ, false, List, ◌++◌, Option, Some, None}
use Rattle.texts.specs.declared.pages.Page.{Page}

-- a text was added, unless memory is refused by now
pub record Adds (before after : Page) (text : List ℕ) : Type 0 where
  pub keeps : after.is_short ≡ false → before.is_short ≡ false
  pub adds : after.is_short ≡ false → after.bytes.items ≡ before.bytes.items ++ text

-- what two parts add, one behind the other, where it is told of both
abbrev pub both_said : Option (List ℕ) → Option (List ℕ) → Option (List ℕ)
both_said (Some first) (Some second) = Some (first ++ second)
both_said _ _ = None
