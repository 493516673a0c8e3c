-- The page on which the lines of a trace are gathered.
use Rattle.std.specs.Prelude.{◌≡◌, ◌++◌, ℕ, List, Option}
use Rattle.rights.specs.Output.{Took}

-- whole lines, and what of the next one is there
pub record PageText : Type 0 where
  pub lines : List ℕ
  pub line : List ℕ

-- Some of the lines that were gathered were taken, and these are left.
pub record MovesLines (before after : Option (List ℕ)) (gathered left : List ℕ) : Type 0 where
  pub moved : List ℕ
  pub took : Took before after moved
  pub whole : moved ++ left ≡ gathered
