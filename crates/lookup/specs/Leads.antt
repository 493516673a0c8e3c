-- A lookup name after name, as a relation. (open(2); the bound on links is own)
use Rattle.std.specs.Prelude.{◌≡◌, ℕ, ◌+◌, nat_le, List, [], ◌∷◌, ◌++◌, Option, Some, None, if◌then◌else◌}
use Rattle.rights.specs.Limits.{most_links}
use Rattle.file_tree.specs.Places.{path_components}
use Rattle.lookup.specs.Answers.{Escape, Loop, Finding, Not_found}
use Rattle.lookup.specs.Steps.{Move, Moves, Meets, Stops, Rules, target_cursor}

-- A lookup under way: where it stands, the names left, and how many links it followed.
pub record Stand (Cursor : Type 0) : Type 0 where
  pub cursor : Cursor
  pub left : List (List ℕ)
  pub followed : ℕ

pub data Next (Cursor : Type 0) : Type 0 where
  Goes : Stand Cursor → Next Cursor
  Ends : Finding → Next Cursor

-- the names of a link's target come before the rest; where its cursor is none, it escapes
abbrev pub followed_from : {Cursor : Type 0} → List (List ℕ) → ℕ → Option Cursor → Next Cursor
followed_from left followed None = Ends (Not_found Escape)
followed_from left followed (Some cursor) = Goes (record { cursor = cursor; left = left; followed = followed })

-- what is next after a name, by where it leads; a 33rd link is not followed, whatever its target is
abbrev pub onward : {Cursor : Type 0} → Rules Cursor → Cursor → List (List ℕ) → ℕ → Move Cursor → Next Cursor
onward rules cursor left followed (Moves to) = Goes (record { cursor = to; left = left; followed = followed })
onward rules cursor left followed (Meets target) =
    if nat_le most_links followed then Ends (Not_found Loop)
    else followed_from (path_components target ++ left) (followed + 1) (target_cursor rules cursor target)
onward rules cursor left followed (Stops answer) = Ends answer

-- One name is looked up; where none is left, the lookup has arrived.
abbrev pub next_from : {Cursor : Type 0} → Rules Cursor → Cursor → List (List ℕ) → ℕ → Next Cursor
next_from rules cursor [] followed = Ends (rules.arrived cursor)
next_from rules cursor (name ∷ left) followed = onward rules cursor left followed (rules.component cursor name left)

abbrev pub next : {Cursor : Type 0} → Rules Cursor → Stand Cursor → Next Cursor
next rules stand = next_from rules stand.cursor stand.left stand.followed

-- What a lookup leads to, name after name.
pub data Leads {Cursor : Type 0} (rules : Rules Cursor) : Stand Cursor → Finding → Type 0 where
  here : {stand : Stand Cursor} {answer : Finding} → next rules stand ≡ Ends answer → Leads rules stand answer
  there : {stand : Stand Cursor} {after : Stand Cursor} {answer : Finding} → next rules stand ≡ Goes after → Leads rules after answer → Leads rules stand answer
