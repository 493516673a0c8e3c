-- A lookup goes name by name. Where it stands is told by the names below its start (`ByPlaces`) or by the
-- nodes that it walked (`ByNodes`); here is what is the same for both. (open(2); the bound on links is own)
use Rattle.std.specs.Prelude.{ℕ, zero, suc, List, [], ◌∷◌, ◌++◌, Option, Some, None, if◌then◌else◌}
use Rattle.file_tree.specs.Places.{path_components}
use Rattle.lookup.specs.Answers.{Escape, Loop, Finding, Not_found}
use Rattle.lookup.specs.Paths.{is_absolute}

-- Where one name leads: on to a cursor, to a link, whose target is to be looked up first, or to an answer.
pub data Move (Cursor : Type 0) : Type 0 where
  Moves : Cursor → Move Cursor
  Meets : List ℕ → Move Cursor
  Stops : Finding → Move Cursor

-- The rules of a lookup: what it gives where no name is left; where a name leads, by the names that follow
-- it; and the cursor from which an absolute target of a link is looked up, if it may be.
pub record Rules (Cursor : Type 0) : Type 0 where
  pub arrived : Cursor → Finding
  pub component : Cursor → List ℕ → List (List ℕ) → Move Cursor
  pub restart : Option Cursor

-- the cursor from which a link's target is looked up: where the link was met, unless the target is absolute
abbrev pub target_cursor : {Cursor : Type 0} → Rules Cursor → Cursor → List ℕ → Option Cursor
target_cursor rules cursor target = if is_absolute target then rules.restart else Some cursor

-- What a lookup leads to: by recursion on the links that may still be followed, and in it on the names left.
-- `along` goes over names, and is told what becomes of a link that is met; `looked` says that it takes one
-- link from those that may be followed.
abbrev pub moved_on : {Cursor : Type 0} → (Cursor → Finding) → (List ℕ → Finding) → Move Cursor → Finding
moved_on go follow (Moves to) = go to
moved_on go follow (Meets target) = follow target
moved_on go follow (Stops answer) = answer

abbrev pub along : {Cursor : Type 0} → Rules Cursor → (Cursor → List (List ℕ) → List ℕ → Finding) → List (List ℕ) → Cursor → Finding
along rules follow [] cursor = rules.arrived cursor
along rules follow (name ∷ left) cursor = moved_on (along rules follow left) (follow cursor left) (rules.component cursor name left)

abbrev pub resumed : {Cursor : Type 0} → (List (List ℕ) → Cursor → Finding) → List (List ℕ) → Option Cursor → Finding
resumed go left None = Not_found Escape
resumed go left (Some cursor) = go left cursor

unfoldable pub looked : {Cursor : Type 0} → Rules Cursor → ℕ → List (List ℕ) → Cursor → Finding
looked rules zero = along rules (λ cursor left target. Not_found Loop)
looked rules (suc links) = along rules (λ cursor left target. resumed (looked rules links) (path_components target ++ left) (target_cursor rules cursor target))
