-- How effects are printed. (own)
use Rattle.std.specs.Prelude.{ℕ, List}
use Rattle.rights.specs.Operations.{Operation}
use Rattle.file_tree.specs.Places.{place_text}
use Rattle.kernel.specs.Answers.{Effect}

-- an operation at a place, which is written as a text
pub record Shown : Type 0 where
  pub operation : Operation
  pub place : List ℕ

abbrev pub shown : Effect → Shown
shown e = record { operation = e.operation; place = place_text e.place }

-- the operation at this place, as it is printed
abbrev pub shown_at : Operation → List (List ℕ) → Shown
shown_at operation place = record { operation = operation; place = place_text place }
