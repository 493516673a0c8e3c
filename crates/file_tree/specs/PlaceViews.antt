-- What a place's text stands for.
use Rattle.std.specs.Prelude.{◌≡◌, ℕ, Bool, true, not, nat_eq, List, [], ◌∷◌, ◌++◌, Option, Some, None}
use Rattle.std.specs.List.{list_all}
use Rattle.texts.specs.Parts.{parts}
use Rattle.file_tree.specs.Places.{ends_name, slash}

-- the names in a place's text: each stands behind a `/`
abbrev pub names_of : List ℕ → List (List ℕ)
names_of [] = []
names_of (b ∷ text) = parts slash text

-- a place's text begins with a `/`, but for the root's, which is empty
abbrev pub is_place_text : List ℕ → Bool
is_place_text text = ends_name text

-- a name that holds no `/` is one name in a place's text
abbrev pub is_one_name : List ℕ → Bool
is_one_name name = list_all (λ b. not (nat_eq b slash)) name

-- the names that are left of a place's text behind a `/`
abbrev pub names_left : Option (List ℕ) → List (List ℕ)
names_left None = []
names_left (Some rest) = parts slash rest

-- a place's text is that of the place above, and a last name
pub record LastName (text above name : List ℕ) : Type 0 where
  pub parted : text ≡ above ++ slash ∷ name
  pub above_is : is_place_text above ≡ true
  pub one : is_one_name name ≡ true
