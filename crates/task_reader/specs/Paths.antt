-- The place that a task's path is. (own)
use Rattle.std.specs.Prelude.{ℕ, ◌==◌, List, [], ◌∷◌, Option, Some, None, option_map, if◌then◌else◌}
use Rattle.file_tree.specs.Places.{is_path_name, slash}
use Rattle.texts.specs.Parts.{parts}

abbrev pub path_names : List (List ℕ) → Option (List (List ℕ))
path_names [] = Some []
path_names (name ∷ names) = if is_path_name name then option_map (λ rest. name ∷ rest) (path_names names) else None

-- A path is `/`, or each name after a `/`.
abbrev pub names_behind : List ℕ → Option (List (List ℕ))
names_behind [] = Some []
names_behind (b ∷ text) = path_names (parts slash (b ∷ text))

unfoldable pub place_of : List ℕ → Option (List (List ℕ))
place_of [] = None
place_of (b ∷ text) = if b == slash then names_behind text else None
