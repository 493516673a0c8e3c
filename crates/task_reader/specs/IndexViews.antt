-- The numbers of a tree's nodes by their paths. (own)
use Rattle.std.specs.Prelude.{◌≡◌, ℕ, Bool, false, List, Option, Some, None}
use Rattle.std.specs.Borrow.{Bor}
use Rattle.std.specs.Str.{bytes_eq}
use Rattle.indexmap.specs.IndexMap.{IndexMap, get_by}
use Rattle.file_tree.specs.Nodes.{Node, node, node_at, is_dir}
use Rattle.file_tree.specs.WellFormed.{has_directory}
use Rattle.task_reader.specs.Reading.{number_of_path}
use Rattle.task_reader.specs.Paths.{place_of}

-- the number that is kept for a path
abbrev pub number_in : {S : Type 0} → IndexMap (Bor (List ℕ)) ℕ S → List ℕ → Option ℕ
number_in numbers path = get_by (λ key. bytes_eq path key.now) numbers

abbrev pub is_directory : List Node → Option ℕ → Bool
is_directory made None = false
is_directory made (Some n) = is_dir (node made n).kind

-- A number is kept for the path of each node, and for no other text. No two nodes are at one place.
pub record IsIndex {S : Type 0} (numbers : IndexMap (Bor (List ℕ)) ℕ S) (made : List Node) : Type 0 where
  pub numbered : (path : List ℕ) → number_in numbers path ≡ number_of_path made path
  pub apart : (place : List (List ℕ)) → has_directory made place ≡ is_directory made (node_at made place)

-- the path is that of the place
abbrev pub IsPath : List ℕ → List (List ℕ) → Type 0
IsPath path place = place_of path ≡ Some place
