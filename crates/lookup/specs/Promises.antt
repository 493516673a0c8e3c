-- What holds of whatever a lookup finds in a tree, by the definitions of a lookup alone.
use Rattle.std.specs.Prelude.{◌≡◌, ◌<◌, ◌++◌, ℕ, true, false, List, Some, None, length}
use Rattle.file_tree.specs.Places.{at_name, begins, is_file_name, path_components}
use Rattle.file_tree.specs.Nodes.{Dir, Node, node, child_of, is_link, parent_of}
use Rattle.lookup.specs.Answers.{Finding, Found_node, Found_free, Not_found}
use Rattle.lookup.specs.Paths.{has_path_bytes, last_component}

-- A node that is found wasn't removed. Where a name is free, its directory wasn't removed and lacks the name.
pub record IsLinked (t : List Node) (n : ℕ) : Type 0 where
  pub there : n < length t
  pub linked : (node t n).linked ≡ true

pub record Lacks (t : List Node) (d : ℕ) (name : List ℕ) : Type 0 where
  pub directory : (node t d).kind ≡ Dir
  pub absent : child_of t d name ≡ None

abbrev pub IsFindingThere : List Node → Finding → Type 0
IsFindingThere t (Found_node n) = IsLinked t n
IsFindingThere t (Found_free d) = IsLinked t d
IsFindingThere t (Not_found fault) = Unit {0}

abbrev pub IsFreeName : List Node → List ℕ → Finding → Type 0
IsFreeName t path (Found_node n) = Unit {0}
IsFreeName t path (Found_free d) = Lacks t d (last_component path)
IsFreeName t path (Not_found fault) = Unit {0}

-- The place of the node, or of the directory of a free name, begins with that of the start.
abbrev pub IsBeneath : List Node → List (List ℕ) → Finding → Type 0
IsBeneath t start (Found_node n) = begins start (node t n).place ≡ true
IsBeneath t start (Found_free d) = begins start (node t d).place ≡ true
IsBeneath t start (Not_found fault) = Unit {0}

-- The place of what is found, or would be made, is longer than that of the start.
abbrev pub IsBelow : List Node → List (List ℕ) → List ℕ → Finding → Type 0
IsBelow t start path (Found_node n) = length start < length (node t n).place
IsBelow t start path (Found_free d) = length start < length (at_name (node t d).place (last_component path))
IsBelow t start path (Not_found fault) = Unit {0}

-- What is found under the last name has that name, in the directory that holds it.
pub record HasName (t : List Node) (n : ℕ) (name : List ℕ) : Type 0 where
  pub parent : ℕ
  pub held : parent_of t n ≡ Some parent
  pub named : child_of t parent name ≡ Some n
  pub place : (node t n).place ≡ at_name (node t parent).place name

abbrev pub IsUnderName : List Node → List ℕ → Finding → Type 0
IsUnderName t path (Found_node n) = HasName t n (last_component path)
IsUnderName t path (Found_free d) = Unit {0}
IsUnderName t path (Not_found fault) = Unit {0}

-- Where the last name is followed, what is found is no link, and no name is free.
abbrev pub IsFollowed : List Node → Finding → Type 0
IsFollowed t (Found_node n) = is_link (node t n).kind ≡ false
IsFollowed t (Found_free d) = ⊥
IsFollowed t (Not_found fault) = Unit {0}

-- A name that is free may be that of a node, if the path has no other bytes than names may have, and `/`.
abbrev pub MayBeMade : List ℕ → Finding → Type 0
MayBeMade path (Found_node n) = Unit {0}
MayBeMade path (Found_free d) = has_path_bytes path ≡ true → is_file_name (last_component path) ≡ true
MayBeMade path (Not_found fault) = Unit {0}

-- The path spells, from the start down, the place of a node that is no link. (Then all above it are directories.)
pub record Spells (t : List Node) (start : List (List ℕ)) (path : List ℕ) (n : ℕ) : Type 0 where
  pub linked : (node t n).linked ≡ true
  pub opened : is_link (node t n).kind ≡ false
  pub place : (node t n).place ≡ start ++ path_components path
