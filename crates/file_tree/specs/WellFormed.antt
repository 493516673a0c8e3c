-- When a list of nodes is a tree, within the limits. (own)
use Rattle.std.specs.Prelude.{◌≡◌, ◌≤◌, ◌<◌, ℕ, Bool, true, ◌&&◌, nat_le, nat_lt, nat_eq, List, [], ◌∷◌, length}
use Rattle.std.specs.List.{list_all, list_any}
use Rattle.file_tree.specs.Places.{is_file_name, is_target, above}
use Rattle.file_tree.specs.Nodes.{Kind, File, Dir, Link, Node, node, is_dir, stands_at}
use Rattle.rights.specs.Limits.{most_nodes, most_bytes}

abbrev pub is_directory_at : List (List ℕ) → Node → Bool
is_directory_at p m = stands_at p m && is_dir m.kind

-- whether a linked directory stands at a place
abbrev pub has_directory : List Node → List (List ℕ) → Bool
has_directory t p = list_any (is_directory_at p) t

-- whether a place is the root's or in a linked directory
abbrev pub has_parent : List Node → List (List ℕ) → Bool
has_parent t [] = true
has_parent t (name ∷ p) = has_directory t (above (name ∷ p))

-- whether a content is one of a node of that kind
abbrev pub is_content : Kind → List ℕ → Bool
is_content File content = nat_le (length content) most_bytes
is_content Dir content = nat_eq (length content) 0
is_content Link content = is_target content

abbrev pub is_byte : ℕ → Bool
is_byte b = nat_lt b 256

-- whether a node, removed or not, keeps the limits: its names, and its bytes
unfoldable pub is_within_limits : Node → Bool
is_within_limits m = list_all is_file_name m.place && is_content m.kind m.content && list_all is_byte m.content

-- The root is a linked directory at the empty place. No two linked nodes stand at one place, and each but
-- the root stands in a linked directory. Not too many nodes were made, and each keeps the limits.
pub record IsTree (t : List Node) : Type 0 where
  pub root_linked : (node t 0).linked ≡ true
  pub root_kind : (node t 0).kind ≡ Dir
  pub root_place : (node t 0).place ≡ []
  pub apart : (n m : ℕ) → (node t n).linked ≡ true → (node t m).linked ≡ true → (node t n).place ≡ (node t m).place → n ≡ m
  pub held : (n : ℕ) → (node t n).linked ≡ true → has_parent t (node t n).place ≡ true
  pub few : length t ≤ most_nodes
  pub limits : (n : ℕ) → n < length t → is_within_limits (node t n) ≡ true
