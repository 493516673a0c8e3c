-- A file tree as the list of its nodes, in the order in which they were made: a node's number is its
-- place in the list. Nodes are never taken out of it. (own)
use Rattle.std.specs.Prelude.{ℕ, ◌+◌, Bool, true, false, ◌&&◌, not, List, [], ◌∷◌, Option, Some, None, slice_index_or, slice_get, if◌then◌else◌}
use Rattle.std.specs.List.{list_any}
use Rattle.rights.specs.Values.{Name, Place, Content, NodeNumber}
use Rattle.file_tree.specs.Places.{same_place, begins, above, at_name}

pub data Kind : Type 0 where
  File : Kind
  Dir : Kind
  Link : Kind

abbrev pub is_file : Kind → Bool
is_file File = true
is_file Dir = false
is_file Link = false

abbrev pub is_dir : Kind → Bool
is_dir File = false
is_dir Dir = true
is_dir Link = false

abbrev pub is_link : Kind → Bool
is_link File = false
is_link Dir = false
is_link Link = true

-- A node, with the place that it has or, once it is removed, that it had then. The content is a file's
-- bytes or a link's target, and empty for a directory.
pub record Node : Type 0 where
  pub kind : Kind
  pub place : Place
  pub linked : Bool
  pub content : Content

-- what a number names that no node has: a link that is nowhere
abbrev pub nowhere : Node
nowhere = record { kind = Link; place = []; linked = false; content = [] }

abbrev pub node : List Node → NodeNumber → Node
node t n = slice_index_or t n nowhere

abbrev pub stands_at : Place → Node → Bool
stands_at p m = m.linked && same_place p m.place

abbrev pub lies_below : Place → Node → Bool
lies_below p m = m.linked && begins p m.place && not (same_place p m.place)

-- whether some linked node lies below a place
abbrev pub has_below : List Node → Place → Bool
has_below t p = list_any (lies_below p) t

-- the number of the first linked node at a place, counted from k
abbrev pub node_from : NodeNumber → Place → List Node → Option NodeNumber
node_from k p [] = None
node_from k p (m ∷ t) = if stands_at p m then Some k else node_from (k + 1) p t

-- the number of the linked node at a place
unfoldable pub node_at : List Node → Place → Option NodeNumber
node_at t p = node_from 0 p t

-- the node of that name in a directory; in one that was removed there is none
unfoldable pub child_of : List Node → NodeNumber → Name → Option NodeNumber
child_of t d name = if (node t d).linked then node_at t (at_name (node t d).place name) else None

-- the directory that holds a node; the root and removed nodes have none
abbrev pub holder_at : List Node → Place → Option NodeNumber
holder_at t [] = None
holder_at t (name ∷ p) = node_at t (above (name ∷ p))

unfoldable pub parent_of : List Node → NodeNumber → Option NodeNumber
parent_of t n = if (node t n).linked then holder_at t (node t n).place else None

-- what a link holds; the other nodes hold no target
unfoldable pub link_target : List Node → NodeNumber → Option Content
link_target t n = if is_link (node t n).kind then Some (node t n).content else None

-- the byte at an offset of a content, if it is so long
abbrev pub byte_of : List Node → NodeNumber → ℕ → Option ℕ
byte_of t n at = slice_get (node t n).content at
