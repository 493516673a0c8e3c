-- A file tree by links: each node names the directory that holds it, and each directory its children. (own)
use Rattle.std.specs.Prelude.{◌≡◌, ℕ, zero, suc, ◌<◌, Bool, true, false, List, [], map, length, Option, Some, None, slice_index_or, slice_set, cond}
use Rattle.std.specs.Str.{bytes_eq}
use Rattle.file_tree.specs.Places.{at_name}
use Rattle.file_tree.specs.Nodes as nodes
use Rattle.file_tree.specs.Nodes.{Kind, Node, node}
use Rattle.file_tree.specs.WellFormed.{IsTree}

-- Where a node stands: it is the root, or it has a name in the directory of a number, or it was removed and
-- keeps the place that it had then.
pub data Standing : Type 0 where
  Root : Standing
  In : ℕ → List ℕ → Standing
  Out : List (List ℕ) → Standing

-- A node, with the number of the child that has a name in it.
pub record TreeEntry : Type 0 where
  pub kind : Kind
  pub stand : Standing
  pub child : List ℕ → Option ℕ
  pub content : List ℕ

-- what a number names that no node has
abbrev pub no_tree_entry : TreeEntry
no_tree_entry = record { kind = nodes.Link; stand = Out []; child = λ name. None; content = [] }

abbrev pub tree_entry : List TreeEntry → ℕ → TreeEntry
tree_entry ls n = slice_index_or ls n no_tree_entry

abbrev pub is_in : Standing → Bool
is_in Root = true
is_in (In d name) = true
is_in (Out p) = false

-- the names from the root down to a node, found by going up so many times at most
abbrev pub place_up : ℕ → List TreeEntry → Standing → List (List ℕ)
place_up zero ls s = []
place_up (suc fuel) ls Root = []
place_up (suc fuel) ls (In d name) = at_name (place_up fuel ls (tree_entry ls d).stand) name
place_up (suc fuel) ls (Out p) = p

-- The tree that the links are: no node lies deeper than there are nodes.
abbrev pub linked_node : List TreeEntry → TreeEntry → Node
linked_node ls l = record { kind = l.kind; place = place_up (length ls) ls l.stand; linked = is_in l.stand; content = l.content }

unfoldable pub linked_nodes : List TreeEntry → List Node
linked_nodes ls = map (linked_node ls) ls

-- When a stand is that of a node in a tree: the root's place is empty, a name's is in the directory that holds it, which is linked.
abbrev pub StandFits : List Node → Standing → Node → Type 0
StandFits t Root m = (m.linked ≡ true) × (m.place ≡ [])
StandFits t (In d name) m = (m.linked ≡ true) × ((node t d).linked ≡ true) × (m.place ≡ at_name (node t d).place name)
StandFits t (Out p) m = (m.linked ≡ false) × (m.place ≡ p)

pub record EntryFits (t : List Node) (l : TreeEntry) (m : Node) : Type 0 where
  pub kind : l.kind ≡ m.kind
  pub content : l.content ≡ m.content
  pub stand : StandFits t l.stand m

pub record Fits (ls : List TreeEntry) (t : List Node) : Type 0 where
  pub count : length ls ≡ length t
  pub each : (n : ℕ) → n < length t → EntryFits t (tree_entry ls n) (node t n)

-- The directories name as their children those nodes, and only those, that name them as what holds them.
pub record Filed (stand : ℕ → Standing) (child : ℕ → List ℕ → Option ℕ) : Type 0 where
  pub named : (n d : ℕ) (name : List ℕ) → stand n ≡ In d name → child d name ≡ Some n
  pub holds : (d : ℕ) (name : List ℕ) (n : ℕ) → child d name ≡ Some n → stand n ≡ In d name

abbrev pub IsFiled : List TreeEntry → Type 0
IsFiled ls = Filed (λ n. (tree_entry ls n).stand) (λ d. (tree_entry ls d).child)

-- The links are a tree, and each name is filed.
pub record IsLinkedTree (ls : List TreeEntry) : Type 0 where
  pub tree : IsTree (linked_nodes ls)
  pub fits : Fits ls (linked_nodes ls)
  pub filed : IsFiled ls

-- what holds a node by its stand
abbrev pub holder : Standing → Option ℕ
holder Root = None
holder (In d name) = Some d
holder (Out p) = None

-- The links with another stand of one node, with another child under a name of one directory, and with another content of one node.
unfoldable pub stood : List TreeEntry → ℕ → Standing → List TreeEntry
stood ls n s = slice_set ls n (record { kind = (tree_entry ls n).kind; stand = s; child = (tree_entry ls n).child; content = (tree_entry ls n).content })

unfoldable pub filed : List TreeEntry → ℕ → List ℕ → Option ℕ → List TreeEntry
filed ls d name o =
    slice_set ls d (record { kind = (tree_entry ls d).kind; stand = (tree_entry ls d).stand; child = λ q. cond (bytes_eq name q) o ((tree_entry ls d).child q); content = (tree_entry ls d).content })

unfoldable pub refilled : List TreeEntry → ℕ → List ℕ → List TreeEntry
refilled ls n content = slice_set ls n (record { kind = (tree_entry ls n).kind; stand = (tree_entry ls n).stand; child = (tree_entry ls n).child; content = content })

-- An entry of a node that was just made in a directory: it has that name there, and no children.
pub record IsNewLink (l : TreeEntry) (d : ℕ) (name : List ℕ) (kind : Kind) (content : List ℕ) : Type 0 where
  pub stand : l.stand ≡ In d name
  pub bare : (q : List ℕ) → l.child q ≡ None
  pub kind_is : l.kind ≡ kind
  pub content_is : l.content ≡ content

-- The links once a node is out of its directory and keeps a place: the name that it had there is filed no more.
pub record TakenOut (ls us : List TreeEntry) (n : ℕ) (p : List (List ℕ)) : Type 0 where
  pub from : (d : ℕ) (name : List ℕ) → (tree_entry ls n).stand ≡ In d name → us ≡ filed (stood ls n (Out p)) d name None

-- The links once the way to a place in a directory is clear for a node: it is filed under the name there, and what
-- had the name is out, at that place.
abbrev pub way_made : List TreeEntry → Option ℕ → List (List ℕ) → ℕ → List ℕ → ℕ → List TreeEntry
way_made ls None place d name n = filed ls d name (Some n)
way_made ls (Some r) place d name n = stood (filed ls d name (Some n)) r (Out place)

-- The links once a node names a directory as what holds it, and is no more filed where it was.
pub record Relinked (ls us : List TreeEntry) (n d : ℕ) (name : List ℕ) : Type 0 where
  pub from : (e : ℕ) (old : List ℕ) → (tree_entry ls n).stand ≡ In e old → us ≡ filed (stood ls n (In d name)) e old None
