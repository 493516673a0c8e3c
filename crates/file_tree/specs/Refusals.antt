-- Trees that are built, and which changes of a tree are refused. (own, after open(2), mkdir(2), unlink(2), rename(2) and
-- ftruncate(2))
use Rattle.std.specs.Prelude.{ℕ, Bool, true, ◌&&◌, ◌||◌, not, nat_lt, List, [], ◌∷◌, ◌++◌, Option, Some, None, is_some, length, if◌then◌else◌}
use Rattle.rights.specs.Limits.{most_nodes, most_bytes}
use Rattle.file_tree.specs.Places.{same_place, begins, at_name}
use Rattle.file_tree.specs.Changes.{added}
use Rattle.file_tree.specs.Nodes.{Kind, Dir, Node, node, node_at, has_below}

-- Why a change is refused.
pub data ChangeFault : Type 0 where
  Exists : ChangeFault
  NotEmpty : ChangeFault
  Full : ChangeFault
  IntoItself : ChangeFault
  Gone : ChangeFault

-- A new tree has the root alone.
abbrev pub new_tree : List Node
new_tree = record { kind = Dir; place = []; linked = true; content = [] } ∷ []

-- The tree with one more node, of that name in a directory. (open(2), mkdir(2))
unfoldable pub created : List Node → ℕ → List ℕ → Kind → List ℕ → List Node
created t d name kind content = added t (at_name (node t d).place name) kind content

-- A new node is refused in a directory that was removed, under a name that is taken, and in a full tree.
unfoldable pub create_fault : List Node → ℕ → List ℕ → Option ChangeFault
create_fault t d name =
    if not (node t d).linked then Some Gone
    else (if is_some (node_at t (at_name (node t d).place name)) then Some Exists
    else (if nat_lt (length t) most_nodes then None else Some Full))

-- whether a place is the root's
abbrev pub is_root : List (List ℕ) → Bool
is_root p = same_place [] p

-- A removal is refused of what was removed, and of a directory that holds something. The root is never empty.
unfoldable pub remove_fault : List Node → ℕ → Option ChangeFault
remove_fault t n =
    if not (node t n).linked then Some Gone
    else (if is_root (node t n).place || has_below t (node t n).place then Some NotEmpty else None)

-- A rename is refused of what was removed and into what was removed, to a place below the node itself,
-- and over a directory that holds something. All places are below the root's.
unfoldable pub rename_fault : List Node → ℕ → ℕ → List ℕ → Option ChangeFault
rename_fault t n d name =
    let from = (node t n).place in
    let to = at_name (node t d).place name in
    if not ((node t n).linked && (node t d).linked) then Some Gone
    else (if same_place to from then None
    else (if begins from to then Some IntoItself
    else (if has_below t to then Some NotEmpty else None)))

-- A file is full at its greatest length. (write(2), ftruncate(2))
abbrev pub put_byte_fault : ℕ → Option ChangeFault
put_byte_fault at = if nat_lt at most_bytes then None else Some Full

abbrev pub truncate_fault : ℕ → Option ChangeFault
truncate_fault len = if nat_lt most_bytes len then Some Full else None
