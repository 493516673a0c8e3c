-- What becomes of a tree. (own, after open(2), mkdir(2), unlink(2), rename(2), write(2) and ftruncate(2))
use Rattle.std.specs.Prelude.{ℕ, ◌+◌, ◌-◌, true, false, ◌&&◌, List, [], ◌∷◌, ◌++◌, length, take, drop, map, replicate, slice_set, if◌then◌else◌}
use Rattle.rights.specs.Values.{Place, Content, NodeNumber}
use Rattle.file_tree.specs.Places.{same_place, begins}
use Rattle.file_tree.specs.Nodes.{Kind, Node, node, stands_at}

-- A new node goes to the end. (open(2), mkdir(2))
abbrev pub added : List Node → Place → Kind → Content → List Node
added t place kind content = t ++ record { kind = kind; place = place; linked = true; content = content } ∷ []

-- A removed node keeps its place and all else. (unlink(2))
abbrev pub unlinked : Node → Node
unlinked m = record { kind = m.kind; place = m.place; linked = false; content = m.content }

unfoldable pub removed : List Node → NodeNumber → List Node
removed t n = slice_set t n (unlinked (node t n))

-- what a rename from p to q makes of a node: the one that stands at q is removed, and in each linked one
-- whose place begins with p this front becomes q
abbrev pub replaced_at : Place → Node → Node
replaced_at q m = if stands_at q m then unlinked m else m

abbrev pub moved : Place → Place → Node → Node
moved p q m = if m.linked && begins p m.place then record { kind = m.kind; place = q ++ drop (length p) m.place; linked = m.linked; content = m.content } else m

-- The tree after a node was given another place; to its own place nothing changes. (rename(2))
abbrev pub renamed : List Node → NodeNumber → Place → List Node
renamed t n place =
    let from = (node t n).place in
    if same_place place from then t else map (λ m. moved from place (replaced_at place m)) t

-- a content of that length: it is cut, or goes on with zeros
abbrev pub resized : Content → ℕ → Content
resized content len = take len content ++ replicate (len - length content) 0

-- a content with that byte at an offset, the gap before it filled with zeros
abbrev pub written : Content → ℕ → ℕ → Content
written content at b = resized content at ++ b ∷ drop (at + 1) content

-- The tree after a node was given another content.
unfoldable pub filled : List Node → NodeNumber → Content → List Node
filled t n content =
    slice_set t n (record { kind = (node t n).kind; place = (node t n).place; linked = (node t n).linked; content = content })
