-- A lookup under way, one event after the other. The tree may be another at each event. (own)
use Rattle.std.specs.Prelude.{◌≡◌, ◌⊎◌, ◌<◌, ℕ, ◌+◌, ◌-◌, ◌*◌, ◌^◌, List, [], ◌∷◌, length, Option, Some, None}
use Rattle.rights.specs.Values.{Name, NodeNumber, PathText}
use Rattle.file_tree.specs.Nodes.{Node, parent_of}
use Rattle.lookup.specs.Answers.{Way, Last, LookupFault, Finding, Found_node, Found_free, Not_found}
use Rattle.lookup.specs.Leads.{Stand, Next, Goes, Ends, next}
use Rattle.lookup.specs.ByNodes.{Walked, from_node, by_nodes}
use Rattle.lookup.specs.Looks.{first_stand, start_node, lookup_fault}

-- where it stands, and the rules by which it goes
pub record WalkState : Type 0 where
  pub way : Way
  pub last : Last
  pub stand : Stand Walked

-- what an event comes to: the lookup's end, or names left for later events
pub data Progress : Type 0 where
  Done : Finding → Progress
  More : WalkState → Progress

-- before the first name
abbrev pub begun : NodeNumber → PathText → Way → Last → WalkState
begun start path way last = record { way = way; last = last; stand = first_stand (from_node (start_node start way)) path }

-- Where no name is left, the lookup ends in the same event.
abbrev pub settled_at : WalkState → Stand Walked → List Name → Progress
settled_at walk stand [] = Done (Found_node stand.cursor.current)
settled_at walk stand (name ∷ left) = More (record walk { stand = stand })

abbrev pub settled : WalkState → Next Walked → Progress
settled walk (Goes stand) = settled_at walk stand stand.left
settled walk (Ends finding) = Done finding

-- One event: the next name is looked up in the tree as it is now.
unfoldable pub handled : List Node → WalkState → Progress
handled t walk = settled walk (next (by_nodes t walk.way walk.last) walk.stand)

-- The first event: what is wrong with the path's text or its start is told before the first name.
abbrev pub unless_faulty : Option LookupFault → Progress → Progress
unless_faulty None progress = progress
unless_faulty (Some fault) progress = Done (Not_found fault)

unfoldable pub first_handled : List Node → NodeNumber → PathText → Way → Last → Progress
first_handled t start path way last = unless_faulty (lookup_fault t start path way last) (handled t (begun start path way last))

-- What a lookup comes to, event after event, on a tree that stays as it is.
pub data Arrives (t : List Node) : WalkState → Finding → Type 0 where
  in_one : {walk : WalkState} {finding : Finding} → handled t walk ≡ Done finding → Arrives t walk finding
  in_more : {walk after : WalkState} {finding : Finding} → handled t walk ≡ More after → Arrives t after finding → Arrives t walk finding

-- the nodes that it stands at and walked are of the tree
abbrev pub AreInTree : List Node → List NodeNumber → Type 0
AreInTree t [] = Unit {0}
AreInTree t (n ∷ nodes) = (n < length t) × AreInTree t nodes

abbrev pub IsInTree : List Node → WalkState → Type 0
IsInTree t walk = AreInTree t (walk.stand.cursor.current ∷ walk.stand.cursor.before)

-- what it has left to do: links that may be followed, and names
abbrev pub work_left : WalkState → ℕ
work_left walk = (33 - walk.stand.followed) * 2 ^ 64 + length walk.stand.left

-- Where a lookup beneath its start may stand after an event: where it stood, at what that holds now, or back at the directory walked
-- before, if that holds it now.
abbrev pub IsLatest : NodeNumber → List NodeNumber → Type 0
IsLatest n [] = ⊥
IsLatest n (d ∷ before) = n ≡ d

abbrev pub IsNear : List Node → Walked → NodeNumber → Type 0
IsNear t at n = (n ≡ at.current) ⊎ ((parent_of t n ≡ Some at.current) ⊎ (IsLatest n at.before × (parent_of t at.current ≡ Some n)))

abbrev pub IsNearFinding : List Node → Walked → Finding → Type 0
IsNearFinding t at (Found_node n) = IsNear t at n
IsNearFinding t at (Found_free d) = d ≡ at.current
IsNearFinding t at (Not_found fault) = Unit {0}
