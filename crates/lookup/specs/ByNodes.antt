-- A lookup by nodes, which reads of the tree only what the node that it stands at is, what holds it, and what has a name in it: so
-- it may go on in a tree that has changed. On one tree it is the lookup by places. (own)
use Rattle.std.specs.Prelude.{Bool, false, ◌&&◌, not, nat_eq, List, [], ◌∷◌, Option, Some, None, if◌then◌else◌}
use Rattle.rights.specs.Values.{Name, NodeNumber}
use Rattle.file_tree.specs.Nodes.{Node, node, child_of, parent_of, is_dir, is_link}
use Rattle.lookup.specs.Answers.{Way, Beneath, Global, Last, absent, is_kept, Escape, No_entry, Not_dir, Found_node, Not_found}
use Rattle.lookup.specs.Paths.{is_dot, is_dot_dot}
use Rattle.lookup.specs.Steps.{Move, Moves, Meets, Stops, Rules}

-- the node that a lookup stands at, and the directories that it walked before, the latest first
pub record Walked : Type 0 where
  pub current : NodeNumber
  pub before : List NodeNumber

abbrev pub from_node : NodeNumber → Walked
from_node n = record { current = n; before = [] }

-- At its start a lookup beneath would leave what lies there, which is an escape; a global one stays.
abbrev pub back_at_start : Way → NodeNumber → Move Walked
back_at_start Beneath n = Stops (Not_found Escape)
back_at_start Global n = Moves (from_node n)

-- whether that directory is what holds a node
abbrev pub is_holder : NodeNumber → Option NodeNumber → Bool
is_holder d None = false
is_holder d (Some parent) = nat_eq d parent

-- the directory walked before doesn't hold the node any more
abbrev pub no_way_back : Way → Move Walked
no_way_back Beneath = Stops (Not_found Escape)
no_way_back Global = Stops (Not_found No_entry)

-- `..` goes back to the directory that was walked before, if that is the one that holds the node now
abbrev pub back : List Node → Way → NodeNumber → List NodeNumber → Move Walked
back t way n [] = back_at_start way n
back t way n (d ∷ before) =
    if is_holder d (parent_of t n) then Moves (record { current = d; before = before }) else no_way_back way

-- a node has the name there, or none: a link is met unless it is kept, and all else is gone to
abbrev pub into : List Node → Last → NodeNumber → List NodeNumber → List Name → Option NodeNumber → Move Walked
into t last d before left None = Stops (absent last left d)
into t last d before left (Some n) =
    if is_link (node t n).kind && not (is_kept last left) then Meets (node t n).content
    else Moves (record { current = n; before = d ∷ before })

-- A name in the node where the lookup stands, which has to be a directory that wasn't removed.
abbrev pub in_node : List Node → Way → Last → NodeNumber → List NodeNumber → Name → List Name → Move Walked
in_node t way last d before name left =
    if not (is_dir (node t d).kind) then Stops (Not_found Not_dir)
    else (if not (node t d).linked then Stops (Not_found No_entry)
    else (if is_dot name then Moves (record { current = d; before = before })
    else (if is_dot_dot name then back t way d before
    else into t last d before left (child_of t d name))))

abbrev pub restart_node : Way → Option Walked
restart_node Beneath = None
restart_node Global = Some (from_node 0)

-- The rules of a lookup that begins at some node.
unfoldable pub by_nodes : List Node → Way → Last → Rules Walked
by_nodes t way last = record {
  arrived = λ walked. Found_node walked.current;
  component = λ walked name left. in_node t way last walked.current walked.before name left;
  restart = restart_node way;
}
