-- A lookup by places, which reads nothing but what stands where: it stands at some names below the place
-- of its start. (open(2) and capsicum(4), but for what is marked own)
use Rattle.std.specs.Prelude.{ℕ, ◌&&◌, not, List, [], ◌∷◌, Option, Some, None, if◌then◌else◌}
use Rattle.rights.specs.Values.{Name, Place, NodeNumber}
use Rattle.file_tree.specs.Places.{at_name}
use Rattle.file_tree.specs.Nodes.{Node, node, node_at, is_dir, is_link}
use Rattle.lookup.specs.Answers.{Way, Beneath, Global, Last, absent, is_kept, Escape, No_entry, Not_dir, Finding, Found_node, Not_found}
use Rattle.lookup.specs.Paths.{is_dot, is_dot_dot}
use Rattle.lookup.specs.Steps.{Move, Moves, Meets, Stops, Rules}

-- the place of some names below a start, the last name first
abbrev pub place_below : Place → List Name → Place
place_below start [] = start
place_below start (name ∷ below) = at_name (place_below start below) name

-- `..` goes back to the directory above. At its start a lookup would leave what lies beneath, which is an
-- escape (open(2), ENOTCAPABLE); the root is above itself.
abbrev pub at_start : Way → Move (List Name)
at_start Beneath = Stops (Not_found Escape)
at_start Global = Moves []

abbrev pub upwards : Way → List Name → Move (List Name)
upwards way [] = at_start way
upwards way (name ∷ below) = Moves below

-- a node stands there, or none: a link is met unless it is kept, and all else is gone to
abbrev pub downwards : List Node → Last → List Name → Name → List Name → NodeNumber → Option NodeNumber → Move (List Name)
downwards t last below name left d None = Stops (absent last left d)
downwards t last below name left d (Some n) =
    if is_link (node t n).kind && not (is_kept last left) then Meets (node t n).content else Moves (name ∷ below)

-- A name in what stands where the lookup stands, which has to be a directory; where nothing stands, there is
-- no entry.
abbrev pub in_place : List Node → Way → Last → Place → List Name → Name → List Name → Option NodeNumber → Move (List Name)
in_place t way last start below name left None = Stops (Not_found No_entry)
in_place t way last start below name left (Some d) =
    if not (is_dir (node t d).kind) then Stops (Not_found Not_dir)
    else (if is_dot name then Moves below
    else (if is_dot_dot name then upwards way below
    else downwards t last below name left d (node_at t (at_name (place_below start below) name))))

-- where no name is left, what stands there is the answer
abbrev pub standing : Option ℕ → Finding
standing None = Not_found No_entry
standing (Some n) = Found_node n

-- Beneath a start no absolute target is looked up; else it is, from the root.
abbrev pub restart_below : Way → Option (List Name)
restart_below Beneath = None
restart_below Global = Some []

-- The rules of a lookup beneath a start's place, or from the root.
unfoldable pub by_places : List Node → Way → Last → Place → Rules (List Name)
by_places t way last start = record {
  arrived = λ below. standing (node_at t (place_below start below));
  component = λ below name left. in_place t way last start below name left (node_at t (place_below start below));
  restart = restart_below way;
}
