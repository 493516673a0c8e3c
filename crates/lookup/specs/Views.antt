-- What the values of the code stand for.
use Rattle.std.specs.Prelude.{◌≡◌, ◌<◌, ℕ, List, length, reverse, Option, Some, None, IfSome, Result, Ok, Err}
use Rattle.lookup.specs.declared.ways.Way.{Way as WayCode}
use Rattle.lookup.specs.declared.ways.Way.TheVariants as way
use Rattle.lookup.specs.declared.ways.Last.{Last as LastCode}
use Rattle.lookup.specs.declared.ways.Last.TheVariants as last
use Rattle.lookup.specs.declared.ways.Found.{Found}
use Rattle.lookup.specs.declared.ways.Stand.{Stand as StandCode}
use Rattle.lookup.specs.declared.ways.Found.TheVariants as found
use Rattle.lookup.specs.declared.faults.PathFault.{PathFault}
use Rattle.lookup.specs.declared.faults.PathFault.TheVariants as fault
use Rattle.lookup.specs.declared.trail.Trail.{Trail}
use Rattle.lookup.specs.declared.ways.Progress.{Progress as ProgressCode}
use Rattle.lookup.specs.declared.ways.Progress.TheVariants as progress
use Rattle.lookup.specs.declared.trail.Meaning.{Meaning}
use Rattle.lookup.specs.declared.trail.Meaning.TheVariants as meaning
use Rattle.file_tree.specs.Nodes.{Node}
use Rattle.lookup.specs.Leads.{Stand, Next, Goes, Ends, onward}
use Rattle.lookup.specs.Steps.{Move, Moves, Stops, Rules}
use Rattle.lookup.specs.ByNodes.{Walked, back, by_nodes, in_node, into}
use Rattle.lookup.specs.Walks.{WalkState, Progress, Done, More, settled_at, IsNear, IsNearFinding}
use Rattle.lookup.specs.Answers.{Way, Beneath, Global, Last, absent, Follow, Keep, LookupFault, Escape, No_entry, Not_dir, Loop, Too_long, Bad_last, Finding, Found_node, Found_free, Not_found}

abbrev pub way_of : WayCode → Way
way_of way.Beneath = Beneath
way_of way.Global = Global

abbrev pub last_of : LastCode → Last
last_of last.Follow = Follow
last_of last.Keep = Keep

abbrev pub found_of : Found → Finding
found_of (found.Node n) = Found_node n
found_of (found.Free d) = Found_free d

-- the fault; want of memory is none of a path's
abbrev pub fault_of : PathFault → Option LookupFault
fault_of fault.Escape = Some Escape
fault_of fault.NoEntry = Some No_entry
fault_of fault.NotDir = Some Not_dir
fault_of fault.Loop = Some Loop
fault_of fault.TooLong = Some Too_long
fault_of fault.BadLast = Some Bad_last
fault_of fault.Memory = None

-- what a call of `find` answers; want of memory is no answer, and may come in place of any
abbrev pub not_found : Option LookupFault → Option Finding
not_found None = None
not_found (Some fault) = Some (Not_found fault)

abbrev pub answer_of : Result Found PathFault → Option Finding
answer_of (Ok found) = Some (found_of found)
answer_of (Err error) = not_found (fault_of error)

-- the numbers of the faults
abbrev pub path_fault_number : PathFault → ℕ
path_fault_number fault.Escape = 1
path_fault_number fault.NoEntry = 2
path_fault_number fault.NotDir = 3
path_fault_number fault.Loop = 4
path_fault_number fault.TooLong = 5
path_fault_number fault.BadLast = 6
path_fault_number fault.Memory = 7

-- The error tells the fault; want of memory comes only where there is none.
abbrev pub Told : Option LookupFault → PathFault → Type 0
Told fault error = fault ≡ fault_of error

-- where a walk stands, and by which rules it goes on in a tree
abbrev pub stand_of : Trail → Stand Walked
stand_of trail = record {
  cursor = record { current = trail.current; before = reverse trail.before.items };
  left = trail.left;
  followed = trail.followed;
}

abbrev pub walk_state : Trail → WalkState
walk_state trail = record { way = way_of trail.way; last = last_of trail.last; stand = stand_of trail }

-- it shows where a walk stands
pub record IsStand (shown : StandCode) (walk : WalkState) : Type 0 where
  pub way : way_of shown.way ≡ walk.way
  pub last : last_of shown.last ≡ walk.last
  pub current : shown.current ≡ walk.stand.cursor.current
  pub before : reverse shown.before.now ≡ walk.stand.cursor.before
  pub followed : shown.followed ≡ walk.stand.followed

abbrev pub rules_of : List Node → Trail → Rules Walked
rules_of t trail = by_nodes t (way_of trail.way) (last_of trail.last)

-- what is next, by where a name leads
abbrev pub after_move : Rules Walked → Trail → Move Walked → Next Walked
after_move rules trail move = onward rules (stand_of trail).cursor (stand_of trail).left trail.followed move

-- where a name leads that names follow, and where what it means leads
abbrev pub name_move : List Node → Trail → List ℕ → List (List ℕ) → Move Walked
name_move t trail name left = in_node t (way_of trail.way) (last_of trail.last) trail.current (stand_of trail).cursor.before name left

abbrev pub meaning_move : List Node → Trail → List (List ℕ) → Meaning → Move Walked
meaning_move t trail left meaning.Itself = Moves (stand_of trail).cursor
meaning_move t trail left meaning.Above = back t (way_of trail.way) trail.current (stand_of trail).cursor.before
meaning_move t trail left meaning.Nothing = Stops (absent (last_of trail.last) left trail.current)
meaning_move t trail left (meaning.Node n) = into t (last_of trail.last) trail.current (stand_of trail).cursor.before left (Some n)

-- The name means that, whichever names follow it.
abbrev pub Means : List Node → Trail → List ℕ → Result Meaning PathFault → Type 0
Means t trail name (Ok meaning) = (left : List (List ℕ)) → name_move t trail name left ≡ meaning_move t trail left meaning
Means t trail name (Err error) = IfSome (fault_of error) (λ fault. (left : List (List ℕ)) → name_move t trail name left ≡ Stops (Not_found fault))

-- A node that it means is one of the tree.
abbrev pub IsMeaningThere : List Node → Meaning → Type 0
IsMeaningThere t (meaning.Node n) = n < length t
IsMeaningThere t _ = Unit {0}

-- what is next after a name, by what it means, and after a node that has the name
abbrev pub after_name : List Node → Trail → Meaning → Next Walked
after_name t trail meaning = after_move (rules_of t trail) trail (meaning_move t trail trail.left meaning)

abbrev pub after_node : List Node → Trail → ℕ → Next Walked
after_node t trail n =
    after_move (rules_of t trail) trail (into t (last_of trail.last) trail.current (stand_of trail).cursor.before (stand_of trail).left (Some n))

abbrev pub SameRules : Trail → Trail → Type 0
SameRules old new = (new.way ≡ old.way) × (new.last ≡ old.last)

-- The walk did what was next, unless it met want of memory.
abbrev pub StepsAlong : Result ProgressCode PathFault → Next Walked → Stand Walked → Type 0
StepsAlong (Ok progress.More) next stand = next ≡ Goes stand
StepsAlong (Ok (progress.Done found)) next stand = next ≡ Ends (found_of found)
StepsAlong (Err error) next stand = IfSome (fault_of error) (λ fault. next ≡ Ends (Not_found fault))

-- The same of a whole event.
abbrev pub IsHandled : Result ProgressCode PathFault → Progress → WalkState → Type 0
IsHandled (Ok progress.More) event walk = event ≡ More walk
IsHandled (Ok (progress.Done found)) event walk = event ≡ Done (found_of found)
IsHandled (Err error) event walk = IfSome (fault_of error) (λ fault. event ≡ Done (Not_found fault))

-- what no name left, or some, makes of a walk that goes on
abbrev pub IsSettled : ProgressCode → Stand Walked → Type 0
IsSettled result stand =
    (walk : WalkState) → IsHandled (Ok result) (settled_at walk stand stand.left) (record walk { stand = stand })

-- what an event gave, or where the walk stands after it, is near where it stood
abbrev pub StaysNear : List Node → Walked → Result ProgressCode PathFault → WalkState → Type 0
StaysNear t at (Ok progress.More) walk = IsNear t at walk.stand.cursor.current
StaysNear t at (Ok (progress.Done found)) walk = IsNearFinding t at (found_of found)
StaysNear t at (Err error) walk = Unit {0}
