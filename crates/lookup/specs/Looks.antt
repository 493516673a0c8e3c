-- What a path leads to. (open(2), capsicum(4))
use Rattle.std.specs.Prelude.{◌≡◌, ℕ, Bool, false, not, List, [], Option, Some, None, MatchOption, if◌then◌else◌}
use Rattle.rights.specs.Values.{Place, PathText, NodeNumber}
use Rattle.file_tree.specs.Places.{path_components}
use Rattle.file_tree.specs.Nodes.{Node, node}
use Rattle.lookup.specs.Answers.{Way, Beneath, Global, Last, LookupFault, No_entry, Finding, Not_found}
use Rattle.lookup.specs.Paths.{path_fault}
use Rattle.rights.specs.Limits.{most_links}
use Rattle.lookup.specs.Leads.{Stand, Leads}
use Rattle.lookup.specs.Steps.{looked}
use Rattle.lookup.specs.ByPlaces.{by_places}
use Rattle.lookup.specs.ByNodes.{from_node, by_nodes}

-- A lookup starts at the place of the directory that it stays beneath, or at the root, whether or not the
-- path begins with `/`.
abbrev pub start_place : List Node → NodeNumber → Way → Place
start_place t start Beneath = (node t start).place
start_place t start Global = []

abbrev pub start_node : NodeNumber → Way → NodeNumber
start_node start Beneath = start
start_node start Global = 0

-- nothing is beneath a removed start; the root is never removed (own)
abbrev pub is_start_gone : List Node → NodeNumber → Way → Bool
is_start_gone t start Beneath = not (node t start).linked
is_start_gone t start Global = false

-- why nothing is looked up: the text is asked first, then the start
abbrev pub start_fault : List Node → NodeNumber → Way → Option LookupFault
start_fault t start way = if is_start_gone t start way then Some No_entry else None

abbrev pub or_else : Option LookupFault → Option LookupFault → Option LookupFault
or_else None other = other
or_else (Some fault) other = Some fault

unfoldable pub lookup_fault : List Node → NodeNumber → PathText → Way → Last → Option LookupFault
lookup_fault t start path way last = or_else (path_fault path way last) (start_fault t start way)

-- a lookup before its first name
abbrev pub first_stand : {Cursor : Type 0} → Cursor → List ℕ → Stand Cursor
first_stand cursor path = record { cursor = cursor; left = path_components path; followed = 0 }

-- The path leads to the answer.
unfoldable pub Looks : List Node → NodeNumber → PathText → Way → Last → Finding → Type 0
Looks t start path way last answer =
    MatchOption (lookup_fault t start path way last)
    (Leads (by_places t way last (start_place t start way)) (first_stand [] path) answer)
    (λ fault. answer ≡ Not_found fault)

-- The same as a function.
abbrev pub unless_lost : Option LookupFault → Finding → Finding
unless_lost None answer = answer
unless_lost (Some fault) answer = Not_found fault

unfoldable pub find_of : List Node → NodeNumber → PathText → Way → Last → Finding
find_of t start path way last =
    unless_lost (lookup_fault t start path way last)
    (looked (by_places t way last (start_place t start way)) most_links (path_components path) [])

-- The same by nodes.
unfoldable pub walk_of : List Node → NodeNumber → PathText → Way → Last → Finding
walk_of t start path way last =
    unless_lost (lookup_fault t start path way last)
    (looked (by_nodes t way last) most_links (path_components path) (from_node (start_node start way)))
