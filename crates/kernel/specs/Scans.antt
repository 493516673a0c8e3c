-- What the model finds by going through names, tables and queues is what can be said without: what a path leads to, also event
-- after event, and that an end is open.
use Rattle.std.specs.Prelude.{◌≡◌, ◌↔◌, ℕ, true, List, Some, None}
use Rattle.std.specs.List.{slice_get}
use Rattle.file_tree.specs.Nodes.{Node}
use Rattle.file_tree.specs.WellFormed.{IsTree}
use Rattle.lookup.specs.Answers.{Way, Last, Finding}
use Rattle.lookup.specs.Looks.{Looks, find_of, lookup_fault}
use Rattle.lookup.specs.Walks.{Arrives, begun}
use Rattle.fd_table.specs.Descriptions.{Message}
use Rattle.fd_table.specs.OpenFiles.{OpenFiles, names_end, is_open}
use Rattle.kernel.specs.World.{World}
use Rattle.kernel.specs.Steps.{Programs}
use Rattle.kernel.specs.WellFormed.{IsWellFormed}

-- A path leads to what the function gives, and to nothing else.
abbrev pub LookupsCompute : Type 0
LookupsCompute =
    (t : List Node) (start : ℕ) (path : List ℕ) (way : Way) (last : Last) (answer : Finding)
    → (find_of t start path way last ≡ answer) ↔ Looks t start path way last answer

-- An event for each name leads there too, where the tree stays as it is and neither the path's text nor the start is refused.
abbrev pub WalksArrive : Type 0
WalksArrive =
    (t : List Node) (start : ℕ) (path : List ℕ) (way : Way) (last : Last) (finding : Finding)
    → IsTree t
    → lookup_fault t start path way last ≡ None
    → Arrives t (begun start path way last) finding ↔ (find_of t start path way last ≡ finding)

-- some entry of some table, or some message of some queue, names a description of that end
pub data IsNamedEnd (f : OpenFiles) (pair side : ℕ) : Type 0 where
  in_table : (p n : ℕ) → names_end f.objects pair side (f.table p n) ≡ true → IsNamedEnd f pair side
  in_queue : (q s i : ℕ) (m : Message) → slice_get (f.queue q s) i ≡ Some m → names_end f.objects pair side m.passed ≡ true → IsNamedEnd f pair side

-- The scans of a well-formed world miss nothing.
abbrev pub OpenEndsAreNamed : Type 0
OpenEndsAreNamed =
    (programs : Programs) (w : World)
    → IsWellFormed programs w
    → (pair side : ℕ)
    → (is_open w.files pair side ≡ true) ↔ IsNamedEnd w.files pair side
