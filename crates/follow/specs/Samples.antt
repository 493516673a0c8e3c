-- A run that shows the calls of a record, and those that don't, each for another reason.
use Rattle.std.specs.Prelude.{◌≡◌, ℕ, Bool, true, false, List, [], ◌∷◌, ◌++◌, codes, map, replicate, Option, Some, None}
use Rattle.rights.specs.Calls as calls
use Rattle.rights.specs.Calls.{Call}
use Rattle.rights.specs.Errors.{EBADF}
use Rattle.rights.specs.Opens.{open_request}
use Rattle.rights.specs.Sets.{all_rights, all_commands}
use Rattle.file_tree.specs.Nodes.{Link}
use Rattle.file_tree.specs.Places.{slash}
use Rattle.std.specs.List.{list_any}
use Rattle.instruction_set.specs.Programs.{Instruction, Halt, Invoke, Register, Number, Open, Read, Dup, Close, Cap_enter}
use Rattle.records.specs.Calls.{RealOperand, RecordedOutcome, Succeeds, Fails, RecordedEvent, Called, Ended, RecordEntry, RecordedCalls}
use Rattle.records.specs.Calls as real
use Rattle.task.specs.Breaches.{small_tree}
use Rattle.task.specs.Plans.{On_node, Plan, unmarked}
use Rattle.follow.specs.Excused.{are_excused, has_past, tallied}
use Rattle.follow.specs.Places.{Placing, is_foreign}
use Rattle.follow.specs.Shows.{Judges, Move, Steps, Skips, Shows, Witness}

-- A process with the file `/work/in` as descriptor 2, in the mode or not.
abbrev pub running : Bool → List Instruction → Plan
running mode code = record {
  wide = false;
  nodes = small_tree;
  grants = record { name = codes "work"; path = codes "work" ∷ []; operations = [] } ∷ [];
  programs = unmarked (codes "main") code ∷ [];
  starts =
      record {
        program = 0;
        mode = mode;
        descriptors =
            record { number = 2; object = On_node 2 (record { readable = true; writable = false }); rights = all_rights; fcntls = all_commands } ∷ [];
      }
      ∷ [];
}

-- It reads a byte, copies the descriptor to number 0, closes the copy, and ends.
abbrev pub copying : Bool → Plan
copying mode = running mode (Invoke (Read (Number 2)) 3 ∷ Invoke (Dup (Number 2)) 3 ∷ Invoke (Close (Register 0)) 3 ∷ Halt ∷ [])

-- It reads a byte, and does this.
abbrev pub reading : List Instruction → Plan
reading code = running false (Invoke (Read (Number 2)) 0 ∷ code)

-- It enters the mode, and ends.
abbrev pub entering : Plan
entering = running false (Invoke Cap_enter 1 ∷ Halt ∷ [])

-- It opens the file by its path, and ends.
abbrev pub opening : Plan
opening = running false (Invoke (Open (codes "/work/in") (open_request true false false false false)) 1 ∷ Halt ∷ [])

-- what process 540 of the record did in a line of it
abbrev pub at_line : ℕ → RecordedEvent → RecordEntry
at_line line event = record { span = record { first = line; last = line }; process = 540; event = event }

abbrev pub calls_with : Call → List RealOperand → RecordedOutcome → RecordedEvent
calls_with call operands outcome = Called (record { call = call; operands = operands; outcome = outcome; bindings = []; bytes = None })

abbrev pub reads : RecordedEvent
reads = calls_with calls.Read (real.Number 2 ∷ []) (Succeeds 1)

abbrev pub copies : ℕ → RecordedEvent
copies descriptor = calls_with calls.Dup (real.Number descriptor ∷ []) (Succeeds 7)

abbrev pub closes : ℕ → RecordedEvent
closes descriptor = calls_with calls.Close (real.Number descriptor ∷ []) (Succeeds 0)

abbrev pub opens_at : List ℕ → RecordedEvent
opens_at path = calls_with calls.Open (real.Path path ∷ real.Flags (open_request true false false false false) ∷ []) (Succeeds 3)

abbrev pub opens : RecordedEvent
opens = opens_at (codes "/srv/in")

abbrev pub writes : RecordedEvent
writes = calls_with calls.Write (real.Number 9 ∷ real.Number 1 ∷ []) (Succeeds 1)

abbrev pub enters : RecordedEvent
enters = calls_with calls.Cap_enter [] (Succeeds 0)

abbrev pub two_lines : RecordedEvent → RecordedEvent → RecordedCalls
two_lines first second = at_line 1 first ∷ at_line 2 second ∷ []

abbrev pub four_lines : RecordedEvent → RecordedEvent → RecordedEvent → RecordedCalls
four_lines first second third = at_line 1 first ∷ at_line 2 second ∷ at_line 3 third ∷ at_line 4 Ended ∷ []

-- a step of the process that shows the next call, and one that shows none
abbrev pub steps : Option ℕ → Move
steps shows = Steps (record { process = 0; input = 0; refuse = false }) shows

abbrev pub next : Move
next = steps (Some 0)

abbrev pub silent : Move
silent = steps None

abbrev pub by_moves : List Move → Witness
by_moves moves = record { pairs = record { real = 540; model = 0 } ∷ []; moves = moves }

abbrev pub four_steps : Witness
four_steps = by_moves (next ∷ next ∷ next ∷ next ∷ [])

-- Two processes that have the file read a byte of it each. In the record they are 540 and 541, whose line stands first.
abbrev pub reading_both : Plan
reading_both = record (reading (Halt ∷ [])) { starts = (reading (Halt ∷ [])).starts ++ (reading (Halt ∷ [])).starts }

abbrev pub read_in : ℕ → ℕ → ℕ → RecordEntry
read_in process first last = record { span = record { first = first; last = last }; process = process; event = reads }

abbrev pub overlapping : RecordedCalls
overlapping = read_in 541 2 3 ∷ read_in 540 1 4 ∷ []

abbrev pub apart : RecordedCalls
apart = read_in 541 1 2 ∷ read_in 540 3 4 ∷ []

-- the later of the two lines first
abbrev pub later_line_first : Witness
later_line_first = record {
  pairs = record { real = 540; model = 0 } ∷ record { real = 541; model = 1 } ∷ [];
  moves = steps (Some 1) ∷ Steps (record { process = 1; input = 0; refuse = false }) (Some 0) ∷ [];
}

abbrev pub placings : List Placing
placings = record { real = codes "/srv"; model = codes "/work" } ∷ []

pub record SomeRunsShow : Type 0 where
  pub all : Shows (copying false) [] (four_lines reads (copies 2) (closes 7)) four_steps
  pub call_too_many : Judges (copying false) [] (two_lines reads Ended) (by_moves (next ∷ silent ∷ silent ∷ next ∷ [])) false
  pub call_too_few : Judges (copying false) [] (four_lines reads (copies 2) (closes 7)) (by_moves (next ∷ next ∷ [])) false
  pub other_number : Judges (copying false) [] (four_lines reads (copies 3) (closes 7)) four_steps false
  pub other_copy : Judges (copying false) [] (four_lines reads (copies 2) (closes 2)) four_steps false
  pub other_order : Judges (copying false) [] (four_lines (copies 2) reads (closes 7)) four_steps false
  pub later_first : Judges (copying false) [] (four_lines (copies 2) reads (closes 7)) (by_moves (steps (Some 1) ∷ next ∷ next ∷ next ∷ [])) false
  pub other_outcome : Judges (copying false) [] (four_lines (calls_with calls.Read (real.Number 2 ∷ []) (Fails EBADF)) (copies 2) (closes 7)) four_steps false
  pub other_end : Judges (copying false) [] (four_lines (calls_with calls.Read (real.Number 2 ∷ []) (Succeeds 0)) (copies 2) (closes 7)) four_steps false
  pub path : Shows opening placings (two_lines opens Ended) (by_moves (silent ∷ next ∷ next ∷ []))
  pub other_path : Judges opening [] (two_lines opens Ended) (by_moves (silent ∷ next ∷ next ∷ [])) false
  pub skipped : Shows (copying false) [] (at_line 1 writes ∷ []) (by_moves (Skips 0 ∷ []))
  pub skipped_place : Shows (copying false) [] (at_line 1 opens ∷ []) (by_moves (Skips 0 ∷ []))
  pub skipped_in_mode : Judges (copying true) [] (at_line 1 writes ∷ []) (by_moves (Skips 0 ∷ [])) false
  pub skipped_grant : Judges (copying false) placings (at_line 1 opens ∷ []) (by_moves (Skips 0 ∷ [])) false
  pub skipped_named : Judges (copying false) [] (at_line 1 reads ∷ []) (by_moves (Skips 0 ∷ [])) false
  pub repeated : Shows (reading (Invoke (Read (Number 2)) 2 ∷ Halt ∷ [])) [] (two_lines reads Ended) (by_moves (next ∷ silent ∷ next ∷ []))
  pub repeated_later : Judges (reading (Invoke (Dup (Number 2)) 3 ∷ Invoke (Read (Number 2)) 3 ∷ Halt ∷ [])) []
      (at_line 1 reads ∷ at_line 2 (copies 2) ∷ at_line 3 Ended ∷ []) (by_moves (next ∷ next ∷ silent ∷ next ∷ [])) false
  pub silent_mode : Shows entering [] (at_line 1 Ended ∷ []) (by_moves (silent ∷ next ∷ []))
  pub recorded_mode : Judges entering [] (two_lines enters Ended) (by_moves (silent ∷ next ∷ next ∷ [])) false
  pub lines_overlap : Shows reading_both [] overlapping later_line_first
  pub lines_apart : Judges reading_both [] apart later_line_first false

-- ## Foreign paths
-- the same task with a link `/up` to `/work`
abbrev pub with_link : Plan
with_link = record (copying false) { nodes = small_tree ++ record { kind = Link; place = codes "up" ∷ []; linked = true; content = codes "work" } ∷ [] }

pub record SomePathsAreForeign : Type 0 where
  pub elsewhere : is_foreign with_link (codes "/srv/in") ≡ true
  pub root : is_foreign with_link (codes "/") ≡ true
  pub hidden : is_foreign with_link (codes "/.up/..in") ≡ true
  pub granted : is_foreign with_link (codes "/work/in") ≡ false
  pub named : is_foreign opening (codes "/work/in") ≡ false
  pub dots : is_foreign with_link (codes "/srv/../work/in") ≡ false
  pub dot : is_foreign with_link (codes "/srv/./in") ≡ false
  pub slashes : is_foreign with_link (codes "//work/in") ≡ false
  pub at_end : is_foreign with_link (codes "/srv/") ≡ false
  pub relative : is_foreign with_link (codes "work/in") ≡ false
  pub empty : is_foreign with_link [] ≡ false
  pub link : is_foreign with_link (codes "/up") ≡ false
  pub through_link : is_foreign with_link (codes "/up/in") ≡ false
  pub beside_link : is_foreign with_link (codes "/upper/in") ≡ true

-- ## Excused calls
-- A task that does nothing shows whatever is skipped: that isn't excused.
abbrev pub idle : Plan
idle = running false (Halt ∷ [])

abbrev pub reads_by : ℕ → RecordedEvent
reads_by descriptor = calls_with calls.Read (real.Number descriptor ∷ []) (Succeeds 1)

-- where all calls of a record are skipped, whether each is excused
abbrev pub are_excused_of : List Placing → List RecordedEvent → Bool
are_excused_of placings events = are_excused (tallied placings (map (at_line 1) events) (map (λ event. Skips 0) events))

-- a name of 256 bytes
abbrev pub long_name : List ℕ
long_name = replicate 256 97

pub record SomeCallsAreExcused : Type 0 where
  pub idle_shows : Shows idle [] (two_lines opens Ended) (by_moves (Skips 0 ∷ next ∷ []))
  pub idle_skips : are_excused (tallied [] (two_lines opens Ended) (Skips 0 ∷ next ∷ [])) ≡ false
  pub shown : are_excused (tallied placings (two_lines opens Ended) (silent ∷ next ∷ next ∷ [])) ≡ true
  pub elsewhere : are_excused_of [] (opens ∷ []) ≡ false
  pub blank : are_excused_of [] (opens_at (codes "/srv/a b") ∷ []) ≡ true
  pub long : are_excused_of [] (opens_at (slash ∷ long_name) ∷ []) ≡ true
  pub placed_past : are_excused_of (record { real = codes "/srv"; model = codes "/a b" } ∷ []) (opens ∷ []) ≡ false
  pub placed_within : are_excused_of (record { real = codes "/a b"; model = codes "/srv" } ∷ []) (opens_at (codes "/a b/in") ∷ []) ≡ false
  pub unnamed : are_excused_of [] (reads_by 9 ∷ []) ≡ false
  pub behind : are_excused_of [] (opens_at (codes "/srv/a b") ∷ reads_by 3 ∷ []) ≡ true
  pub behind_other : are_excused_of [] (opens ∷ reads_by 3 ∷ []) ≡ false
  pub copied : are_excused_of [] (opens_at (codes "/srv/a b") ∷ copies 3 ∷ closes 3 ∷ reads_by 7 ∷ []) ≡ true
  pub closed : are_excused_of [] (opens_at (codes "/srv/a b") ∷ closes 3 ∷ reads_by 3 ∷ []) ≡ false

-- Of a record whose paths are within the limits no call that is skipped is excused.
pub record NoExcuseWithin : Type 0 where
  pub others : (placings : List Placing) (calls : RecordedCalls) (moves : List Move)
      → list_any (λ (entry : RecordEntry). has_past placings entry.event) calls ≡ false
      → (tallied placings calls moves).others ≡ (tallied placings calls moves).skipped
