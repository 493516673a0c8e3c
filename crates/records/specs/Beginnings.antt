-- The processes with which a record begins. (own)
use Rattle.std.specs.Prelude.{◌&&◌, not, ℕ, Bool, List, [], ◌∷◌, ◌++◌, if◌then◌else◌}
use Rattle.std.specs.List.{flat_map}
use Rattle.call_facts.specs.Facts.{forks}
use Rattle.records.specs.LineAccounts.{is_listed}
use Rattle.records.specs.Calls.{RecordedOutcome, Succeeds, Fails, RecordedEvent, Called, RecordEntry, RecordedCalls, is_counted}

-- the process that a call has made, if it is a fork that succeeded
abbrev pub child_of : RecordedOutcome → List ℕ
child_of (Succeeds child) = child ∷ []
child_of (Fails error) = []

abbrev pub children_of : RecordedEvent → List ℕ
children_of (Called made) = if forks made.call then child_of made.outcome else []
children_of event = []

-- an entry is a call or an end, and of a process that no call has made and that isn't known so far
abbrev pub is_of_new : List ℕ → List ℕ → RecordEntry → Bool
is_of_new made known entry = is_counted entry.event && not (is_listed entry.process made) && not (is_listed entry.process known)

-- what is known so far, and then the processes that begin with these entries
abbrev pub begun_by : List ℕ → List ℕ → RecordedCalls → List ℕ
begun_by made known [] = known
begun_by made known (entry ∷ entries) = begun_by made (if is_of_new made known entry then known ++ entry.process ∷ [] else known) entries

-- The processes that none of the calls makes, each once, in the order in which they come: one of which each entry is left out isn't counted.
abbrev pub first_processes : RecordedCalls → List ℕ
first_processes calls = begun_by (flat_map (λ (entry : RecordEntry). children_of entry.event) calls) [] calls
