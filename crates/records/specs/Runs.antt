-- Where another run begins than the one that a record begins with: two records were joined, or one stands twice. (own)
use Rattle.std.specs.Prelude.{◌&&◌, ◌||◌, not, if◌then◌else◌, ℕ, Bool, true, false, List, [], ◌∷◌, ◌++◌, codes, Option, Some, None}
use Rattle.std.specs.Str.{bytes_eq}
use Rattle.records.specs.LineAccounts.{is_listed}
use Rattle.records.specs.Beginnings.{children_of}
use Rattle.records.specs.Calls.{Ended, Omitted, RecordEntry, RecordedCalls, RecordedEvent}

-- the processes that forks have made
abbrev pub forked_by : RecordedCalls → List ℕ
forked_by [] = []
forked_by (entry ∷ calls) = children_of entry.event ++ forked_by calls

abbrev pub option_list : Option ℕ → List ℕ
option_list None = []
option_list (Some n) = n ∷ []

-- a process goes on as another program
abbrev pub is_execute : RecordedEvent → Bool
is_execute (Omitted left_out) = bytes_eq left_out.name (codes "execve")
is_execute _ = false

abbrev pub is_end : RecordedEvent → Bool
is_end Ended = true
is_end _ = false

-- which processes have made calls, and which have ended
pub record Seen : Type 0 where
  pub known : List ℕ
  pub ended : List ℕ

abbrev pub none_seen : Seen
none_seen = record { known = []; ended = [] }

abbrev pub seen_with : Seen → RecordEntry → Seen
seen_with seen entry = record {
  known = if is_listed entry.process seen.known then seen.known else seen.known ++ entry.process ∷ [];
  ended = if is_end entry.event then seen.ended ++ entry.process ∷ [] else seen.ended;
}

-- A process that no fork has made goes on behind its end; or it begins as another program, behind calls of others.
abbrev pub is_some_known : List ℕ → Bool
is_some_known [] = false
is_some_known (process ∷ known) = true

abbrev pub begins_run : List ℕ → Seen → RecordEntry → Bool
begins_run forked seen entry =
    not (is_listed entry.process forked)
    && (is_listed entry.process seen.ended || (is_execute entry.event && (is_some_known seen.known && not (is_listed entry.process seen.known))))

-- the line in which another run begins first, if one does
abbrev pub run_from : List ℕ → Seen → RecordedCalls → Option ℕ
run_from forked seen [] = None
run_from forked seen (entry ∷ calls) = if begins_run forked seen entry then Some entry.span.first else run_from forked (seen_with seen entry) calls

abbrev pub another_run : RecordedCalls → Option ℕ
another_run calls = run_from (forked_by calls) none_seen calls
