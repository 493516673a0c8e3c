-- The text of a schedule: lines `PROCESS BYTE` or `PROCESS BYTE refuse`, in decimal without leading
-- zeros, each ended by a line feed. (own)
use Rattle.std.specs.Prelude.{◌-◌, ◌+◌, ℕ, Bool, true, false, nat_le, List, [], ◌∷◌, codes, length, Option, Some, None, Result, Ok, Err, if◌then◌else◌}
use Rattle.std.specs.Str.{bytes_eq}
use Rattle.texts.specs.Bytes.{space, line_feed}
use Rattle.rights.specs.Limits.{most_events, most_processes}
use Rattle.texts.specs.Numbers.{at_most, number_of}
use Rattle.texts.specs.Parts.{parts}
use Rattle.kernel.specs.Answers.{Event}

-- the first faulty line, counted from 1, or more than 65536 events
pub data Fault : Type 0 where
  Faulty : (line : ℕ) → Fault
  Too_many : Fault

abbrev pub event_with : Bool → Option ℕ → Option ℕ → Option Event
event_with refuse None input = None
event_with refuse (Some process) None = None
event_with refuse (Some process) (Some input) = Some (record { process = process; input = input; refuse = refuse })

-- a process from 0 to 15, and a byte
abbrev pub event_from : Bool → List ℕ → List ℕ → Option Event
event_from refuse process input = event_with refuse (at_most (most_processes - 1) (number_of process)) (at_most 255 (number_of input))

-- the event that a line stands for, by its words
abbrev pub event_of_words : List (List ℕ) → Option Event
event_of_words [] = None
event_of_words (process ∷ []) = None
event_of_words (process ∷ input ∷ []) = event_from false process input
event_of_words (process ∷ input ∷ word ∷ []) = if bytes_eq word (codes "refuse") then event_from true process input else None
event_of_words (process ∷ input ∷ word ∷ more ∷ words) = None

abbrev pub event_of_line : List ℕ → Option Event
event_of_line line = event_of_words (parts space line)

-- The events of the parts between line feeds, or the number of the first faulty one. The last part is
-- what stands behind the last line feed: nothing.
abbrev pub with_event : ℕ → Option Event → Result (List Event) ℕ → Result (List Event) ℕ
with_event n None rest = Err n
with_event n (Some e) (Err line) = Err line
with_event n (Some e) (Ok events) = Ok (e ∷ events)

abbrev pub unended : ℕ → List ℕ → Result (List Event) ℕ
unended n [] = Ok []
unended n (b ∷ text) = Err n

abbrev pub events_from : ℕ → List (List ℕ) → Result (List Event) ℕ
events_from n [] = Ok []
events_from n (last ∷ []) = unended n last
events_from n (line ∷ next ∷ lines) = with_event n (event_of_line line) (events_from (n + 1) (next ∷ lines))

-- The first faulty line is told before the limit.
abbrev pub within_limit : Result (List Event) ℕ → Result (List Event) Fault
within_limit (Err line) = Err (Faulty line)
within_limit (Ok events) = if nat_le (length events) most_events then Ok events else Err Too_many

abbrev pub schedule_of : List ℕ → Result (List Event) Fault
schedule_of text = within_limit (events_from 1 (parts line_feed text))
