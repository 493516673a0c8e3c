-- How far a run of a task has come in showing a record, and what each move makes of that. (own)
use Rattle.std.specs.Prelude.{◌==◌, ◌&&◌, ◌||◌, not, nat_le, ℕ, Bool, true, false, List, [], ◌∷◌, ◌++◌, take, Option, Some, None, if◌then◌else◌}
use Rattle.std.specs.List.{flat_map, list_all, list_any, remove, slice_get}
use Rattle.std.specs.Option.{option_and_then}
use Rattle.std.specs.Str.{bytes_eq}
use Rattle.rights.specs.Calls.{call_name}
use Rattle.rights.specs.Values.{ProcessNumber}
use Rattle.process.specs.State.{ProcessState}
use Rattle.instruction_set.specs.Programs.{Syscall, called}
use Rattle.kernel.specs.Steps.{LineResult, Halted}
use Rattle.records.specs.Calls.{RealOperand, Path, MadeCall, RecordedEvent, Called, Ended, Omitted, RecordEntry, RecordedCalls, is_counted}
use Rattle.task.specs.Plans.{Plan}
use Rattle.follow.specs.Places.{Placing, is_foreign, placed}
use Rattle.follow.specs.Numbers.{FdMapping, ProcessPair, first_mappings, is_injection, is_number, is_recorded, model_of}
use Rattle.call_facts.specs.Arguments.{arguments}
use Rattle.call_facts.specs.Facts.{descriptor_count, is_of_mode}
use Rattle.follow.specs.Given.{all_fit}
use Rattle.follow.specs.Outcomes.{Past, Seen, any_unnamed, is_silent, lost, mappings_of, same_outcome, transfer_in}

-- A task, the places of a record in it, the processes that stand for the record's, and whether the record has calls of capability mode.
pub record Setting : Type 0 where
  pub plan : Plan
  pub placings : List Placing
  pub pairs : List ProcessPair
  pub limited : Bool

-- The calls and ends that are left, what the record's numbers stand for, and what was shown.
pub record MatchProgress : Type 0 where
  pub left : RecordedCalls
  pub mappings : List FdMapping
  pub history : List Past

-- An entry may come before one that stands before it, if it is of another process and their lines aren't apart.
abbrev pub may_overtake : RecordEntry → RecordEntry → Bool
may_overtake entry other = not (other.process == entry.process) && nat_le entry.span.first other.span.last

abbrev pub if_next : RecordedCalls → ℕ → RecordEntry → Option RecordEntry
if_next left i entry = if list_all (may_overtake entry) (take i left) then Some entry else None

abbrev pub next_entry : RecordedCalls → ℕ → Option RecordEntry
next_entry left i = option_and_then (if_next left i) (slice_get left i)

abbrev pub is_halt : LineResult → Bool
is_halt Halted = true
is_halt _ = false

-- what an event makes or frees
abbrev pub new_mappings : List FdMapping → ProcessNumber → Seen → RecordedEvent → List FdMapping
new_mappings mappings p seen (Called made) = mappings_of mappings p made made.outcome seen.outcome seen.second
new_mappings mappings p seen _ = []

abbrev pub is_outside : Option ProcessState → Bool
is_outside None = false
is_outside (Some s) = not s.mode

module _ (g : Setting) where
  -- ## Steps
  -- The same call, given the same, comes to the same.
  abbrev pub shows_call : List FdMapping → ProcessNumber → Seen → MadeCall → Option Syscall → Bool
  shows_call mappings p seen made None = false
  shows_call mappings p seen made (Some call) =
      bytes_eq (call_name made.call) (call_name (called call))
      && all_fit g.plan.wide g.placings mappings p seen.registers made.operands (arguments call)
      && same_outcome g.pairs made.call made.outcome seen.outcome

  abbrev pub shows_event : List FdMapping → ProcessNumber → Seen → RecordedEvent → Bool
  shows_event mappings p seen (Called made) = shows_call mappings p seen made seen.call
  shows_event mappings p seen Ended = is_halt seen.outcome
  shows_event mappings p seen (Omitted left_out) = false

  abbrev pub after_shown : MatchProgress → ProcessNumber → Seen → ℕ → RecordedEvent → MatchProgress
  after_shown s p seen i event = record {
    left = remove s.left i;
    mappings = s.mappings ++ new_mappings s.mappings p seen event;
    history = s.history ++ record { process = p; transfer = transfer_in seen.registers seen.call seen.outcome } ∷ [];
  }

  abbrev pub if_shown : MatchProgress → ProcessNumber → Seen → ℕ → RecordEntry → Option MatchProgress
  if_shown s p seen i entry =
      if is_number (model_of g.pairs entry.process) p && shows_event s.mappings p seen entry.event
      then Some (after_shown s p seen i entry.event)
      else None

  -- A step of a process that stands for one of the record shows a call or is silent; the others may do anything.
  abbrev pub after_step : MatchProgress → ProcessNumber → Option Seen → Option ℕ → Option MatchProgress
  after_step s p None None = Some s
  after_step s p None (Some i) = None
  after_step s p (Some seen) None = if not (is_recorded g.pairs p) || is_silent g.limited s.history p seen then Some s else None
  after_step s p (Some seen) (Some i) = option_and_then (if_shown s p seen i) (next_entry s.left i)

  -- ## Skips
  -- It is of a path that is foreign, or goes by a number for which nothing stands.
  abbrev pub may_skip : List FdMapping → ProcessNumber → MadeCall → List RealOperand → Bool
  may_skip mappings p made (Path path ∷ operands) = is_foreign g.plan (placed g.placings path)
  may_skip mappings p made operands = any_unnamed mappings p (descriptor_count made.call) operands

  abbrev pub skipped : MatchProgress → ℕ → ProcessNumber → MadeCall → Option MatchProgress
  skipped s i p made =
      if may_skip s.mappings p made made.operands then Some (record s { left = remove s.left i; mappings = s.mappings ++ lost p made made.outcome }) else None

  abbrev pub if_skipped : MatchProgress → List ProcessState → ℕ → RecordedEvent → Option ProcessNumber → Option MatchProgress
  if_skipped s processes i (Called made) (Some p) = if is_outside (slice_get processes p) then skipped s i p made else None
  if_skipped s processes i event p = None

  -- Outside the mode alone a call may be skipped.
  abbrev pub after_skip : MatchProgress → List ProcessState → ℕ → Option MatchProgress
  after_skip s processes i = option_and_then (λ (entry : RecordEntry). if_skipped s processes i entry.event (model_of g.pairs entry.process)) (next_entry s.left i)

-- an entry that is counted
abbrev pub kept : RecordEntry → RecordedCalls
kept entry = if is_counted entry.event then entry ∷ [] else []

abbrev pub is_limiting : RecordedEvent → Bool
is_limiting (Called made) = is_of_mode made.call
is_limiting _ = false

abbrev pub setting : Plan → List Placing → List ProcessPair → RecordedCalls → Setting
setting plan placings pairs calls = record {
  plan = plan;
  placings = placings;
  pairs = pairs;
  limited = list_any (λ (entry : RecordEntry). is_limiting entry.event) calls;
}

abbrev pub first_progress : Plan → List ProcessPair → RecordedCalls → Option MatchProgress
first_progress plan pairs calls =
    if is_injection pairs
    then Some (record { left = flat_map kept calls; mappings = first_mappings 0 plan.starts; history = [] })
    else None
