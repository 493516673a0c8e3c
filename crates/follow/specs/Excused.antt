-- What moves show and skip of a record, and which calls that they skip are excused: that is decided from the record, the places of its names in the
-- task and the limits alone, and neither by the task's grants nor by its programs. (own)
use Rattle.std.specs.Prelude.{◌&&◌, ◌||◌, not, nat_eq, ℕ, zero, suc, Bool, true, false, List, [], ◌∷◌, ◌++◌, length, Option, Some, None, is_some, if◌then◌else◌}
use Rattle.std.specs.List.{flat_map, list_any, remove, slice_get}
use Rattle.call_facts.specs.Facts.{TableChange, Unchanged, Opened, Inherited, Copied, Received, Pair, Child, Freed, Limited, descriptor_count, facts_of}
use Rattle.rights.specs.Values.{PathText}
use Rattle.file_tree.specs.Places.{is_target}
use Rattle.instruction_set.specs.Programs.{is_path}
use Rattle.records.specs.Calls.{RealOperand, Number, Path, RecordedOutcome, Succeeds, Fails, MadeCall, RecordedEvent, Called, Ended, Omitted, RecordEntry, RecordedCalls}
use Rattle.follow.specs.Numbers.{FdMapping, child_mappings, named, mapping}
use Rattle.follow.specs.Outcomes.{freed, second_end}
use Rattle.follow.specs.Places.{Placing, placed}
use Rattle.follow.specs.Shows.{Move, Steps, Skips}
use Rattle.follow.specs.Progress.{kept}

-- ## Paths
-- A task can have the path: its bytes stand in assembly, it is no longer than a path may be, and no name of it than a name.
abbrev pub is_within : PathText → Bool
is_within path = is_path path && (nat_eq (length path) 0 || is_target path)

-- A path is past a limit, as it is recorded and as it is placed.
abbrev pub is_past : List Placing → RealOperand → Bool
is_past placings (Path path) = not (is_within path) && not (is_within (placed placings path))
is_past placings operand = false

-- ## Numbers
-- The numbers of the record's processes that excused calls made are kept as mappings: such a number stands for itself, and any other for none.
abbrev pub if_excused : Bool → ℕ → Option ℕ
if_excused excused n = if excused then Some n else None

-- whether one of so many numbers, those that stand first, was made by an excused call
abbrev pub any_excused : List FdMapping → ℕ → ℕ → List RealOperand → Bool
any_excused numbers p zero operands = false
any_excused numbers p (suc count) [] = false
any_excused numbers p (suc count) (Number n ∷ operands) = is_some (named numbers p n) || any_excused numbers p count operands
any_excused numbers p (suc count) (_ ∷ operands) = any_excused numbers p (suc count) operands

abbrev pub if_made : ℕ → Option ℕ → Bool → List FdMapping
if_made p None excused = []
if_made p (Some n) excused = mapping p n (if_excused excused n) ∷ []

-- what a call makes or frees that came to this number; a child has the numbers of its parent
abbrev pub numbers_by : List FdMapping → ℕ → MadeCall → TableChange → ℕ → Bool → List FdMapping
numbers_by numbers p made Opened n excused = if_made p (Some n) excused
numbers_by numbers p made Inherited n excused = if_made p (Some n) excused
numbers_by numbers p made Copied n excused = if_made p (Some n) excused
numbers_by numbers p made Received n excused = if_made p (Some n) excused
numbers_by numbers p made Pair n excused = if_made p (Some n) excused ++ if_made p (second_end made.bindings) excused
numbers_by numbers p made Freed n excused = freed p made.operands
numbers_by numbers p made Child n excused = child_mappings numbers p n
numbers_by numbers p made Limited n excused = []
numbers_by numbers p made Unchanged n excused = []

abbrev pub numbers_of : List FdMapping → ℕ → MadeCall → RecordedOutcome → Bool → List FdMapping
numbers_of numbers p made (Succeeds n) excused = numbers_by numbers p made (facts_of made.call).table n excused
numbers_of numbers p made (Fails errno) excused = []

-- ## Calls
-- What moves have made of a record: the calls and ends that are left, the numbers that excused calls made, and the calls that were shown and skipped. Of
-- those that were skipped: excused for a path past a limit, excused for a number that an excused call made, and not excused.
pub record Tally : Type 0 where
  pub left : RecordedCalls
  pub numbers : List FdMapping
  pub shown : RecordedCalls
  pub skipped : RecordedCalls
  pub past : RecordedCalls
  pub behind : RecordedCalls
  pub others : RecordedCalls

abbrev pub only_if : Bool → RecordEntry → RecordedCalls
only_if is entry = if is then entry ∷ [] else []

abbrev pub shown_in : Tally → RecordEntry → MadeCall → Tally
shown_in t entry made = record t {
  numbers = t.numbers ++ numbers_of t.numbers entry.process made made.outcome false;
  shown = t.shown ++ entry ∷ [];
}

-- a call that is skipped, of a path past a limit or not, and by a number that an excused call made or not
abbrev pub skipped_in : Tally → RecordEntry → MadeCall → Bool → Bool → Tally
skipped_in t entry made past behind = record t {
  numbers = t.numbers ++ numbers_of t.numbers entry.process made made.outcome (past || behind);
  skipped = t.skipped ++ entry ∷ [];
  past = t.past ++ only_if past entry;
  behind = t.behind ++ only_if (not past && behind) entry;
  others = t.others ++ only_if (not (past || behind)) entry;
}

module _ (placings : List Placing) where
  -- a call that is shown, or is skipped; an end counts for none
  abbrev pub counted_in : Tally → Bool → RecordEntry → RecordedEvent → Tally
  counted_in t true entry (Called made) = shown_in t entry made
  counted_in t false entry (Called made) =
      skipped_in t entry made (list_any (is_past placings) made.operands) (any_excused t.numbers entry.process (descriptor_count made.call) made.operands)
  counted_in t shown entry event = t

  abbrev pub after_entry : Tally → Bool → ℕ → Option RecordEntry → Tally
  after_entry t shown i None = t
  after_entry t shown i (Some entry) = counted_in (record t { left = remove t.left i }) shown entry entry.event

  abbrev pub after_move : Tally → Move → Tally
  after_move t (Steps e None) = t
  after_move t (Steps e (Some i)) = after_entry t true i (slice_get t.left i)
  after_move t (Skips i) = after_entry t false i (slice_get t.left i)

  abbrev pub after_moves : Tally → List Move → Tally
  after_moves t [] = t
  after_moves t (m ∷ moves) = after_moves (after_move t m) moves

abbrev pub first_tally : RecordedCalls → Tally
first_tally calls = record { left = flat_map kept calls; numbers = []; shown = []; skipped = []; past = []; behind = []; others = [] }

abbrev pub tallied : List Placing → RecordedCalls → List Move → Tally
tallied placings calls moves = after_moves placings (first_tally calls) moves

-- each call that they skip is excused
abbrev pub are_excused : Tally → Bool
are_excused t = nat_eq (length t.others) 0

-- an event with a path past a limit
abbrev pub has_past : List Placing → RecordedEvent → Bool
has_past placings (Called made) = list_any (is_past placings) made.operands
has_past placings event = false
