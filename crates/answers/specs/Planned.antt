-- What is said of a plan of recorded calls: of the task that it prints, as it stands and with the program that enters the mode marked untrusted. (own)
use Rattle.std.specs.Prelude.{◌≡◌, ◌⊎◌, ◌++◌, ◌&&◌, ◌||◌, ◌==◌, ◌-◌, ◌^◌, ◌≤◌, if◌then◌else◌, not, ℕ, zero, suc, Bool, true, false, List, [], ◌∷◌}
use Rattle.std.specs.Prelude.{Ok, Option, Some, None, codes, count_by, is_some, min, nat_lt}
use Rattle.std.specs.Fmt.{decimal}
use Rattle.answers.specs.Learnt.{AreCalls, WritesNothing}
use Rattle.certificate.specs.Bounds.{Certificate}
use Rattle.checker.specs.Verdicts.{IsAccepted}
use Rattle.console.specs.Files.{Files}
use Rattle.records.specs.Calls.{Global, Name, Omitted, RecordEntry, RecordedCalls, RecordedEvent, Unknown}
use Rattle.records.specs.Texts.{is_same}
use Rattle.task.specs.Plans.{Plan, is_marked}
use Rattle.task_reader.specs.Reading.{task_of}
use Rattle.texts.specs.Names.{is_name}

-- the line above which a program stands, with its name
abbrev pub heading : List ℕ → List ℕ
heading name = codes "\n[[program]]\nname = \"" ++ (name ++ codes "\"\n")

-- what marks the program behind whose heading it stands
abbrev pub mark : List ℕ
mark = codes "untrusted = true\n"

-- ## The last lines
-- whether `check` accepts some certificate of the task
abbrev pub check_words : Bool → List ℕ
check_words true = codes "# check: yes, of the calls that this task has\n"
check_words false = codes "# check: no certificate was found\n"

-- how many calls in the mode the task hasn't that are refused there, or of which it isn't known
abbrev pub left_words : ℕ → List ℕ
left_words zero = []
left_words (suc n) = codes "# left: " ++ (decimal (suc n) ++ codes " calls, see above\n")

-- whether it accepts some certificate of the task with the program of this name marked
abbrev pub marked_ending : Bool → List ℕ
marked_ending true = codes " untrusted: yes\n"
marked_ending false = codes " untrusted: no certificate was found\n"

abbrev pub marked_words : List ℕ → Bool → List ℕ
marked_words name untrusted = codes "# with " ++ (name ++ marked_ending untrusted)

-- what a plan claims: that, and how many calls are left
pub record Claim : Type 0 where
  pub trusted : Bool
  pub left : ℕ
  pub untrusted : Bool

abbrev pub last_words : Claim → List ℕ → List ℕ
last_words claim name = check_words claim.trusted ++ (left_words claim.left ++ marked_words name claim.untrusted)

-- ## The tasks
-- Of a task's text some certificate is accepted.
pub record IsAcceptable (text : List ℕ) : Type 0 where
  pub plan : Plan
  pub is_task : task_of text ≡ Ok plan
  pub bounds : Certificate
  pub accepted : IsAccepted plan bounds

-- It is a task's text, in which the program of this name isn't marked.
pub record IsUnmarkedTask (text name : List ℕ) : Type 0 where
  pub plan : Plan
  pub is_task : task_of text ≡ Ok plan
  pub unmarked : is_marked plan.programs name ≡ false

-- A certificate is accepted of one in which the program of this name is marked.
pub record IsMarkedAcceptable (text name : List ℕ) : Type 0 where
  pub plan : Plan
  pub is_task : task_of text ≡ Ok plan
  pub marked : is_marked plan.programs name ≡ true
  pub bounds : Certificate
  pub accepted : IsAccepted plan bounds

-- the text of a plan, and the same with the line that marks the program
abbrev pub plan_text : List ℕ → List ℕ → List ℕ → Claim → List ℕ
plan_text front name back claim = front ++ (heading name ++ (back ++ last_words claim name))

abbrev pub marked_text : List ℕ → List ℕ → List ℕ → Claim → List ℕ
marked_text front name back claim = front ++ (heading name ++ (mark ++ (back ++ last_words claim name)))

-- The name is one; it is a task's text, in which the program isn't marked; and what its last lines say of certificates is so: with the line more, the
-- program is marked.
pub record IsHonest (front name back : List ℕ) (claim : Claim) : Type 0 where
  pub named : is_name name ≡ true
  pub unmarked : IsUnmarkedTask (plan_text front name back claim) name
  pub accepted : claim.trusted ≡ true → IsAcceptable (plan_text front name back claim)
  pub marked : claim.untrusted ≡ true → IsMarkedAcceptable (marked_text front name back claim) name

-- ## The calls that are left
-- A call that is left out is refused in the mode, or nobody knows what it wants.
abbrev pub is_surely_left : RecordedEvent → Bool
is_surely_left (Omitted left_out) =
    is_same left_out.reason Global || ((is_same left_out.reason Unknown || is_same left_out.reason Name) && not (is_some left_out.wanted))
is_surely_left _ = false

-- the process of the last call that begins or ends in a line, or this one, where none does
abbrev pub is_in_line : ℕ → RecordEntry → Bool
is_in_line line entry = (entry.span.first == line) || (entry.span.last == line)

abbrev pub last_process : ℕ → Option ℕ → RecordedCalls → Option ℕ
last_process line found [] = found
last_process line found (entry ∷ calls) = last_process line (if is_in_line line entry then Some entry.process else found) calls

-- how many such calls that process makes behind the line
abbrev pub is_left_after : ℕ → ℕ → RecordEntry → Bool
is_left_after line process entry = nat_lt line entry.span.first && ((entry.process == process) && is_surely_left entry.event)

abbrev pub left_by : ℕ → Option ℕ → RecordedCalls → ℕ
left_by line None calls = 0
left_by line (Some process) calls = count_by (is_left_after line process) calls

-- in the first file, or the greatest number that 32 bits hold
abbrev pub left_after : ℕ → List RecordedCalls → ℕ
left_after line [] = 0
left_after line (calls ∷ records) = min (left_by line (last_process line None calls) calls) (2 ^ 32 - 1)

-- Such a text is written, whose last lines count no fewer: with status 0 if it says that a certificate of the task is accepted, and that nothing is left, and else
-- with 1.
abbrev pub is_whole : Claim → Bool
is_whole claim = claim.trusted && (claim.left == 0)

pub record WritesPlan (line : ℕ) (records : List RecordedCalls) (status : ℕ) (written : List ℕ) : Type 0 where
  pub front : List ℕ
  pub name : List ℕ
  pub back : List ℕ
  pub claim : Claim
  pub honest : IsHonest front name back claim
  pub is_text : written ≡ plan_text front name back claim
  pub counted : left_after line records ≤ claim.left
  pub says : ((status ≡ 0) × (is_whole claim ≡ true)) ⊎ ((status ≡ 1) × (is_whole claim ≡ false))

-- of files of recorded calls, behind whose line the mode is to be entered
pub record SaysPlanned (files : Files) (line : ℕ) (names : List (List ℕ)) (status : ℕ) (written : List ℕ) : Type 0 where
  pub records : List RecordedCalls
  pub are_calls : AreCalls files names records
  pub says : WritesPlan line records status written ⊎ WritesNothing status written

-- The files have calls.
pub record HearsCalls (files : Files) (names : List (List ℕ)) (status : ℕ) : Type 0 where
  pub records : List RecordedCalls
  pub are_calls : AreCalls files names records
  pub done : status ≡ 0
