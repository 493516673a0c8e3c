-- The words of `capwhy`, and what they ask. (own)
use Rattle.std.specs.Prelude.{◌||◌, ℕ, Bool, List, [], ◌∷◌, Option, Some, None, codes, if◌then◌else◌, is_some, not}
use Rattle.std.specs.List.{list_all}
use Rattle.std.specs.Option.{option_map}
use Rattle.std.specs.Str.{bytes_eq}
use Rattle.texts.specs.Numbers.{at_most, number_of}
use Rattle.command_line.specs.Orders.{is_dashed}
use Rattle.answers.specs.PlacingWords.{placing_in}

-- what there is to ask; for a listing of a task, with the bounds of a certificate or without; for all rules that a certificate breaks; for what the search comes to; for
-- a run that breaks the sandbox, among so many states at most; for a certificate, of untrusted programs too, or for one of an older text carried over; for a page to
-- look at, or a log for code scanning, of a task alone or with a certificate; for the faults of a task's text; for the calls of a record of strace; for whether
-- recorded calls follow a task, whose places lie where words say; for a task, of files of recorded calls; for that with the mode behind a line of the first one,
-- or for the lines behind which it could be
pub data Question : Type 0 where
  Usage : Question
  Listing : (task : List ℕ) (certificate : Option (List ℕ)) → Question
  Broken : (task certificate : List ℕ) → Question
  Unfound : (task : List ℕ) → Question
  Breach : (task : List ℕ) (states : Option ℕ) → Question
  Proposed : (task : List ℕ) (certificate : Option (List ℕ)) → Question
  Page : (task : List ℕ) (certificate : Option (List ℕ)) → Question
  Log : (task : List ℕ) (certificate : Option (List ℕ)) → Question
  Faulty : (task : List ℕ) → Question
  Calls : (file : List ℕ) → Question
  Followed : (task calls : List ℕ) (places : List (List ℕ)) → Question
  Learnt : (calls : List (List ℕ)) → Question
  Planned : (line : ℕ) (calls : List (List ℕ)) → Question
  NamesLeft : (calls : List (List ℕ)) → Question

abbrev pub if_so : Bool → Question → Option Question
if_so asked question = if asked then Some question else None

-- of one file, and of two
abbrev pub of_task : List ℕ → List ℕ → Option Question
of_task command task =
    if is_dashed task then None
    else if bytes_eq command (codes "list") then Some (Listing task None)
    else if bytes_eq command (codes "none") then Some (Unfound task)
    else if bytes_eq command (codes "breach") then Some (Breach task None)
    else if bytes_eq command (codes "propose") then Some (Proposed task None)
    else if bytes_eq command (codes "page") then Some (Page task None)
    else if bytes_eq command (codes "sarif") then Some (Log task None)
    else if bytes_eq command (codes "text") then Some (Faulty task)
    else if_so (bytes_eq command (codes "calls")) (Calls task)

-- a number of states
abbrev pub most_states : ℕ
most_states = 4294967295

abbrev pub among : List ℕ → Option ℕ → Option Question
among task states = option_map (λ n. Breach task (Some n)) states

abbrev pub of_pair : List ℕ → List ℕ → List ℕ → Option Question
of_pair command task certificate =
    if is_dashed task || is_dashed certificate then None
    else if bytes_eq command (codes "list") then Some (Listing task (Some certificate))
    else if bytes_eq command (codes "breach") then among task (at_most most_states (number_of certificate))
    else if bytes_eq command (codes "propose") then Some (Proposed task (Some certificate))
    else if bytes_eq command (codes "page") then Some (Page task (Some certificate))
    else if bytes_eq command (codes "sarif") then Some (Log task (Some certificate))
    else if_so (bytes_eq command (codes "no")) (Broken task certificate)

abbrev pub followed : List ℕ → List ℕ → List (List ℕ) → Option Question
followed task calls places =
    if_so (not (is_dashed task || is_dashed calls || not (list_all (λ place. is_some (placing_in place)) places))) (Followed task calls places)

abbrev pub are_files : List (List ℕ) → Bool
are_files names = list_all (λ name. not (is_dashed name)) names

abbrev pub learnt : List (List ℕ) → Option Question
learnt calls = if_so (are_files calls) (Learnt calls)

-- The first word may be the number of a line.
abbrev pub planned : Option ℕ → List (List ℕ) → Option Question
planned (Some line) [] = None
planned (Some line) (word ∷ []) = None
planned (Some line) (word ∷ calls ∷ more) = if_so (are_files (calls ∷ more)) (Planned line (calls ∷ more))
planned None calls = if_so (are_files calls) (NamesLeft calls)

abbrev pub of_more : List (List ℕ) → Option Question → Option Question
of_more [] question = question
of_more (word ∷ words) question = None

-- of a file, and others behind it
abbrev pub of_files : List ℕ → List ℕ → List (List ℕ) → Option Question
of_files command task [] = of_task command task
of_files command task (other ∷ words) =
    if bytes_eq command (codes "follow") then followed task other words else of_more words (of_pair command task other)

abbrev pub of_command : List ℕ → List (List ℕ) → Option Question
of_command command [] = if_so (bytes_eq command (codes "--help")) Usage
of_command command (task ∷ words) =
    if bytes_eq command (codes "learn") then learnt (task ∷ words)
    else if bytes_eq command (codes "plan") then planned (at_most most_states (number_of task)) (task ∷ words)
    else of_files command task words

-- No words, or `--help`; `list TASK`, `none TASK`, `breach TASK`, `propose TASK`, `page TASK`, `sarif TASK`, `text TASK`, `calls RECORD`; `list TASK CERT`,
-- `breach TASK STATES`, `propose TASK CERT`, `page TASK CERT`, `sarif TASK CERT`, `no TASK CERT`; `follow TASK CALLS` and words REAL=MODEL; `learn` and
-- files of calls; `plan LINE` and files of calls, or `plan` and files of calls. No name begins with `-`, and numbers fit 32 bits.
abbrev pub question_in : List (List ℕ) → Option Question
question_in [] = Some Usage
question_in (command ∷ words) = of_command command words
