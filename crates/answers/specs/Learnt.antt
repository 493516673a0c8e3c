-- What is said of a task that was learnt of recorded calls. (own)
use Rattle.std.specs.Prelude.{◌≡◌, ◌⊎◌, ◌++◌, ◌-◌, ◌^◌, ℕ, Bool, true, List, [], ◌∷◌, codes, length, map, min, Ok}
use Rattle.std.specs.Fmt.{decimal}
use Rattle.std.specs.List.{flat_map, list_all}
use Rattle.console.specs.Files.{Files, IsRead}
use Rattle.follow.specs.Excused.{Tally, are_excused, tallied}
use Rattle.follow.specs.Places.{Placing}
use Rattle.follow.specs.Shows.{IsShown, Witness}
use Rattle.records.specs.Calls.{RecordedCalls}
use Rattle.records.specs.Readings.{calls_of_text}
use Rattle.task.specs.Plans.{Plan}
use Rattle.task_reader.specs.Reading.{task_of}

-- the calls of files, in their order
abbrev pub AreCalls : Files → List (List ℕ) → List RecordedCalls → Type 0
AreCalls files [] [] = Unit {0}
AreCalls files (name ∷ names) (calls ∷ records) = IsRead files name calls_of_text (Ok calls) × AreCalls files names records
AreCalls files names records = ⊥

-- ## Runs
-- a record's calls, and a run of a task for them
pub record Run : Type 0 where
  pub calls : RecordedCalls
  pub witness : Witness

abbrev pub calls_in : Run → RecordedCalls
calls_in run = run.calls

-- Each shows its calls, with the places of the records so in the task.
abbrev pub AreShown : Plan → List Placing → List Run → Type 0
AreShown plan placings [] = Unit {0}
AreShown plan placings (run ∷ runs) = IsShown plan placings run.calls run.witness × AreShown plan placings runs

-- what it shows and skips
abbrev pub tally_in : List Placing → Run → Tally
tally_in placings run = tallied placings run.calls run.witness.moves

-- each call that it skips is excused
abbrev pub has_excuses : List Placing → Run → Bool
has_excuses placings run = are_excused (tally_in placings run)

-- ## What is told
-- a number, up to the greatest of 32 bits
abbrev pub count_text : ℕ → List ℕ
count_text n = decimal (min n (2 ^ 32 - 1))

-- how many calls were skipped for one reason, and the line of the first
abbrev pub reason_text : List ℕ → RecordedCalls → List ℕ
reason_text words [] = []
reason_text words (entry ∷ entries) =
    codes "#  " ++ (count_text (length (entry ∷ entries)) ++ (words ++ (codes ", from line " ++ (decimal entry.span.first ++ codes " on\n"))))

unfoldable pub counts_of : ℕ → ℕ → List ℕ
counts_of shown skipped = codes "# shown: " ++ (count_text shown ++ (codes " calls, skipped: " ++ (count_text skipped ++ codes "\n")))

abbrev pub counts_text : Tally → List ℕ
counts_text t = counts_of (length t.shown) (length t.skipped)

abbrev pub reasons_text : Tally → List ℕ
reasons_text t =
    reason_text (codes " of a path that is past a limit") t.past
    ++ (reason_text (codes " by a number that such a call made") t.behind ++ reason_text (codes " for neither reason") t.others)

abbrev pub tally_text : Tally → List ℕ
tally_text t = counts_text t ++ reasons_text t

unfoldable pub run_text : List Placing → Run → List ℕ
run_text placings run = tally_text (tally_in placings run)

-- names that are one in the task, as its head says them
abbrev pub placing_text : Placing → List ℕ
placing_text p = codes "#  " ++ (p.real ++ (codes "=" ++ (p.model ++ codes "\n")))

abbrev pub placings_text : List Placing → List ℕ
placings_text [] = []
placings_text (p ∷ placings) = codes "# Names that are one here, as words for `capwhy follow`:\n" ++ flat_map placing_text (p ∷ placings)

-- ## What is said
-- words stand in a text
pub record StandsIn (words text : List ℕ) : Type 0 where
  pub front : List ℕ
  pub back : List ℕ
  pub is_text : text ≡ front ++ (words ++ back)

-- For each record there is a run that shows its calls, with the places that the text says; each call that it skips is excused; and the last lines of
-- the text say how many it shows and skips.
pub record ShowsAll (plan : Plan) (records : List RecordedCalls) (written : List ℕ) : Type 0 where
  pub placings : List Placing
  pub runs : List Run
  pub are_records : map calls_in runs ≡ records
  pub shown : AreShown plan placings runs
  pub excused : list_all (has_excuses placings) runs ≡ true
  pub text : List ℕ
  pub says : StandsIn (placings_text placings) text
  pub is_text : written ≡ text ++ flat_map (run_text placings) runs

-- With status 0 that is so; 1 claims nothing.
abbrev pub SaysShownBy : Plan → List RecordedCalls → ℕ → List ℕ → Type 0
SaysShownBy plan records status written = ((status ≡ 0) × ShowsAll plan records written) ⊎ (status ≡ 1)

-- The text of a task is written, of which that is said.
pub record WritesTask (records : List RecordedCalls) (status : ℕ) (written : List ℕ) : Type 0 where
  pub plan : Plan
  pub is_task : task_of written ≡ Ok plan
  pub says : SaysShownBy plan records status written

-- Nothing is written, with status 1.
abbrev pub WritesNothing : ℕ → List ℕ → Type 0
WritesNothing status written = (status ≡ 1) × (written ≡ [])

-- of files of recorded calls
pub record SaysLearnt (files : Files) (names : List (List ℕ)) (status : ℕ) (written : List ℕ) : Type 0 where
  pub records : List RecordedCalls
  pub are_calls : AreCalls files names records
  pub says : WritesTask records status written ⊎ WritesNothing status written
