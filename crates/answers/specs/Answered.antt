-- What is answered to what was asked: what the status says of it, and what is written. (own)
use Rattle.std.specs.Prelude.{◌≡◌, ◌⊎◌, ◌++◌, ℕ, Bool, false, true, List, [], ◌∷◌, length, codes, Option, None, Some, Ok}
use Rattle.rights.specs.Output.{Took}
use Rattle.certificate.specs.Bounds.{Certificate}
use Rattle.certificate_text.specs.Readings.{certificate_of_text}
use Rattle.certificate_text.specs.Texts.{certificate_text}
use Rattle.checker.specs.Findings.{findings}
use Rattle.checker.specs.Verdicts.{IsAccepted}
use Rattle.console.specs.Files.{Files, IsFile}
use Rattle.console.specs.Statuses.{is_done_status}
use Rattle.kernel.specs.Answers.{Event}
use Rattle.rules.specs.Expansions.{expansion}
use Rattle.searcher.specs.Flat.{flat}
use Rattle.follow.specs.Places.{Placing}
use Rattle.follow.specs.Shows.{IsShown, Witness, events_of}
use Rattle.records.specs.LineAccounts.{AreQuiet, ListTheOthers}
use Rattle.records.specs.Calls.{RecordedCalls, are_calls}
use Rattle.records.specs.Readings.{calls_of_text}
use Rattle.records.specs.Runs.{another_run}
use Rattle.records.specs.Texts.{calls_text}
use Rattle.task.specs.Plans.{Plan}
use Rattle.task_reader.specs.Reading.{task_of}
use Rattle.texts.specs.Lines.{lines_of}
use Rattle.explore.specs.Breaches as explore
use Rattle.explore.specs.Broken.{Breaks, IsRefuted, Move, events_in, own_moves}
use Rattle.explore.specs.DeedTexts.{attack_run_text}
use Rattle.explore.specs.Texts.{WritesRun, schedule_text}
use Rattle.answers.specs.Learnt.{SaysLearnt}
use Rattle.answers.specs.Listed.{SaysListed, SaysListedWith}
use Rattle.answers.specs.PlacingWords.{placings_in}
use Rattle.answers.specs.Planned.{HearsCalls, SaysPlanned}
use Rattle.answers.specs.Questions.{Question, Usage, Listing, Broken, Unfound, Breach, Proposed, Page, Log, Faulty, Calls, Followed, Learnt, Planned, NamesLeft, question_in}
use Rattle.explain.specs.TaskTexts.{IsTaskText}
use Rattle.explain.specs.Telling.{Tells}

-- It is 0 where this holds, and 1 where it doesn't.
abbrev pub SaysWhether : ℕ → Type 0 → Type 0
SaysWhether status Holds = ((status ≡ 0) × Holds) ⊎ ((status ≡ 1) × (Holds → ⊥))

-- of the texts of a task and a certificate, whether the certificate is accepted; this text tells the rules that it breaks
pub record SaysBroken (status : ℕ) (task certificate text : List ℕ) : Type 0 where
  pub plan : Plan
  pub is_task : task_of task ≡ Ok plan
  pub bounds : Certificate
  pub is_certificate : certificate_of_text certificate ≡ Ok bounds
  pub says : SaysWhether status (IsAccepted plan bounds)
  pub tells : Tells plan (expansion plan bounds) (findings plan (expansion plan bounds)) text

-- the same without what is told
pub record SaysChecked (status : ℕ) (task certificate : List ℕ) : Type 0 where
  pub plan : Plan
  pub is_task : task_of task ≡ Ok plan
  pub bounds : Certificate
  pub is_certificate : certificate_of_text certificate ≡ Ok bounds
  pub says : SaysWhether status (IsAccepted plan bounds)

-- of a task's text, that a certificate of it is accepted, with status 0; and with 1 that its flat one isn't, if it has one
pub record SaysFound (status : ℕ) (task : List ℕ) : Type 0 where
  pub plan : Plan
  pub is_task : task_of task ≡ Ok plan
  pub is_done : is_done_status status ≡ true
  pub found : status ≡ 0 → (bounds : Certificate) × IsAccepted plan bounds
  pub unfound : status ≡ 1 → (bounds : Certificate) → flat plan ≡ Some bounds → IsAccepted plan bounds → ⊥

-- The files are there. `text` says whether the one is a task's text; `no` whether the certificate of the other is accepted, where no
-- rule is broken, and tells each that is; `none` says with 0 that some certificate is, and with 1 that the flat one isn't; all else is done with 0.
pub record SaysOfFile (files : Files) (name : List ℕ) (status : ℕ) : Type 0 where
  pub text : List ℕ
  pub is_file : IsFile files name text
  pub says : SaysWhether status (IsTaskText text)

pub record SaysOfSearch (files : Files) (name : List ℕ) (status : ℕ) : Type 0 where
  pub text : List ℕ
  pub is_file : IsFile files name text
  pub says : SaysFound status text

pub record SaysOfFiles (files : Files) (task certificate : List ℕ) (status : ℕ) (written : List ℕ) : Type 0 where
  pub text : List ℕ
  pub is_file : IsFile files task text
  pub bounds_text : List ℕ
  pub is_bounds : IsFile files certificate bounds_text
  pub says : SaysBroken status text bounds_text written

pub record SaysOfChecked (files : Files) (task certificate : List ℕ) (status : ℕ) : Type 0 where
  pub text : List ℕ
  pub is_file : IsFile files task text
  pub bounds_text : List ℕ
  pub is_bounds : IsFile files certificate bounds_text
  pub says : SaysChecked status text bounds_text

-- a task that is listed, alone or with a certificate
pub record SaysOfListing (files : Files) (name written : List ℕ) : Type 0 where
  pub text : List ℕ
  pub is_file : IsFile files name text
  pub says : SaysListed text written

pub record SaysOfListingWith (files : Files) (task certificate written : List ℕ) : Type 0 where
  pub text : List ℕ
  pub is_file : IsFile files task text
  pub bounds_text : List ℕ
  pub is_bounds : IsFile files certificate bounds_text
  pub says : SaysListedWith text bounds_text written

-- a text that is no task's, with status 1
pub record SaysNoTask (files : Files) (name : List ℕ) (status : ℕ) : Type 0 where
  pub text : List ℕ
  pub is_file : IsFile files name text
  pub told : status ≡ 1
  pub refused : IsTaskText text → ⊥

-- A certificate is written that is accepted, with status 0, or none, with status 1.
pub record Offers (plan : Plan) (written : List ℕ) : Type 0 where
  pub bounds : Certificate
  pub accepted : IsAccepted plan bounds
  pub is_text : written ≡ certificate_text bounds

abbrev pub SaysOffered : Plan → ℕ → List ℕ → Type 0
SaysOffered plan status written = ((status ≡ 0) × Offers plan written) ⊎ ((status ≡ 1) × (written ≡ codes "none\n"))

-- A run is written whose last step breaks something, with status 1, and the task is neither sandboxed nor confined; or one in which
-- attackers do what they like, with status 1 too, and the task isn't confined: its events, some trace, and what it breaks. 0 claims nothing.
pub record Refutes (plan : Plan) (written : List ℕ) : Type 0 where
  pub events : List Event
  pub breach : explore.Breach
  pub breaks : Breaks plan (own_moves events) (Some breach)
  pub refuted : IsRefuted plan (own_moves events)
  pub is_text : WritesRun plan events breach (Some []) (Some written)

pub record Attacks (plan : Plan) (written : List ℕ) : Type 0 where
  pub moves : List Move
  pub breach : explore.Breach
  pub breaks : Breaks plan moves (Some breach)
  pub refuted : IsRefuted plan moves
  pub trace : List ℕ
  pub detail : List ℕ
  pub is_text : written ≡ attack_run_text (events_in moves) trace breach detail

abbrev pub SaysRefuted : Plan → ℕ → List ℕ → Type 0
SaysRefuted plan status written = (status ≡ 0) ⊎ ((status ≡ 1) × (Refutes plan written ⊎ Attacks plan written))

pub record SaysOfRuns (files : Files) (name : List ℕ) (status : ℕ) (written : List ℕ) : Type 0 where
  pub text : List ℕ
  pub is_file : IsFile files name text
  pub plan : Plan
  pub is_task : task_of text ≡ Ok plan
  pub says : SaysRefuted plan status written

pub record SaysOfTask (files : Files) (name : List ℕ) (status : ℕ) (written : List ℕ) : Type 0 where
  pub text : List ℕ
  pub is_file : IsFile files name text
  pub plan : Plan
  pub is_task : task_of text ≡ Ok plan
  pub says : SaysOffered plan status written

-- something was recorded
abbrev pub has_calls : RecordedCalls → Bool
has_calls [] = false
has_calls (entry ∷ calls) = true

-- A record is one of one run: every line is understood, something was recorded, and no other run begins in it.
pub record IsOfOneRun (calls : RecordedCalls) (misread : List ℕ) : Type 0 where
  pub understood : misread ≡ []
  pub heard : has_calls calls ≡ true
  pub alone : another_run calls ≡ None

-- Of a record's text calls are written that are within the limits, and each line has one of them or is among the others: those that aren't understood, and those
-- that say nothing of a call, as they may. 0 says that it is of one run.
pub record SaysCalls (text : List ℕ) (status : ℕ) (written : List ℕ) : Type 0 where
  pub calls : RecordedCalls
  pub within : are_calls calls ≡ true
  pub misread : List ℕ
  pub silent : List ℕ
  pub others : ListTheOthers (length (lines_of text)) calls misread silent
  pub quiet : AreQuiet (lines_of text) silent
  pub is_text : written ≡ calls_text calls
  pub says : SaysWhether status (IsOfOneRun calls misread)

pub record SaysOfRecord (files : Files) (name : List ℕ) (status : ℕ) (written : List ℕ) : Type 0 where
  pub text : List ℕ
  pub is_file : IsFile files name text
  pub says : SaysCalls text status written

-- A schedule is written, a blank line, and a text behind it.
abbrev pub IsSchedule : List Event → List ℕ → Type 0
IsSchedule events written = (tally : List ℕ) × (written ≡ schedule_text events ++ (codes "\n" ++ tally))

-- that with status 0, or 1
abbrev pub SaysScheduled : List Event → ℕ → List ℕ → Type 0
SaysScheduled events status written = ((status ≡ 0) × IsSchedule events written) ⊎ (status ≡ 1)

-- so of a run that shows recorded calls
pub record Follows (plan : Plan) (placings : List Placing) (calls : RecordedCalls) (written : List ℕ) : Type 0 where
  pub witness : Witness
  pub is_shown : IsShown plan placings calls witness
  pub is_text : IsSchedule (events_of witness.moves) written

-- with status 0; 1 claims nothing
abbrev pub SaysFollowed : Plan → List Placing → RecordedCalls → ℕ → List ℕ → Type 0
SaysFollowed plan placings calls status written = ((status ≡ 0) × Follows plan placings calls written) ⊎ (status ≡ 1)

-- of the texts of a task and of recorded calls, with words REAL=MODEL
pub record SaysWhetherFollowed (task calls_text : List ℕ) (places : List (List ℕ)) (status : ℕ) (written : List ℕ) : Type 0 where
  pub plan : Plan
  pub is_task : task_of task ≡ Ok plan
  pub calls : RecordedCalls
  pub are_calls : calls_of_text calls_text ≡ Ok calls
  pub says : SaysFollowed plan (placings_in places) calls status written

pub record SaysOfFollowing (files : Files) (task calls : List ℕ) (places : List (List ℕ)) (status : ℕ) (written : List ℕ) : Type 0 where
  pub text : List ℕ
  pub is_file : IsFile files task text
  pub calls_text : List ℕ
  pub is_calls_file : IsFile files calls calls_text
  pub says : SaysWhetherFollowed text calls_text places status written

-- What is written counts of listings, of broken rules, of proposals, of runs, of calls, of what is learnt and of plans.
abbrev pub Answers : Files → Question → ℕ → List ℕ → Type 0
Answers files Usage status written = status ≡ 0
Answers files (Listing task None) status written = (status ≡ 0) × SaysOfListing files task written
Answers files (Listing task (Some certificate)) status written = (status ≡ 0) × SaysOfListingWith files task certificate written
Answers files (Broken task certificate) status written = SaysOfFiles files task certificate status written
Answers files (Unfound task) status written = SaysOfSearch files task status
Answers files (Breach task states) status written = SaysOfRuns files task status written
Answers files (Proposed task certificate) status written = SaysOfTask files task status written
Answers files (Page task None) status written = SaysOfSearch files task status
Answers files (Page task (Some certificate)) status written = SaysOfChecked files task certificate status
Answers files (Log task None) status written = SaysOfSearch files task status ⊎ SaysNoTask files task status
Answers files (Log task (Some certificate)) status written = SaysOfChecked files task certificate status ⊎ SaysNoTask files task status
Answers files (Faulty task) status written = SaysOfFile files task status
Answers files (Calls file) status written = SaysOfRecord files file status written
Answers files (Followed task calls places) status written = SaysOfFollowing files task calls places status written
Answers files (Learnt calls) status written = SaysLearnt files calls status written
Answers files (Planned line calls) status written = SaysPlanned files line calls status written
Answers files (NamesLeft calls) status written = HearsCalls files calls status

-- The words ask something, it is answered, and that is written behind what was written before.
pub record AnswersWords (files : Files) (words : List (List ℕ)) (status : ℕ) (before after : Option (List ℕ)) : Type 0 where
  pub question : Question
  pub asked : question_in words ≡ Some question
  pub written : List ℕ
  pub answered : Answers files question status written
  pub writes : Took before after written
