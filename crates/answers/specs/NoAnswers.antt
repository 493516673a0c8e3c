-- What is no answer. (own)
use Rattle.std.specs.Prelude.{◌≡◌, ℕ, false, true, List, [], ◌∷◌, Option, Some, None, Ok, codes}
use Rattle.certificate.specs.Bounds.{Certificate}
use Rattle.certificate_text.specs.Readings.{certificate_of_text}
use Rattle.checker.specs.Findings.{BrokenRule}
use Rattle.checker.specs.Verdicts.{IsAccepted}
use Rattle.follow.specs.Excused.{are_excused, tallied}
use Rattle.follow.specs.Places.{Placing}
use Rattle.follow.specs.Shows.{IsShown, Witness}
use Rattle.records.specs.Calls.{Called, Global, Number, Omitted, RecordEntry, RecordedCalls, RecordedEvent, Succeeds}
use Rattle.rights.specs.Calls as calls
use Rattle.records.specs.Readings.{calls_of_text}
use Rattle.records.specs.Texts.{calls_text}
use Rattle.searcher.specs.Flat.{flat}
use Rattle.task.specs.Plans.{NamedProgram, Plan, is_marked}
use Rattle.task_reader.specs.Reading.{task_of}
use Rattle.answers.specs.Answered.{Answers, AnswersWords}
use Rattle.answers.specs.PlacingWords.{placings_in}
use Rattle.answers.specs.Planned.{Claim, IsHonest, marked_text}
use Rattle.answers.specs.Questions.{Broken, Calls, Followed, Learnt, Listing, Log, Planned, Unfound, question_in}
use Rattle.explain.specs.TaskTexts.{IsTaskText}
use Rattle.explain.specs.Telling.{HasHead}

-- status 0 to `no` of a certificate that isn't accepted, and 1 of one that is; an empty answer; one that isn't written; and a finding without its point
pub record NoSaysWhether : Type 0 where
  pub refused : (files : List ℕ → Option (List ℕ)) (task certificate text bounds_text : List ℕ) (plan : Plan) (bounds : Certificate) (written : List ℕ)
      → files task ≡ Some text → files certificate ≡ Some bounds_text → task_of text ≡ Ok plan → certificate_of_text bounds_text ≡ Ok bounds
      → (IsAccepted plan bounds → ⊥) → Answers (Some files) (Broken task certificate) 0 written → ⊥
  pub accepted : (files : List ℕ → Option (List ℕ)) (task certificate text bounds_text : List ℕ) (plan : Plan) (bounds : Certificate) (written : List ℕ)
      → files task ≡ Some text → files certificate ≡ Some bounds_text → task_of text ≡ Ok plan → certificate_of_text bounds_text ≡ Ok bounds
      → IsAccepted plan bounds → Answers (Some files) (Broken task certificate) 1 written → ⊥
  pub silent : (files : List ℕ → Option (List ℕ)) (task certificate : List ℕ) (status : ℕ)
      → Answers (Some files) (Broken task certificate) status [] → ⊥
  pub unwritten : (files : List ℕ → Option (List ℕ)) (words : List (List ℕ)) (task certificate : List ℕ) (status : ℕ) (before : List ℕ)
      → question_in words ≡ Some (Broken task certificate) → AnswersWords (Some files) words status (Some before) (Some before) → ⊥
  pub headless : (plan : Plan) (f : BrokenRule) → HasHead plan f false [] → ⊥

-- nothing written to `list` of a task with a program, and any status but 0
pub record ListingSaysPrograms : Type 0 where
  pub silent : (files : List ℕ → Option (List ℕ)) (task text : List ℕ) (plan : Plan) (p : NamedProgram) (ps : List NamedProgram) (status : ℕ)
      → files task ≡ Some text → task_of text ≡ Ok plan → plan.programs ≡ p ∷ ps → Answers (Some files) (Listing task None) status [] → ⊥
  pub failed : (files : List ℕ → Option (List ℕ)) (task : List ℕ) (written : List ℕ) → Answers (Some files) (Listing task None) 1 written → ⊥

-- status 0 to `none` of a task that no certificate fits, and 1 of one whose flat certificate is accepted
pub record NoneSaysWhether : Type 0 where
  pub unfit : (files : List ℕ → Option (List ℕ)) (task text : List ℕ) (plan : Plan) (written : List ℕ) → files task ≡ Some text → task_of text ≡ Ok plan
      → ((bounds : Certificate) → IsAccepted plan bounds → ⊥) → Answers (Some files) (Unfound task) 0 written → ⊥
  pub fits : (files : List ℕ → Option (List ℕ)) (task text : List ℕ) (plan : Plan) (bounds : Certificate) (written : List ℕ) → files task ≡ Some text
      → task_of text ≡ Ok plan → flat plan ≡ Some bounds → IsAccepted plan bounds → Answers (Some files) (Unfound task) 1 written → ⊥

-- status 0 to `sarif` of a text that is no task's, and 1 of a task whose flat certificate is accepted
pub record LogSaysWhether : Type 0 where
  pub refused : (files : List ℕ → Option (List ℕ)) (task text : List ℕ) (written : List ℕ) → files task ≡ Some text
      → (IsTaskText text → ⊥) → Answers (Some files) (Log task None) 0 written → ⊥
  pub fits : (files : List ℕ → Option (List ℕ)) (task text : List ℕ) (plan : Plan) (bounds : Certificate) (written : List ℕ) → files task ≡ Some text
      → task_of text ≡ Ok plan → flat plan ≡ Some bounds → IsAccepted plan bounds → Answers (Some files) (Log task None) 1 written → ⊥

-- two copies of a descriptor, and the first of them as a recorded call
abbrev pub two_copies : List ℕ
two_copies = codes "9 dup(0) = 3\n9 dup(0) = 4"

abbrev pub at_line : ℕ → RecordedEvent → RecordEntry
at_line line event = record { span = record { first = line; last = line }; process = 9; event = event }

abbrev pub first_copy : RecordEntry
first_copy = at_line 1 (Called (record { call = calls.Dup; operands = Number 0 ∷ []; outcome = Succeeds 3; bindings = []; bytes = None }))

-- nothing written to `calls`, and status 0 where one of two calls isn't; status 0 to `follow` of calls that no run shows, and of any with nothing written
pub record RecordsAreHeard : Type 0 where
  pub silent : (files : List ℕ → Option (List ℕ)) (file : List ℕ) (status : ℕ) → Answers (Some files) (Calls file) status [] → ⊥
  pub unheard : (files : List ℕ → Option (List ℕ)) (file : List ℕ) → files file ≡ Some two_copies
      → Answers (Some files) (Calls file) 0 (calls_text (first_copy ∷ [])) → ⊥
  pub unshown : (files : List ℕ → Option (List ℕ)) (task calls text calls_text : List ℕ) (places : List (List ℕ)) (plan : Plan) (recorded : RecordedCalls) (written : List ℕ)
      → files task ≡ Some text → files calls ≡ Some calls_text → task_of text ≡ Ok plan → calls_of_text calls_text ≡ Ok recorded
      → ((witness : Witness) → IsShown plan (placings_in places) recorded witness → ⊥) → Answers (Some files) (Followed task calls places) 0 written → ⊥
  pub unwritten : (files : List ℕ → Option (List ℕ)) (task calls : List ℕ) (places : List (List ℕ))
      → Answers (Some files) (Followed task calls places) 0 [] → ⊥

-- status 0 to `learn` of calls that no run of any task shows which skips only what is excused; and any, where there is no such file
pub record LearntIsFollowed : Type 0 where
  pub unshown : (files : List ℕ → Option (List ℕ)) (calls calls_text : List ℕ) (recorded : RecordedCalls) (written : List ℕ)
      → files calls ≡ Some calls_text → calls_of_text calls_text ≡ Ok recorded → ((plan : Plan) (placings : List Placing) (witness : Witness) → IsShown plan placings recorded witness
      → are_excused (tallied placings recorded witness.moves) ≡ true → ⊥)
      → Answers (Some files) (Learnt (calls ∷ [])) 0 written → ⊥
  pub missing : (files : List ℕ → Option (List ℕ)) (calls : List ℕ) (status : ℕ) (written : List ℕ) → files calls ≡ None
      → Answers (Some files) (Learnt (calls ∷ [])) status written → ⊥

-- a process that copies a descriptor, and then connects
abbrev pub copying_and_connecting : RecordedCalls
copying_and_connecting =
    first_copy
    ∷ at_line 2 (Omitted (record { reason = Global; name = codes "connect"; wanted = None })) ∷ []

-- status 0 to `plan` where what is written is the text of a task that no certificate fits, or nothing; the word that a certificate of the marked task is accepted, where
-- none is, or the program isn't marked; status 0 where the process of the line makes a call behind it that the mode refuses; and any status, where there is no such file
pub record PlannedIsAccepted : Type 0 where
  pub unfit : (files : List ℕ → Option (List ℕ)) (line : ℕ) (calls text : List ℕ) (plan : Plan) → task_of text ≡ Ok plan
      → ((bounds : Certificate) → IsAccepted plan bounds → ⊥) → Answers (Some files) (Planned line (calls ∷ [])) 0 text → ⊥
  pub silent : (files : List ℕ → Option (List ℕ)) (line : ℕ) (calls : List ℕ) → Answers (Some files) (Planned line (calls ∷ [])) 0 [] → ⊥
  pub unfit_marked : (front name back : List ℕ) (claim : Claim) → claim.untrusted ≡ true → ((plan : Plan) (bounds : Certificate)
      → task_of (marked_text front name back claim) ≡ Ok plan → IsAccepted plan bounds → ⊥) → IsHonest front name back claim → ⊥
  pub unmarked : (front name back : List ℕ) (claim : Claim) (plan : Plan) → claim.untrusted ≡ true → task_of (marked_text front name back claim) ≡ Ok plan
      → is_marked plan.programs name ≡ false → IsHonest front name back claim → ⊥
  pub refused : (files : List ℕ → Option (List ℕ)) (calls calls_text written : List ℕ) → files calls ≡ Some calls_text
      → calls_of_text calls_text ≡ Ok copying_and_connecting → Answers (Some files) (Planned 1 (calls ∷ [])) 0 written → ⊥
  pub missing : (files : List ℕ → Option (List ℕ)) (line : ℕ) (calls : List ℕ) (status : ℕ) (written : List ℕ) → files calls ≡ None
      → Answers (Some files) (Planned line (calls ∷ [])) status written → ⊥
