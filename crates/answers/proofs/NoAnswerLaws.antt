-- What is no answer, by the files that are told.
use Rattle.std.proofs.Common.{◌≡◌, ◌-◌, ℕ, Bool, true, List, [], ◌∷◌, ◌++◌, Some, ap, refl, inl, inr, lit<, map, subst, sym, ◌∙◌}
use Rattle.std.specs.Prelude.{◌⊎◌, ◌==◌, ◌&&◌, ◌||◌, false, Option, Result, Ok, codes, length}
use Rattle.std.specs.List.{list_all, range_with_len, slice_get}
use Rattle.std.proofs.Math.Bool.{not}
use Rattle.std.proofs.lemmas.Bool.{and_parts, eqb-true}
use Rattle.certificate.specs.Bounds.{Certificate, One}
use Rattle.certificate.specs.Growth.{empty}
use Rattle.certificate_text.specs.Readings.{certificate_of_text}
use Rattle.checker.specs.Findings.{BrokenRule, findings}
use Rattle.checker.specs.Verdicts.{IsAccepted}
use Rattle.explore.specs.Texts.{schedule_text}
use Rattle.follow.specs.Shows.{IsShown, Witness, events_of}
use Rattle.records.specs.Calls.{RecordedCalls, are_calls}
use Rattle.records.specs.LineAccounts.{AreQuiet, ListTheOthers, is_end_of, is_in_lists, is_line_of, is_listed, is_quiet}
use Rattle.records.specs.Readings.{calls_of_text}
use Rattle.records.specs.Texts.{calls_text}
use Rattle.records.proofs.TextBack.{calls-back}
use Rattle.rules.specs.Expansions.{expansion}
use Rattle.searcher.specs.Flat.{flat}
use Rattle.task.specs.Plans.{NamedProgram, Plan, program_name}
use Rattle.task_reader.specs.Reading.{task_of}
use Rattle.answers.specs.Answered.{Answers, AnswersWords, IsOfOneRun, SaysBroken, SaysCalls, SaysFollowed, SaysFound, SaysNoTask, SaysOfSearch, SaysWhether}
use Rattle.answers.specs.NoAnswers.{ListingSaysPrograms, LogSaysWhether, NoSaysWhether, NoneSaysWhether, RecordsAreHeard, first_copy, two_copies}
use Rattle.answers.specs.PlacingWords.{placings_in}
use Rattle.answers.specs.Questions.{Broken, Question, question_in}
use Rattle.explain.specs.Listing.{InOrder, Lists, TellsProgram, one_more}
use Rattle.explain.specs.TaskTexts.{IsTaskText}
use Rattle.texts.specs.Lines.{Line, lines_of}
use Rattle.explain.proofs.Covered.{some_told}
use Rattle.explain.specs.Telling.{HasHead, Tells, point_with_line}

pub same_some : {A : Type 0} {x y : A} → Some x ≡ Some y → x ≡ y
same_some same = cc

pub same_ok : {A E : Type 0} {x y : A} (r : Result A E) → r ≡ Ok x → r ≡ Ok y → x ≡ y
same_ok r first second = let same = sym first ∙ second in cc

never_both : (Holds : Type 0) → SaysWhether 0 Holds → Holds
never_both Holds (inl says) = says.1
never_both Holds (inr says) = absurd cc

denied : (Holds : Type 0) → SaysWhether 1 Holds → Holds → ⊥
denied Holds (inl says) holds = cc
denied Holds (inr says) holds = says.1 holds

module _ (text bounds_text : List ℕ) (plan : Plan) (bounds : Certificate) (is_task : task_of text ≡ Ok plan) (is_bounds : certificate_of_text bounds_text ≡ Ok bounds) where
  accepted_if : (told told_bounds written : List ℕ) (is : told ≡ text) (is_told : told_bounds ≡ bounds_text) → SaysBroken 0 told told_bounds written → IsAccepted plan bounds
  accepted_if told told_bounds written is is_told says =
      let plan_is : says.plan ≡ plan = same_ok (task_of text) (sym (λ k. task_of (is k)) ∙ says.is_task) is_task in
      let bounds_is : says.bounds ≡ bounds = same_ok (certificate_of_text bounds_text) (sym (λ k. certificate_of_text (is_told k)) ∙ says.is_certificate) is_bounds in
      subst (λ (b : Certificate). IsAccepted plan b) bounds_is (subst (λ (p : Plan). IsAccepted p says.bounds) plan_is (never_both (IsAccepted says.plan says.bounds) says.says))

  refused_if : (told told_bounds written : List ℕ) (is : told ≡ text) (is_told : told_bounds ≡ bounds_text) → SaysBroken 1 told told_bounds written
      → IsAccepted plan bounds → ⊥
  refused_if told told_bounds written is is_told says accepted =
      let plan_is : says.plan ≡ plan = same_ok (task_of text) (sym (λ k. task_of (is k)) ∙ says.is_task) is_task in
      let bounds_is : says.bounds ≡ bounds = same_ok (certificate_of_text bounds_text) (sym (λ k. certificate_of_text (is_told k)) ∙ says.is_certificate) is_bounds in
      denied (IsAccepted says.plan says.bounds) says.says
      (subst (λ (p : Plan). IsAccepted p says.bounds) (sym plan_is) (subst (λ (b : Certificate). IsAccepted plan b) (sym bounds_is) accepted))

-- Where a rule is broken something is told.
second_empty : (first second : List ℕ) → first ++ second ≡ [] → second ≡ []
second_empty [] second is = is
second_empty (byte ∷ first) second is = absurd cc

no_head : (plan : Plan) (f : BrokenRule) → HasHead plan f false [] → ⊥
no_head plan f has =
    let clash = second_empty (point_with_line (program_name plan f.program) f.point has.0) ((codes ": " ++ (has.1 ++ codes "\n"))) (sym has.2) in
    cc

not_silent : (plan : Plan) (c : Certificate) (fs : List BrokenRule) (text : List ℕ) → Tells plan c fs text → text ≡ [] → ⊥
unfolding Tells
not_silent plan c [] text tells is = let clash = sym tells ∙ is in cc
not_silent plan c (f ∷ fs) text tells is = some_told plan c f fs tells.last tells.told tells.each (second_empty tells.before tells.told (sym tells.whole ∙ is))

no_silence : (files : List ℕ → Option (List ℕ)) (task certificate : List ℕ) (status : ℕ) → Answers (Some files) (Broken task certificate) status [] → ⊥
no_silence files task certificate status answers =
    not_silent answers.says.plan (expansion answers.says.plan answers.says.bounds) (findings answers.says.plan (expansion answers.says.plan answers.says.bounds)) []
    answers.says.tells refl

-- What is told is written.
added_nothing : (text more : List ℕ) → text ≡ text ++ more → more ≡ []
added_nothing [] more is = sym is
added_nothing (byte ∷ text) more is = added_nothing text more (let same = is in cc)

no_unwritten : (files : List ℕ → Option (List ℕ)) (words : List (List ℕ)) (task certificate : List ℕ) (status : ℕ) (before : List ℕ)
    → question_in words ≡ Some (Broken task certificate) → AnswersWords (Some files) words status (Some before) (Some before) → ⊥
no_unwritten files words task certificate status before asked answers =
    let none : answers.written ≡ [] = added_nothing before answers.written (same_some answers.writes) in
    let is : answers.question ≡ Broken task certificate = same_some (sym answers.asked ∙ asked) in
    no_silence files task certificate status
    (subst (λ (written : List ℕ). Answers (Some files) (Broken task certificate) status written) none
    (subst (λ (question : Question). Answers (Some files) question status answers.written) is answers.answered))

pub no_says : NoSaysWhether
no_says = record {
  refused = λ files task certificate text bounds_text plan bounds written is_text is_bounds is_task is_certificate refused answers.
      refused (accepted_if text bounds_text plan bounds is_task is_certificate answers.text answers.bounds_text written
      (same_some (sym answers.is_file ∙ is_text)) (same_some (sym answers.is_bounds ∙ is_bounds)) answers.says);
  accepted = λ files task certificate text bounds_text plan bounds written is_text is_bounds is_task is_certificate accepted answers.
      refused_if text bounds_text plan bounds is_task is_certificate answers.text answers.bounds_text written
      (same_some (sym answers.is_file ∙ is_text)) (same_some (sym answers.is_bounds ∙ is_bounds)) answers.says accepted;
  silent = no_silence;
  unwritten = no_unwritten;
  headless = no_head;
}

plan_of : (text told : List ℕ) (plan : Plan) (status : ℕ) → task_of text ≡ Ok plan → told ≡ text → (says : SaysFound status told) → says.plan ≡ plan
plan_of text told plan status is_task is says = same_ok (task_of text) (sym (λ k. task_of (is k)) ∙ says.is_task) is_task

pub none_says : NoneSaysWhether
none_says = record {
  unfit = λ files task text plan written is_text is_task none answers.
      let plan_is = plan_of text answers.text plan 0 is_task (same_some (sym answers.is_file ∙ is_text)) answers.says in
      let found = answers.says.found refl in
      none found.0 (subst (λ (p : Plan). IsAccepted p found.0) plan_is found.1);
  fits = λ files task text plan bounds written is_text is_task is_flat accepted answers.
      let plan_is = plan_of text answers.text plan 1 is_task (same_some (sym answers.is_file ∙ is_text)) answers.says in
      answers.says.unfound refl bounds (subst (λ (p : Plan). flat p ≡ Some bounds) (sym plan_is) is_flat) (subst (λ (p : Plan). IsAccepted p bounds) (sym plan_is) accepted);
}

-- ## Logs, and recorded calls
log_refused : (files : List ℕ → Option (List ℕ)) (task text : List ℕ) → files task ≡ Some text → (IsTaskText text → ⊥)
    → SaysOfSearch (Some files) task 0 ⊎ SaysNoTask (Some files) task 0 → ⊥
log_refused files task text is_text refused (inl says) =
    refused (says.says.plan, sym (λ k. task_of (same_some (sym says.is_file ∙ is_text) k)) ∙ says.says.is_task)
log_refused files task text is_text refused (inr says) = let clash = says.told in cc

log_fits : (files : List ℕ → Option (List ℕ)) (task text : List ℕ) (plan : Plan) (bounds : Certificate) (written : List ℕ) → files task ≡ Some text
    → task_of text ≡ Ok plan → flat plan ≡ Some bounds → IsAccepted plan bounds → SaysOfSearch (Some files) task 1 ⊎ SaysNoTask (Some files) task 1 → ⊥
log_fits files task text plan bounds written is_text is_task is_flat accepted (inl says) =
    none_says.fits files task text plan bounds written is_text is_task is_flat accepted says
log_fits files task text plan bounds written is_text is_task is_flat accepted (inr says) =
    says.refused (plan, (λ k. task_of (same_some (sym says.is_file ∙ is_text) k)) ∙ is_task)

pub log_says : LogSaysWhether
log_says = record {
  refused = λ files task text written is_text refused answers. log_refused files task text is_text refused answers;
  fits = λ files task text plan bounds written is_text is_task is_flat accepted answers.
      log_fits files task text plan bounds written is_text is_task is_flat accepted answers;
}

begun : (calls : RecordedCalls) → calls_text calls ≡ [] → ⊥
begun calls is = let clash = is in cc

-- of a list all of whose numbers pass, one that is listed passes: the first, or one behind it
passes_first : (test : ℕ → Bool) (n m : ℕ) (xs : List ℕ) (same : Bool) → (m == n) ≡ same
    → (is_listed n xs ≡ true → list_all test xs ≡ true → test n ≡ true) → is_listed n (m ∷ xs) ≡ true → list_all test (m ∷ xs) ≡ true → test n ≡ true
passes_first test n m xs true is behind listed all = ap test (sym (eqb-true m n is)) ∙ (and_parts (test m) (list_all test xs) all).0
passes_first test n m xs false is behind listed all =
    behind (sym (ap (λ b. b || is_listed n xs) is) ∙ listed) (and_parts (test m) (list_all test xs) all).1

passes : (test : ℕ → Bool) (n : ℕ) (xs : List ℕ) → is_listed n xs ≡ true → list_all test xs ≡ true → test n ≡ true
passes test n [] listed all = absurd cc
passes test n (m ∷ xs) listed all = passes_first test n m xs (m == n) refl (λ left rest. passes test n xs left rest) listed all

heard : (calls : RecordedCalls) → are_calls calls ≡ true → calls_text (first_copy ∷ []) ≡ calls_text calls → calls ≡ first_copy ∷ []
heard calls within is =
    same_ok (calls_of_text (calls_text calls)) (calls-back calls within) (sym (λ k. calls_of_text (is k)) ∙ calls-back (first_copy ∷ []) refl)

understood : (misread : List ℕ) (calls : RecordedCalls) → SaysWhether 0 (IsOfOneRun calls misread) → misread ≡ []
understood misread calls says = (never_both (IsOfOneRun calls misread) says).understood

second_line : (misread silent : List ℕ) (calls : RecordedCalls) → misread ≡ [] → calls ≡ first_copy ∷ [] → ListTheOthers 2 calls misread silent
    → is_listed 2 silent ≡ true
second_line misread silent calls none is lists =
    sym (ap (λ (lines : List ℕ). is_in_lists 2 lines silent) none) ∙ lists (lit< tt) 2 ∙ ap (λ (c : RecordedCalls). is_line_of 2 2 && not (is_end_of 2 c)) is

not_quiet : (silent : List ℕ) → is_listed 2 silent ≡ true → AreQuiet (lines_of two_copies) silent → ⊥
not_quiet silent listed quiet =
    let clash = passes (λ n. is_quiet (slice_get (map (λ (line : Line). line.text) (lines_of two_copies)) (n - 1))) 2 silent listed (quiet (lit< tt)) in
    cc

no_call_lost : (text : List ℕ) → text ≡ two_copies → SaysCalls text 0 (calls_text (first_copy ∷ [])) → ⊥
no_call_lost text is says =
    let said = subst (λ (t : List ℕ). SaysCalls t 0 (calls_text (first_copy ∷ []))) is says in
    not_quiet said.silent
    (second_line said.misread said.silent said.calls (understood said.misread said.calls said.says) (heard said.calls said.within said.is_text) said.others)
    said.quiet

not_shown : (plan said : Plan) (places : List (List ℕ)) (recorded heard : RecordedCalls) (written : List ℕ) → said ≡ plan → heard ≡ recorded
    → ((witness : Witness) → IsShown plan (placings_in places) recorded witness → ⊥) → SaysFollowed said (placings_in places) heard 0 written → ⊥
not_shown plan said places recorded heard written plan_is calls_are none (inl follows) =
    none follows.1.witness
    (subst (λ (c : RecordedCalls). IsShown plan (placings_in places) c follows.1.witness) calls_are
    (subst (λ (p : Plan). IsShown p (placings_in places) heard follows.1.witness) plan_is follows.1.is_shown))
not_shown plan said places recorded heard written plan_is calls_are none (inr parts) = cc

not_written : (plan : Plan) (places : List (List ℕ)) (calls : RecordedCalls) → SaysFollowed plan (placings_in places) calls 0 [] → ⊥
not_written plan places calls (inl follows) =
    let blank = second_empty (schedule_text (events_of follows.1.witness.moves)) (codes "\n" ++ follows.1.is_text.0) (sym follows.1.is_text.1) in
    cc
not_written plan places calls (inr parts) = cc

pub records_are_heard : RecordsAreHeard
records_are_heard = record {
  silent = λ files file status answers. begun answers.says.calls (sym answers.says.is_text);
  unheard = λ files file is_text answers. no_call_lost answers.text (same_some (sym answers.is_file ∙ is_text)) answers.says;
  unshown = λ files task calls text calls_text places plan recorded written is_text is_calls is_task are_calls none answers.
      not_shown plan answers.says.plan places recorded answers.says.calls written
      (same_ok (task_of text) (sym (λ k. task_of (same_some (sym answers.is_file ∙ is_text) k)) ∙ answers.says.is_task) is_task)
      (same_ok (calls_of_text calls_text) (sym (λ k. calls_of_text (same_some (sym answers.is_calls_file ∙ is_calls) k)) ∙ answers.says.are_calls) are_calls)
      none answers.says.says;
  unwritten = λ files task calls places answers. not_written answers.says.plan places answers.says.calls answers.says.says;
}

-- ## Listings
first_told : {X : Type 0} (Tells : X → List ℕ → Type 0) (x : X) (xs : List X) (text : List ℕ) → InOrder Tells (x ∷ xs) text
    → (told : List ℕ) × (behind : List ℕ) × Tells x told × (text ≡ told ++ behind)
first_told Tells x xs text (one_more _ tells rest) = (_, _, tells, refl)

first_empty : (first second : List ℕ) → first ++ second ≡ [] → first ≡ []
first_empty [] second is = refl
first_empty (byte ∷ first) second is = absurd cc

unnamed : (plan : Plan) (c bounds : Certificate) (program : ℕ) (text : List ℕ) → TellsProgram plan c bounds false program text → text ≡ [] → ⊥
unnamed plan c bounds program text tells is =
    let clash = second_empty (program_name plan program) (codes "\n" ++ (tells.authority ++ (tells.of_points ++ (tells.remarks ++ tells.warnings))))
    (sym tells.is_text ∙ is) in
    cc

unlisted : (plan : Plan) (c bounds : Certificate) (p : NamedProgram) (ps : List NamedProgram) (written : List ℕ) → plan.programs ≡ p ∷ ps → written ≡ []
    → Lists plan c bounds false written → ⊥
unlisted plan c bounds p ps written is none lists =
    let told = first_told (TellsProgram plan c bounds false) 0 (range_with_len 1 (length ps)) lists.programs
    (subst (λ (programs : List NamedProgram). InOrder (TellsProgram plan c bounds false) (range_with_len 0 (length programs)) lists.programs) is lists.tells_programs) in
    unnamed plan c bounds 0 told.0 told.2 (first_empty told.0 told.1 (sym told.3 ∙ first_empty lists.programs lists.remarks (sym lists.is_text ∙ none)))

pub listing_says : ListingSaysPrograms
listing_says = record {
  silent = λ files task text plan p ps status is_text is_task has_program answers.
      let listed = answers.1.says in
      let plan_is : listed.plan ≡ plan = same_ok (task_of text) (sym (λ k. task_of (same_some (sym answers.1.is_file ∙ is_text) k)) ∙ listed.is_task) is_task in
      unlisted listed.plan (empty One) listed.bounds p ps [] (ap (λ (q : Plan). q.programs) plan_is ∙ has_program) refl listed.lists;
  failed = λ files task written answers. let clash = answers.0 in cc;
}
