-- What is said of a plan, by what its parts say.
use Rattle.std.proofs.Common.{◌≡◌, ◌≤◌, ℕ, Bool, true, false, List, [], ◌∷◌, ◌++◌, refl, subst, sym, ◌∙◌, inl, inr, eqb-true, arith}
use Rattle.std.specs.Prelude.{◌⊎◌, ◌&&◌, ◌==◌, Ok, Option, Some}
use Rattle.certificate.specs.Bounds.{Certificate}
use Rattle.checker.specs.Verdicts.{IsAccepted}
use Rattle.console.specs.Files.{Files}
use Rattle.records.specs.Calls.{RecordedCalls}
use Rattle.records.specs.Readings.{calls_of_text}
use Rattle.task.specs.Plans.{Plan, is_marked}
use Rattle.task_reader.specs.Reading.{task_of}
use Rattle.texts.specs.Names.{is_name}
use Rattle.answers.specs.Learnt.{AreCalls, WritesNothing}
use Rattle.answers.specs.NoAnswers.{PlannedIsAccepted, copying_and_connecting}
use Rattle.answers.proofs.LearntLaws.{not_there}
use Rattle.answers.proofs.NoAnswerLaws.{same_ok, same_some}
use Rattle.answers.specs.Planned.{Claim, HearsCalls, IsAcceptable, IsHonest, IsMarkedAcceptable, IsUnmarkedTask, SaysPlanned, WritesPlan}
use Rattle.answers.specs.Planned.{check_words, heading, is_whole, last_words, left_after, left_words, marked_text, marked_words, plan_text}

pub acceptable : (text : List ℕ) (plan : Plan) (bounds : Certificate) → task_of text ≡ Ok plan → IsAccepted plan bounds → IsAcceptable text
acceptable text plan bounds is accepted = record { plan = plan; is_task = is; bounds = bounds; accepted = accepted }

pub unmarked_task : (text name : List ℕ) (plan : Plan) → task_of text ≡ Ok plan → is_marked plan.programs name ≡ false → IsUnmarkedTask text name
unmarked_task text name plan is unmarked = record { plan = plan; is_task = is; unmarked = unmarked }

pub marked_acceptable : (text name : List ℕ) (plan : Plan) (bounds : Certificate) → task_of text ≡ Ok plan → is_marked plan.programs name ≡ true
    → IsAccepted plan bounds → IsMarkedAcceptable text name
marked_acceptable text name plan bounds is marked accepted =
    record { plan = plan; is_task = is; marked = marked; bounds = bounds; accepted = accepted }

pub honest : (front name back : List ℕ) (claim : Claim) → is_name name ≡ true → IsUnmarkedTask (plan_text front name back claim) name
    → (claim.trusted ≡ true → IsAcceptable (plan_text front name back claim))
    → (claim.untrusted ≡ true → IsMarkedAcceptable (marked_text front name back claim) name)
    → IsHonest front name back claim
honest front name back claim named unmarked accepted marked =
    record { named = named; unmarked = unmarked; accepted = accepted; marked = marked }

pub whole : (line : ℕ) (records : List RecordedCalls) (front name back text : List ℕ) (claim : Claim) → IsHonest front name back claim
    → text ≡ plan_text front name back claim → left_after line records ≤ claim.left → is_whole claim ≡ true → WritesPlan line records 0 text
whole line records front name back text claim is same counted all = record {
  front = front;
  name = name;
  back = back;
  claim = claim;
  honest = is;
  is_text = same;
  counted = counted;
  says = inl (refl, all);
}

pub not_whole : (line : ℕ) (records : List RecordedCalls) (front name back text : List ℕ) (claim : Claim) → IsHonest front name back claim
    → text ≡ plan_text front name back claim → left_after line records ≤ claim.left → is_whole claim ≡ false → WritesPlan line records 1 text
not_whole line records front name back text claim is same counted some = record {
  front = front;
  name = name;
  back = back;
  claim = claim;
  honest = is;
  is_text = same;
  counted = counted;
  says = inr (refl, some);
}

pub planned : (files : Files) (line : ℕ) (names : List (List ℕ)) (records : List RecordedCalls) (status : ℕ) (text : List ℕ) → AreCalls files names records
    → WritesPlan line records status text ⊎ WritesNothing status text → SaysPlanned files line names status text
planned files line names records status text are says = record { records = records; are_calls = are; says = says }

pub nothing_planned : (files : Files) (line : ℕ) (names : List (List ℕ)) (records : List RecordedCalls) (status : ℕ) (text : List ℕ) → AreCalls files names records
    → WritesNothing status text → SaysPlanned files line names status text
nothing_planned files line names records status text are says = record { records = records; are_calls = are; says = inr says }

pub heard : (files : Files) (names : List (List ℕ)) (records : List RecordedCalls) (status : ℕ) → AreCalls files names records → status ≡ 0
    → HearsCalls files names status
heard files names records status are done = record { records = records; are_calls = are; done = done }

-- ## What is no answer
no_certificate : (text : List ℕ) (plan : Plan) → task_of text ≡ Ok plan → ((bounds : Certificate) → IsAccepted plan bounds → ⊥) → IsAcceptable text → ⊥
no_certificate text plan is none said =
    none said.bounds (subst (λ (p : Plan). IsAccepted p said.bounds) (same_ok (task_of text) said.is_task is) said.accepted)

-- a plan with nothing left says that a certificate is accepted, and counts nothing
trusted_if : (trusted is_done : Bool) → (trusted && is_done) ≡ true → trusted ≡ true
trusted_if true is_done is = refl
trusted_if false is_done is = absurd cc

none_if : (trusted : Bool) (left : ℕ) → (trusted && (left == 0)) ≡ true → left ≡ 0
none_if true left is = eqb-true left 0 is
none_if false left is = absurd cc

not_accepted : (text : List ℕ) (plan : Plan) → task_of text ≡ Ok plan → ((bounds : Certificate) → IsAccepted plan bounds → ⊥)
    → (front name back : List ℕ) (claim : Claim) → IsHonest front name back claim
    → text ≡ plan_text front name back claim → claim.trusted ≡ true → ⊥
not_accepted text plan is none front name back claim said same claims =
    no_certificate text plan is none (subst (λ (t : List ℕ). IsAcceptable t) (sym same) (said.accepted claims))

is_whole_at : (status : ℕ) (claim : Claim) → status ≡ 0
    → ((status ≡ 0) × (is_whole claim ≡ true)) ⊎ ((status ≡ 1) × (is_whole claim ≡ false)) → is_whole claim ≡ true
is_whole_at status claim done (inl says) = says.1
is_whole_at status claim done (inr says) = let clash = sym done ∙ says.0 in cc

no_plan : (line : ℕ) (records : List RecordedCalls) (text : List ℕ) (plan : Plan) → task_of text ≡ Ok plan → ((bounds : Certificate) → IsAccepted plan bounds → ⊥)
    → WritesPlan line records 0 text ⊎ WritesNothing 0 text → ⊥
no_plan line records text plan is none (inl said) =
    not_accepted text plan is none said.front said.name said.back said.claim said.honest said.is_text
    (trusted_if said.claim.trusted (said.claim.left == 0) (is_whole_at 0 said.claim refl said.says))
no_plan line records text plan is none (inr said) = let clash = said.0 in cc

first_empty : (first second : List ℕ) → first ++ second ≡ [] → first ≡ []
first_empty [] second is = refl
first_empty (byte ∷ first) second is = absurd cc

second_empty : (first second : List ℕ) → first ++ second ≡ [] → second ≡ []
second_empty [] second is = is
second_empty (byte ∷ first) second is = absurd cc

some_words : (trusted : Bool) → check_words trusted ≡ [] → ⊥
some_words true is = cc
some_words false is = cc

never_silent : (line : ℕ) (records : List RecordedCalls) → WritesPlan line records 0 [] ⊎ WritesNothing 0 [] → ⊥
never_silent line records (inl said) =
    let words = last_words said.claim said.name in
    let behind = second_empty (heading said.name) (said.back ++ words) (second_empty said.front (heading said.name ++ (said.back ++ words)) (sym said.is_text)) in
    some_words said.claim.trusted (first_empty (check_words said.claim.trusted) (left_words said.claim.left ++ marked_words said.name said.claim.untrusted)
    (second_empty said.back words behind))
never_silent line records (inr said) = let clash = said.0 in cc

never_fitting : (front name back : List ℕ) (claim : Claim) → claim.untrusted ≡ true → ((plan : Plan) (bounds : Certificate)
    → task_of (marked_text front name back claim) ≡ Ok plan → IsAccepted plan bounds → ⊥) → IsHonest front name back claim → ⊥
never_fitting front name back claim claims none said = let is = said.marked claims in none is.plan is.bounds is.is_task is.accepted

never_unmarked : (front name back : List ℕ) (claim : Claim) (plan : Plan) → claim.untrusted ≡ true → task_of (marked_text front name back claim) ≡ Ok plan
    → is_marked plan.programs name ≡ false → IsHonest front name back claim → ⊥
never_unmarked front name back claim plan claims is unmarked said =
    let own = said.marked claims in
    let same = same_ok (task_of (marked_text front name back claim)) own.is_task is in
    let clash = sym own.marked ∙ ((λ k. is_marked (same k).programs name) ∙ unmarked) in cc

one_is_left : (claim : Claim) → 1 ≤ claim.left → is_whole claim ≡ true → ⊥
one_is_left claim some all = let none = none_if claim.trusted claim.left all in let clash = subst (λ (n : ℕ). 1 ≤ n) none some in omega (arith, clash)

counts_one : (records : List RecordedCalls) (written : List ℕ) → (rest : List RecordedCalls) → records ≡ copying_and_connecting ∷ rest
    → WritesPlan 1 records 0 written ⊎ WritesNothing 0 written → ⊥
counts_one records written rest same (inl said) =
    one_is_left said.claim (subst (λ (rs : List RecordedCalls). left_after 1 rs ≤ said.claim.left) same said.counted) (is_whole_at 0 said.claim refl said.says)
counts_one records written rest same (inr said) = let clash = said.0 in cc

never_refused : (files : List ℕ → Option (List ℕ)) (calls calls_text : List ℕ) (records : List RecordedCalls) (written : List ℕ)
    → files calls ≡ Some calls_text → calls_of_text calls_text ≡ Ok copying_and_connecting → AreCalls (Some files) (calls ∷ []) records
    → WritesPlan 1 records 0 written ⊎ WritesNothing 0 written → ⊥
never_refused files calls calls_text [] written is_file are heard says = absurd heard
never_refused files calls calls_text (own ∷ rest) written is_file are heard says =
    let same : own ≡ copying_and_connecting =
    same_ok (calls_of_text calls_text) (sym (λ k. calls_of_text (same_some (sym heard.0.file ∙ is_file) k)) ∙ heard.0.is) are in
    counts_one (own ∷ rest) written rest (λ k. same k ∷ rest) says

pub planned_is_accepted : PlannedIsAccepted
planned_is_accepted = record {
  unfit = λ files line calls text plan is none answers. no_plan line answers.records text plan is none answers.says;
  silent = λ files line calls answers. never_silent line answers.records answers.says;
  unfit_marked = λ front name back claim claims none said. never_fitting front name back claim claims none said;
  unmarked = λ front name back claim plan claims is unmarked said. never_unmarked front name back claim plan claims is unmarked said;
  refused = λ files calls calls_text written is_file are answers. never_refused files calls calls_text answers.records written is_file are answers.are_calls answers.says;
  missing = λ files line calls status written missing answers. not_there files calls answers.records missing answers.are_calls;
}
