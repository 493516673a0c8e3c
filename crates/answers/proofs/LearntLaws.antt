-- What is said of a task that was learnt, by what its parts say.
use Rattle.std.proofs.Common.{◌≡◌, ◌≤◌, ℕ, Bool, true, false, List, [], ◌∷◌, ◌++◌, drop, map, length, refl, ap, subst, sym, ◌∙◌, inl, inr}
use Rattle.std.proofs.lemmas.List.{append-nil, drop_all}
use Rattle.std.specs.Prelude.{◌⊎◌, ◌&&◌, None, Ok, Option, Some}
use Rattle.std.specs.List.{flat_map, list_all}
use Rattle.console.specs.Files.{Files}
use Rattle.follow.specs.Excused.{are_excused, tallied}
use Rattle.follow.specs.Places.{Placing}
use Rattle.follow.specs.Shows.{IsShown, Witness}
use Rattle.records.specs.Calls.{RecordedCalls}
use Rattle.records.specs.Readings.{calls_of_text}
use Rattle.task.specs.Plans.{Plan}
use Rattle.task_reader.specs.Reading.{task_of}
use Rattle.answers.specs.Learnt.{AreCalls, AreShown, Run, SaysLearnt, SaysShownBy, StandsIn, WritesNothing, WritesTask, calls_in, has_excuses, placings_text, run_text}
use Rattle.answers.specs.NoAnswers.{LearntIsFollowed}
use Rattle.answers.proofs.NoAnswerLaws.{same_ok, same_some}

cons-head : {A : Type 0} {x y : A} {xs ys : List A} → x ∷ xs ≡ y ∷ ys → x ≡ y
cons-head same = cc

and-first : (a b : Bool) → (a && b) ≡ true → a ≡ true
and-first true b is = refl
and-first false b is = is

-- Behind the last file nothing is left to read.
pub all_read : {A : Type 0} (files : Files) (bytes : A → List ℕ) (names : List A) (i : ℕ) (records : List RecordedCalls) → length names ≤ i
    → ((rest : List RecordedCalls) → AreCalls files (map bytes (drop i names)) rest → AreCalls files (map bytes names) (records ++ rest))
    → AreCalls files (map bytes names) records
all_read {A = A} files bytes names i records end read =
    let left : AreCalls files (map bytes (drop i names)) [] = subst (λ (ns : List A). AreCalls files (map bytes ns) []) (sym (drop_all i names end)) tt in
    subst (λ (rs : List RecordedCalls). AreCalls files (map bytes names) rs) (append-nil records) (read [] left)

pub all_shown : (plan : Plan) (placings : List Placing) (runs : List Run) (text lines written : List ℕ) → task_of written ≡ Ok plan → AreShown plan placings runs
    → list_all (has_excuses placings) runs ≡ true → StandsIn (placings_text placings) text → lines ≡ flat_map (run_text placings) runs → written ≡ text ++ lines
    → WritesTask (map calls_in runs) 0 written
all_shown plan placings runs text lines written is shown excused says told whole = record {
  plan = plan;
  is_task = is;
  says = inl (
    refl,
    record {
      placings = placings;
      runs = runs;
      are_records = refl;
      shown = shown;
      excused = excused;
      text = text;
      says = says;
      is_text = whole ∙ ap (λ ls. text ++ ls) told;
    },
  );
}

pub some_skipped : (plan : Plan) (records : List RecordedCalls) (written : List ℕ) → task_of written ≡ Ok plan → WritesTask records 1 written
some_skipped plan records written is = record { plan = plan; is_task = is; says = inr refl }

pub one_lost : (records : List RecordedCalls) (text : List ℕ) (plan : Plan) → task_of text ≡ Ok plan → WritesTask records 1 text
one_lost records text plan is = record { plan = plan; is_task = is; says = inr refl }

pub learnt : (files : Files) (names : List (List ℕ)) (records : List RecordedCalls) (status : ℕ) (text : List ℕ) → AreCalls files names records
    → WritesTask records status text → SaysLearnt files names status text
learnt files names records status text are writes = record { records = records; are_calls = are; says = inl writes }

pub nothing_learnt : (files : Files) (names : List (List ℕ)) (records : List RecordedCalls) (status : ℕ) (text : List ℕ) → AreCalls files names records
    → WritesNothing status text → SaysLearnt files names status text
nothing_learnt files names records status text are says = record { records = records; are_calls = are; says = inr says }

-- ## What is no answer
not_shown : (plan : Plan) (heard recorded : RecordedCalls) (placings : List Placing) (runs : List Run) (rest : List RecordedCalls) → heard ≡ recorded
    → map calls_in runs ≡ heard ∷ rest → AreShown plan placings runs → list_all (has_excuses placings) runs ≡ true
    → ((plan : Plan) (placings : List Placing) (witness : Witness) → IsShown plan placings recorded witness
    → are_excused (tallied placings recorded witness.moves) ≡ true → ⊥) → ⊥
not_shown plan heard recorded placings [] rest same are shown excused none = let clash = are in cc
not_shown plan heard recorded placings (run ∷ runs) rest same are shown excused none =
    let is : run.calls ≡ recorded = cons-head are ∙ same in
    let own = subst (λ (calls : RecordedCalls). IsShown plan placings calls run.witness × (are_excused (tallied placings calls run.witness.moves) ≡ true)) is
    (shown.0, and-first (has_excuses placings run) (list_all (has_excuses placings) runs) excused) in
    none plan placings run.witness own.0 own.1

not_followed : (plan : Plan) (heard recorded : RecordedCalls) (rest : List RecordedCalls) (written : List ℕ) → heard ≡ recorded
    → ((plan : Plan) (placings : List Placing) (witness : Witness) → IsShown plan placings recorded witness
    → are_excused (tallied placings recorded witness.moves) ≡ true → ⊥) → SaysShownBy plan (heard ∷ rest) 0 written → ⊥
not_followed plan heard recorded rest written same none (inl says) =
    not_shown plan heard recorded says.1.placings says.1.runs rest same says.1.are_records says.1.shown says.1.excused none
not_followed plan heard recorded rest written same none (inr says) = cc

not_learnt : (files : List ℕ → Option (List ℕ)) (calls calls_text : List ℕ) (recorded : RecordedCalls) (records : List RecordedCalls) (written : List ℕ)
    → files calls ≡ Some calls_text → calls_of_text calls_text ≡ Ok recorded
    → ((plan : Plan) (placings : List Placing) (witness : Witness) → IsShown plan placings recorded witness
    → are_excused (tallied placings recorded witness.moves) ≡ true → ⊥)
    → AreCalls (Some files) (calls ∷ []) records → WritesTask records 0 written ⊎ WritesNothing 0 written → ⊥
not_learnt files calls calls_text recorded [] written is_file are none heard says = absurd heard
not_learnt files calls calls_text recorded (own ∷ rest) written is_file are none heard (inl writes) =
    let same : own ≡ recorded =
    same_ok (calls_of_text calls_text) (sym (λ k. calls_of_text (same_some (sym heard.0.file ∙ is_file) k)) ∙ heard.0.is) are in
    not_followed writes.plan own recorded rest written same none writes.says
not_learnt files calls calls_text recorded (own ∷ rest) written is_file are none heard (inr says) = let clash = says.0 in cc

pub not_there : (files : List ℕ → Option (List ℕ)) (calls : List ℕ) (records : List RecordedCalls) → files calls ≡ None → AreCalls (Some files) (calls ∷ []) records → ⊥
not_there files calls [] missing heard = absurd heard
not_there files calls (own ∷ rest) missing heard = let clash = sym missing ∙ heard.0.file in cc

pub learnt_is_followed : LearntIsFollowed
learnt_is_followed = record {
  unshown = λ files calls calls_text recorded written is_file are none answers.
      not_learnt files calls calls_text recorded answers.records written is_file are none answers.are_calls answers.says;
  missing = λ files calls status written missing answers. not_there files calls answers.records missing answers.are_calls;
}
