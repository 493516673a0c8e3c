-- Whether a record is one of one run.
use Rattle.std.proofs.Common.{◌≡◌, ℕ, true, false, List, [], ◌∷◌, length, refl, inl, inr, ap, subst, sym, ◌∙◌}
use Rattle.std.specs.Prelude.{Some, None}
use Rattle.records.specs.Calls.{RecordedCalls, are_calls}
use Rattle.records.specs.Runs.{another_run}
use Rattle.records.specs.LineAccounts.{AreQuiet, ListTheOthers}
use Rattle.records.specs.Texts.{calls_text}
use Rattle.texts.specs.Lines.{lines_of}
use Rattle.answers.specs.Answered.{IsOfOneRun, SaysCalls, SaysWhether, has_calls}

pub one_run : (calls : RecordedCalls) (misread : List ℕ) → misread ≡ [] → has_calls calls ≡ true → another_run calls ≡ None
    → SaysWhether 0 (IsOfOneRun calls misread)
one_run calls misread understood heard alone = inl (refl, record { understood = understood; heard = heard; alone = alone })

pub no_call : (calls : RecordedCalls) (misread : List ℕ) → has_calls calls ≡ false → SaysWhether 1 (IsOfOneRun calls misread)
no_call calls misread none = inr (refl, λ is. let clash = sym none ∙ is.heard in cc)

pub misread_line : (calls : RecordedCalls) (line : ℕ) (misread : List ℕ) → SaysWhether 1 (IsOfOneRun calls (line ∷ misread))
misread_line calls line misread = inr (refl, λ is. let clash = is.understood in cc)

pub joined : (calls : RecordedCalls) (misread : List ℕ) (line : ℕ) → another_run calls ≡ Some line → SaysWhether 1 (IsOfOneRun calls misread)
joined calls misread line another = inr (refl, λ is. let clash = is.alone in cc)

-- what is said of a record's calls, by those that are written and those that are asked
pub said : (record_text : List ℕ) (status : ℕ) (calls written asked : RecordedCalls) (misread lines silent text : List ℕ) → are_calls calls ≡ true
    → ListTheOthers (length (lines_of record_text)) calls misread silent → AreQuiet (lines_of record_text) silent → text ≡ calls_text written → written ≡ calls → asked ≡ calls → lines ≡ misread
    → SaysWhether status (IsOfOneRun asked lines) → SaysCalls record_text status text
said record_text status calls written asked misread lines silent text within others quiet is same_written same_asked same_lines says = record {
  calls = calls;
  within = within;
  misread = misread;
  silent = silent;
  others = others;
  quiet = quiet;
  is_text = is ∙ ap calls_text same_written;
  says =
      subst (λ (ls : List ℕ). SaysWhether status (IsOfOneRun calls ls)) same_lines
      (subst (λ (cs : RecordedCalls). SaysWhether status (IsOfOneRun cs lines)) same_asked says);
}
