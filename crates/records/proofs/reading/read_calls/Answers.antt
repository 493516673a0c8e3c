use Rattle.std.proofs.Common.{◌≡◌, ℕ, List, true, subst}
use Rattle.std.specs.Prelude.{IfOk, Result, Ok, Err}
use Rattle.records.specs.CallsViews.{ReadsCalls}
use Rattle.records.specs.Calls.{RecordedCalls, are_calls}
use Rattle.records.specs.EntryViews.{calls_seen}
use Rattle.records.specs.Readings.{calls_of_lines, calls_of_text}
use Rattle.records.specs.Texts.{calls_text}
use Rattle.records.specs.declared.faults.CallsFault.{CallsFault}
use Rattle.records.proofs.Limits.{text-fits}
use Rattle.records.proofs.OneSpelling.{text-read}
use Rattle.records.proofs.reading.read_calls.Goals as goal

-- bytes that are read as some calls are their text, and these are within the limits
record IsRead {A : Type 0} (view : A → RecordedCalls) (text : List ℕ) (r : Result A CallsFault) : Type 0 where
  spelled : IfOk r (λ a. calls_text (view a) ≡ text)
  within : IfOk r (λ a. are_calls (view a) ≡ true)

is_read : {A : Type 0} (view : A → RecordedCalls) (text : List ℕ) (r : Result A CallsFault) → ReadsCalls view r (calls_of_text text) → IsRead view text r
is_read view text (Ok a) reads = record { spelled = text-read text (view a) reads; within = text-fits text (view a) reads }
is_read view text (Err fault) reads = record { spelled = tt; within = tt }

pub returns-clause-one_spelling : goal.returns-clause-one_spelling
unfolding calls_of_text
returns-clause-one_spelling c =
    (is_read (λ entries. calls_seen entries.items) c.args.bytes.now c.read_lines.result
    (subst (λ lines. ReadsCalls (λ entries. calls_seen entries.items) c.read_lines.result (calls_of_lines lines)) c.new.ensures.lines c.read_lines.ensures)).spelled

pub returns-clause-within_limits : goal.returns-clause-within_limits
unfolding calls_of_text
returns-clause-within_limits c =
    (is_read (λ entries. calls_seen entries.items) c.args.bytes.now c.read_lines.result
    (subst (λ lines. ReadsCalls (λ entries. calls_seen entries.items) c.read_lines.result (calls_of_lines lines)) c.new.ensures.lines c.read_lines.ensures)).within
