-- What a text of recorded calls is read as, or its fault. (own)
use Rattle.std.specs.Prelude.{◌==◌, ◌+◌, ◌-◌, ◌^◌, ◌&&◌, ℕ, Bool, true, false, nat_le, List, [], ◌∷◌, ◌++◌, codes, Option, Some, None, Result, Ok, Err, option_map, option_and_then, if◌then◌else◌}
use Rattle.std.specs.Str.{bytes_eq}
use Rattle.rights.specs.Calls.{Call}
use Rattle.texts.specs.Bytes.{space}
use Rattle.texts.specs.Lines.{Line as TextLine, lines_of}
use Rattle.texts.specs.Numbers.{at_most, number_of}
use Rattle.texts.specs.Parts.{parts}
use Rattle.records.specs.Calls.{RealOperand, Number, Path, Flags, Rights, Commands, Directory, OperandKind, A_number, A_path, Open_flags, A_right_set, A_command_set, A_choice}
use Rattle.records.specs.Calls.{RecordedOutcome, Succeeds, Fails, Binding, Is_place, Is_end, MadeCall, WantedRight, LeftOut}
use Rattle.records.specs.Calls.{RecordedEvent, Called, Ended, Omitted, RecordSpan, RecordEntry, RecordedCalls, is_call_name, operand_kinds}
use Rattle.records.specs.Named.{call_of_word, error_of_word, reason_of_word}
use Rattle.call_facts.specs.Sets.{command_rows, request_of_word, right_rows, set_of_list}
use Rattle.records.specs.Quoted.{unquoted}
use Rattle.records.specs.Texts.{descriptor_sign, counts_line, entry_text, calls_first_line}

-- FIELDS: what words begin with, and the words behind it, or None where they are wrong.

infixl 10 ◌>>=◌
abbrev pub ◌>>=◌ : {A B : Type 0} → Option A → (A → Option B) → Option B
o >>= f = option_and_then f o

abbrev pub Words : Type 0
Words = List (List ℕ)

abbrev pub WordField : Type 0 → Type 0
WordField A = Words → Option (A × Words)

-- a field of one word
abbrev pub one_word_at : {A : Type 0} → (List ℕ → Option A) → WordField A
one_word_at read [] = None
one_word_at read (word ∷ words) = option_map (λ a. (a, words)) (read word)

abbrev pub read_number : List ℕ → Option ℕ
read_number word = at_most (2 ^ 32 - 1) (number_of word)

unfoldable pub real_number_at : WordField ℕ
real_number_at words = one_word_at read_number words

-- the word `dir`, or nothing
unfoldable pub choice_at : Words → Bool × Words
choice_at [] = (false, [])
choice_at (word ∷ words) = if bytes_eq word (codes "dir") then (true, words) else (false, word ∷ words)

unfoldable pub real_operand_at : OperandKind → WordField RealOperand
real_operand_at A_number words = one_word_at (λ word. option_map Number (read_number word)) words
real_operand_at A_path words = one_word_at (λ word. option_map Path (unquoted word)) words
real_operand_at Open_flags words = one_word_at (λ word. option_map Flags (request_of_word word)) words
real_operand_at A_right_set words = one_word_at (λ word. Some (Rights (set_of_list right_rows word))) words
real_operand_at A_command_set words = one_word_at (λ word. Some (Commands (set_of_list command_rows word))) words
real_operand_at A_choice words = let choice = choice_at words in Some (Directory choice.0, choice.1)

-- operands of these kinds, behind those that are read
abbrev pub operands_from : List OperandKind → List RealOperand → Words → Option (List RealOperand × Words)
operands_from [] operands words = Some (operands, words)
operands_from (kind ∷ kinds) operands words = do
  operand ← real_operand_at kind words
  operands_from kinds (operands ++ operand.0 ∷ []) operand.1

unfoldable pub operands_at : Call → WordField (List RealOperand)
operands_at call words = operands_from (operand_kinds call) [] words

unfoldable pub outcome_at : WordField RecordedOutcome
outcome_at [] = None
outcome_at (mark ∷ words) =
    if bytes_eq mark (codes "=") then one_word_at (λ word. option_map Succeeds (read_number word)) words
    else if bytes_eq mark (codes "!") then one_word_at (λ word. option_map Fails (error_of_word word)) words
    else None

-- BINDINGS, behind those that are read: a word at a time.

-- what is awaited: a binding or the amount of bytes; what a descriptor is; its pair; its side of the pair; the amount; nothing
pub data Awaited : Type 0 where
  Next : Awaited
  What : (descriptor : ℕ) → Awaited
  Pair : (descriptor : ℕ) → Awaited
  Side : (descriptor pair : ℕ) → Awaited
  Amount : Awaited
  Nothing : (bytes : ℕ) → Awaited

-- what a word does: it leads on, it completes a binding, or it may not stand there
pub data BindingStep : Type 0 where
  Awaits : (awaited : Awaited) → BindingStep
  Binds : (binding : Binding) → BindingStep
  Refuses : BindingStep

abbrev pub descriptor_of_word : List ℕ → Option ℕ
descriptor_of_word [] = None
descriptor_of_word (b ∷ word) = if b == descriptor_sign then read_number word else None

abbrev pub end_side_of_word : List ℕ → Option ℕ
end_side_of_word word = if bytes_eq word (codes "a") then Some 0 else if bytes_eq word (codes "b") then Some 1 else None

abbrev pub step_with : {A : Type 0} → (A → BindingStep) → Option A → BindingStep
step_with f None = Refuses
step_with f (Some a) = f a

unfoldable pub binding_step : Awaited → List ℕ → BindingStep
binding_step Next word =
    if bytes_eq word (codes "bytes") then Awaits Amount else step_with (λ descriptor. Awaits (What descriptor)) (descriptor_of_word word)
binding_step (What descriptor) word =
    if bytes_eq word (codes "sock") then Awaits (Pair descriptor) else step_with (λ place. Binds (Is_place descriptor place)) (unquoted word)
binding_step (Pair descriptor) word = step_with (λ pair. Awaits (Side descriptor pair)) (read_number word)
binding_step (Side descriptor pair) word = step_with (λ side. Binds (Is_end descriptor pair side)) (end_side_of_word word)
binding_step Amount word = step_with (λ bytes. Awaits (Nothing bytes)) (read_number word)
binding_step (Nothing bytes) word = Refuses

abbrev pub Bindings : Type 0
Bindings = List Binding × Option ℕ

abbrev pub bound : List Binding → Awaited → Option Bindings
bound bindings Next = Some (bindings, None)
bound bindings (Nothing bytes) = Some (bindings, Some bytes)
bound bindings _ = None

abbrev pub after_step : BindingStep → List Binding → (List Binding → Awaited → Option Bindings) → Option Bindings
after_step (Awaits awaited) bindings rest = rest bindings awaited
after_step (Binds binding) bindings rest = rest (bindings ++ binding ∷ []) Next
after_step Refuses bindings rest = None

abbrev pub bindings_from : Words → List Binding → Awaited → Option Bindings
bindings_from [] bindings awaited = bound bindings awaited
bindings_from (word ∷ words) bindings awaited = after_step (binding_step awaited word) bindings (bindings_from words)

unfoldable pub bindings_of : Words → Option Bindings
bindings_of words = bindings_from words [] Next

-- ENTRIES

unfoldable pub made_of : Call → Words → Option MadeCall
made_of call words = do
  operands ← operands_at call words
  outcome ← outcome_at operands.1
  bindings ← bindings_of outcome.1
  Some (record { call = call; operands = operands.0; outcome = outcome.0; bindings = bindings.0; bytes = bindings.1 })

abbrev pub read_word : List ℕ → Option (List ℕ)
read_word word = if is_call_name word then Some word else None

-- nothing stands behind it
abbrev pub with_no_more : {A : Type 0} → A → Words → Option A
with_no_more a [] = Some a
with_no_more a (word ∷ words) = None

-- a right and a descriptor, or nothing; nothing stands behind them
unfoldable pub wanted_of : Words → Option (Option WantedRight)
wanted_of [] = Some None
wanted_of (right ∷ words) = do
  name ← read_word right
  descriptor ← real_number_at words
  with_no_more (Some (record { right = name; descriptor = descriptor.0 })) descriptor.1

unfoldable pub left_out_of : Words → Option LeftOut
left_out_of words = do
  reason ← one_word_at reason_of_word words
  name ← one_word_at read_word reason.1
  wanted ← wanted_of name.1
  Some (record { reason = reason.0; name = name.0; wanted = wanted })

unfoldable pub recorded_event_of : Words → Option RecordedEvent
recorded_event_of [] = None
recorded_event_of (word ∷ words) =
    if bytes_eq word (codes "-") then option_map Omitted (left_out_of words)
    else if bytes_eq word (codes "exit") then with_no_more Ended words
    else option_map Called (option_and_then (λ call. made_of call words) (call_of_word word))

unfoldable pub record_span_at : WordField RecordSpan
record_span_at words = do
  first ← real_number_at words
  last ← real_number_at first.1
  if nat_le first.0 last.0 then Some (record { first = first.0; last = last.0 }, last.1) else None

unfoldable pub entry_of_words : Words → Option RecordEntry
entry_of_words words = do
  span ← record_span_at words
  process ← real_number_at span.1
  event ← recorded_event_of process.1
  Some (record { span = span.0; process = process.0; event = event })

-- a line is an entry's if it is that entry's text
abbrev pub if_text : List ℕ → RecordEntry → Option RecordEntry
if_text text entry = if bytes_eq (entry_text entry) text then Some entry else None

unfoldable pub entry_of_text : List ℕ → Option RecordEntry
entry_of_text text = option_and_then (if_text text) (entry_of_words (parts space text))

-- TEXTS

-- What can be wrong: a line has no form that a line has there, or no line feed ends it; the last line's counts aren't those of
-- the lines before it; there is no last line; something stands behind it.
pub data Mistake : Type 0 where
  Form : Mistake
  Counts : Mistake
  NoEnd : Mistake
  Behind : Mistake

-- the first mistake, and its line, counted from 1
pub record Fault : Type 0 where
  pub mistake : Mistake
  pub line : ℕ

abbrev pub CallsReading : Type 0
CallsReading = Result RecordedCalls Fault

abbrev pub faulty : Mistake → ℕ → CallsReading
faulty mistake line = Err (record { mistake = mistake; line = line })

-- a line that begins with `e` is the last one
abbrev pub is_counts_line : List ℕ → Bool
is_counts_line [] = false
is_counts_line (b ∷ text) = b == 101

-- behind the last line, which has this number, the text ends
abbrev pub ends_after : RecordedCalls → ℕ → List TextLine → CallsReading
ends_after calls number [] = Ok calls
ends_after calls number (line ∷ []) = if bytes_eq line.text [] then Ok calls else faulty Behind (number + 1)
ends_after calls number (line ∷ next ∷ lines) = faulty Behind (number + 1)

unfoldable pub read_last : RecordedCalls → ℕ → List ℕ → List TextLine → CallsReading
read_last calls number text lines = if bytes_eq (counts_line calls) text then ends_after calls number lines else faulty Counts number

abbrev pub and_entry : RecordedCalls → ℕ → (RecordedCalls → CallsReading) → Option RecordEntry → CallsReading
and_entry calls number rest None = faulty Form number
and_entry calls number rest (Some entry) = rest (calls ++ entry ∷ [])

-- the lines behind those of some calls, of which the last has this number
unfoldable pub calls_after : List TextLine → ℕ → RecordedCalls → CallsReading
calls_after [] number calls = faulty NoEnd number
calls_after (line ∷ lines) number calls =
    if line.is_ended
    then (
    if is_counts_line line.text then read_last calls (number + 1) line.text lines
    else and_entry calls (number + 1) (calls_after lines (number + 1)) (entry_of_text line.text)
    )
    else (if bytes_eq line.text [] then faulty NoEnd (number + 1) else faulty Form (number + 1))

abbrev pub calls_of_lines : List TextLine → CallsReading
calls_of_lines [] = faulty Form 1
calls_of_lines (line ∷ lines) = if line.is_ended && bytes_eq line.text calls_first_line then calls_after lines 1 [] else faulty Form 1

unfoldable pub calls_of_text : List ℕ → CallsReading
calls_of_text text = calls_of_lines (lines_of text)
