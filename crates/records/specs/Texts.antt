-- The text of recorded calls: `capcalls 1`, a line for each entry, and `end` with the counts. One space stands between words, and
-- each line ends with a line feed. (own)
use Rattle.std.specs.Prelude.{◌-◌, ◌^◌, ℕ, zero, suc, Bool, true, false, min, count_by, List, [], ◌∷◌, ◌++◌, codes, Option, Some, None, is_some}
use Rattle.std.specs.Fmt.{decimal}
use Rattle.std.specs.List.{flat_map}
use Rattle.rights.specs.Calls.{call_name}
use Rattle.rights.specs.Errors.{errno_name}
use Rattle.rights.specs.Values.{SideNumber}
use Rattle.texts.specs.Bytes.{line_feed, space}
use Rattle.texts.specs.Parts.{joined}
use Rattle.records.specs.Calls.{RealOperand, Number, Path, Flags, Rights, Commands, Directory, RecordedOutcome, Succeeds, Fails, Binding, Is_place, Is_end, MadeCall}
use Rattle.records.specs.Calls.{Reason, Loader, Quiet, Global, Right, Unknown, Name, WantedRight, LeftOut, RecordedEvent, Called, Ended, Omitted, RecordEntry, RecordedCalls}
use Rattle.records.specs.Named.{all_reasons, reason_name}
use Rattle.call_facts.specs.Sets.{command_rows, flag_rows, flag_set, right_rows, set_word}
use Rattle.records.specs.Quoted.{quoted}

-- WORDS

-- the byte `@`
abbrev pub descriptor_sign : ℕ
descriptor_sign = 64

abbrev pub operand_words : RealOperand → List (List ℕ)
operand_words (Number number) = decimal number ∷ []
operand_words (Path path) = quoted path ∷ []
operand_words (Flags flags) = set_word flag_rows (flag_set flags) ∷ []
operand_words (Rights rights) = set_word right_rows rights ∷ []
operand_words (Commands commands) = set_word command_rows commands ∷ []
operand_words (Directory true) = codes "dir" ∷ []
operand_words (Directory false) = []

abbrev pub outcome_words : RecordedOutcome → List (List ℕ)
outcome_words (Succeeds answer) = codes "=" ∷ decimal answer ∷ []
outcome_words (Fails error) = codes "!" ∷ errno_name error ∷ []

-- a is 0 and b is 1
abbrev pub end_side_word : SideNumber → List ℕ
end_side_word zero = codes "a"
end_side_word (suc n) = codes "b"

abbrev pub binding_words : Binding → List (List ℕ)
binding_words (Is_place descriptor place) = (descriptor_sign ∷ decimal descriptor) ∷ quoted place ∷ []
binding_words (Is_end descriptor pair side) = (descriptor_sign ∷ decimal descriptor) ∷ codes "sock" ∷ decimal pair ∷ end_side_word side ∷ []

abbrev pub amount_words : Option ℕ → List (List ℕ)
amount_words None = []
amount_words (Some bytes) = codes "bytes" ∷ decimal bytes ∷ []

abbrev pub made_words : MadeCall → List (List ℕ)
made_words made =
    call_name made.call
    ∷ (flat_map operand_words made.operands ++ (outcome_words made.outcome ++ (flat_map binding_words made.bindings ++ amount_words made.bytes)))

abbrev pub wanted_words : Option WantedRight → List (List ℕ)
wanted_words None = []
wanted_words (Some wanted) = wanted.right ∷ decimal wanted.descriptor ∷ []

abbrev pub left_out_words : LeftOut → List (List ℕ)
left_out_words left_out = codes "-" ∷ reason_name left_out.reason ∷ left_out.name ∷ wanted_words left_out.wanted

abbrev pub event_words : RecordedEvent → List (List ℕ)
event_words (Called made) = made_words made
event_words Ended = codes "exit" ∷ []
event_words (Omitted left_out) = left_out_words left_out

abbrev pub entry_words : RecordEntry → List (List ℕ)
entry_words entry = decimal entry.span.first ∷ decimal entry.span.last ∷ decimal entry.process ∷ event_words entry.event

-- words, each behind a space
abbrev pub after_spaces : List (List ℕ) → List ℕ
after_spaces words = flat_map (λ word. space ∷ word) words

-- the text of a line, without its line feed
unfoldable pub entry_text : RecordEntry → List ℕ
entry_text entry = joined space (entry_words entry)

-- COUNTS

abbrev pub has_call : RecordedEvent → Bool
has_call (Called made) = true
has_call _ = false

abbrev pub is_same : Reason → Reason → Bool
is_same Loader Loader = true
is_same Quiet Quiet = true
is_same Global Global = true
is_same Right Right = true
is_same Unknown Unknown = true
is_same Name Name = true
is_same _ _ = false

-- whether it is left out for this reason
abbrev pub is_left_out : Reason → RecordedEvent → Bool
is_left_out reason (Omitted left_out) = is_same left_out.reason reason
is_left_out reason _ = false

-- whether a right is wanted for it
abbrev pub wants_right : RecordedEvent → Bool
wants_right (Omitted left_out) = is_some left_out.wanted
wants_right _ = false

-- how many entries have such an event; a number that 32 bits don't hold stands as the greatest that they do
abbrev pub count : (RecordedEvent → Bool) → RecordedCalls → ℕ
count is calls = min (count_by (λ entry. is entry.event) calls) (2 ^ 32 - 1)

-- a word and a number, behind a space
abbrev pub counted_text : List ℕ → ℕ → List ℕ
counted_text word n = space ∷ (word ++ space ∷ decimal n)

-- the last line: how many calls there are, how many are left out for each reason, and for how many a right is wanted
unfoldable pub counts_line : RecordedCalls → List ℕ
counts_line calls =
    codes "end"
    ++ (counted_text (codes "calls") (count has_call calls)
    ++ (flat_map (λ reason. counted_text (reason_name reason) (count (is_left_out reason) calls)) all_reasons ++ counted_text (codes "rights") (count wants_right calls)))

-- LINES

abbrev pub calls_first_line : List ℕ
calls_first_line = codes "capcalls 1"

abbrev pub line_with_feed : List ℕ → List ℕ
line_with_feed text = text ++ line_feed ∷ []

abbrev pub calls_text : RecordedCalls → List ℕ
calls_text calls = line_with_feed calls_first_line ++ (flat_map (λ entry. line_with_feed (entry_text entry)) calls ++ line_with_feed (counts_line calls))
