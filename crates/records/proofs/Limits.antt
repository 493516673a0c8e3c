-- What is read is within the limits.
use Rattle.std.proofs.Common.{◌≡◌, ℕ, ◌+◌, ◌^◌, ◌≤◌, Bool, true, false, not, cond, List, [], ◌∷◌, ◌++◌, refl, ap, sym, ◌∙◌, append_assoc, append-nil, leb-true, lt-ltb, arith}
use Rattle.std.specs.Prelude.{◌==◌, ◌&&◌, codes, nat_le, nat_lt, Option, Some, None, Ok, option_map, option_and_then}
use Rattle.std.specs.List.{list_all}
use Rattle.std.specs.Str.{bytes_eq}
use Rattle.std.proofs.lemmas.Bool.{and_from, and_parts}
use Rattle.std.proofs.lemmas.List.Folds.{list_all-append}
use Rattle.rights.specs.Calls.{Call}
use Rattle.rights.specs.Opens.{OpenRequest, is_valid}
use Rattle.texts.specs.Hex.{hex_of}
use Rattle.texts.specs.Lines.{Line as TextLine, lines_of}
use Rattle.texts.specs.Numbers.{at_most, number_of}
use Rattle.texts.specs.Parts.{parts}
use Rattle.texts.proofs.HexTexts.{hex-text}
use Rattle.records.specs.Calls.{RealOperand, Number, Path, Flags, Rights, Commands, OperandKind, A_number, A_path, Open_flags, A_right_set, A_command_set, A_choice}
use Rattle.records.specs.Calls.{RecordedOutcome, Succeeds, Fails, Binding, Is_place, Is_end, MadeCall, WantedRight}
use Rattle.records.specs.Calls.{LeftOut, RecordedEvent, Called, Ended, Omitted, RecordSpan, RecordEntry, RecordedCalls, operand_kinds}
use Rattle.records.specs.Calls.{are_calls, are_of_kinds, is_amount, is_binding, is_call_name, is_entry, is_event}
use Rattle.records.specs.Calls.{is_made, is_of_kind, is_outcome, is_real_number, is_real_operand, is_span, is_text, is_wanted}
use Rattle.records.specs.Named.{call_of_word, error_of_word, reason_of_word}
use Rattle.records.specs.Quoted.{QuoteProgress, Before, Within, Escaped, Lettered, Halfway, Behind, QuoteEffect, Leads}
use Rattle.records.specs.Quoted.{Gives, Stops, effect, given_byte, going, is_plain, unquoted, unquoted_from}
use Rattle.call_facts.specs.Sets.{Row, bits_named, command_rows, flag_rows, has_word, plain_rows, request_of_set, request_of_word, right_rows, set_of_list}
use Rattle.records.specs.Readings.{◌>>=◌, Words, Awaited, Next, What, Pair, Side, Amount, Nothing}
use Rattle.records.specs.Readings.{BindingStep, Awaits, Binds, Refuses, Bindings, after_step, and_entry, binding_step, bindings_from, bindings_of}
use Rattle.records.specs.Readings.{Counts, Form, NoEnd, calls_after, calls_of_lines, calls_of_text, descriptor_of_word, end_side_of_word}
use Rattle.records.specs.Readings.{ends_after, entry_of_text, entry_of_words, faulty, if_text, is_counts_line, left_out_of, made_of, one_word_at}
use Rattle.records.specs.Readings.{operands_at, operands_from, outcome_at, read_last, read_number, read_word}
use Rattle.records.specs.Readings.{real_number_at, real_operand_at, record_span_at, recorded_event_of, step_with, wanted_of, with_no_more}
use Rattle.records.specs.Readings as mistakes
use Rattle.records.specs.Texts.{calls_first_line, counts_line, entry_text}

-- WHAT A READING CAME THROUGH

then-is : {A B : Type 0} (o : Option A) (f : A → Option B) (b : B) → o >>= f ≡ Some b → (a : A) × ((o ≡ Some a) × (f a ≡ Some b))
then-is None f b is = absurd cc
then-is (Some a) f b is = (a, (refl, is))

map-is : {A B : Type 0} (f : A → B) (o : Option A) (b : B) → option_map f o ≡ Some b → (a : A) × ((o ≡ Some a) × (f a ≡ b))
map-is f None b is = absurd cc
map-is f (Some a) b is = (a, (refl, cc))

some-is : {A : Type 0} {a b : A} → Some a ≡ Some b → a ≡ b
some-is is = cc

-- a field of one word was read of a word
abbrev beside : {A : Type 0} → Words → A → A × Words
beside words a = (a, words)

word-is : {A : Type 0} (read : List ℕ → Option A) (words : Words) (field : A × Words) → one_word_at read words ≡ Some field → (word : List ℕ) × (read word ≡ Some field.0)
word-is read [] field is = absurd cc
word-is {A = A} read (word ∷ words) field is = let a = map-is (beside words) (read word) field is in (word, a.1.0 ∙ ap (λ (f : A × Words). Some f.0) a.1.1)

-- WORDS

most-number : (o : Option ℕ) (n : ℕ) → at_most 4294967295 o ≡ Some n → is_real_number n ≡ true
most-number None n is = absurd cc
most-number (Some m) n is = go (nat_le m 4294967295) refl is
  where
    go : (small : Bool) → nat_le m 4294967295 ≡ small → cond small (Some m) None ≡ Some n → is_real_number n ≡ true
    go true small is =
        let same : m ≡ n = cc in
        let below = leb-true m 4294967295 small in
        lt-ltb n (2 ^ 32) (omega (arith, below, same))
    go false small is = absurd cc

number-fits : (word : List ℕ) (n : ℕ) → read_number word ≡ Some n → is_real_number n ≡ true
number-fits word n is = most-number (number_of word) n is

number-at-fits : (words : Words) (field : ℕ × Words) → real_number_at words ≡ Some field → is_real_number field.0 ≡ true
unfolding real_number_at
number-at-fits words field is = let word = word-is read_number words field is in number-fits word.0 field.0 word.1

name-is : (word name : List ℕ) → read_word word ≡ Some name → is_call_name name ≡ true
name-is word name is = go (is_call_name word) refl is
  where
    go : (ok : Bool) → is_call_name word ≡ ok → cond ok (Some word) None ≡ Some name → is_call_name name ≡ true
    go true ok is = let same : word ≡ name = cc in ap is_call_name (sym same) ∙ ok
    go false ok is = absurd cc

flags-are : (word : List ℕ) (request : OpenRequest) → request_of_word word ≡ Some request → is_valid request ≡ true
unfolding request_of_word
flags-are word request is = go (request_of_set (set_of_list flag_rows word)) (is_valid (request_of_set (set_of_list flag_rows word))) refl is
  where
    go : (r : OpenRequest) (ok : Bool) → is_valid r ≡ ok → cond ok (Some r) None ≡ Some request → is_valid request ≡ true
    go r true ok is = let same : r ≡ request = cc in ap is_valid (sym same) ∙ ok
    go r false ok is = absurd cc

-- a set has no more than the bits of its rows
abbrev all_bits : List Row → ℕ
all_bits [] = 0
all_bits (r ∷ rows) = r.bit + all_bits rows

few-bits : (rows : List Row) (words : List (List ℕ)) → bits_named rows words ≤ all_bits rows
few-bits [] words = omega arith
few-bits (r ∷ rows) words = go (has_word r.name words) (few-bits rows words)
  where
    go : (has : Bool) → bits_named rows words ≤ all_bits rows → cond has r.bit 0 + bits_named rows words ≤ r.bit + all_bits rows
    go true rest = omega (arith, rest)
    go false rest = omega (arith, rest)

pub rights_fit : (word : List ℕ) → nat_lt (set_of_list right_rows word) (2 ^ 46) ≡ true
unfolding set_of_list
rights_fit word = let few = few-bits right_rows (parts 44 word) in lt-ltb (bits_named right_rows (parts 44 word)) (2 ^ 46) (omega (arith, few))

pub plain_fit : (word : List ℕ) → nat_lt (set_of_list plain_rows word) (2 ^ 46) ≡ true
unfolding set_of_list
plain_fit word = let few = few-bits plain_rows (parts 44 word) in lt-ltb (bits_named plain_rows (parts 44 word)) (2 ^ 46) (omega (arith, few))

pub commands_fit : (word : List ℕ) → nat_lt (set_of_list command_rows word) (2 ^ 2) ≡ true
unfolding set_of_list
commands_fit word = let few = few-bits command_rows (parts 44 word) in lt-ltb (bits_named command_rows (parts 44 word)) (2 ^ 2) (omega (arith, few))

-- bytes in quotes
plain-small : (b : ℕ) → is_plain b ≡ true → nat_lt b 256 ≡ true
plain-small b is =
    let each = and_parts (nat_le 33 b && nat_le b 126 && not (b == 34)) (not (b == 92)) is in
    let front = and_parts (nat_le 33 b && nat_le b 126) (not (b == 34)) each.0 in
    let below = leb-true b 126 (and_parts (nat_le 33 b) (nat_le b 126) front.0).1 in
    lt-ltb b 256 (omega (arith, below))

gives-byte : (progress : QuoteProgress) (b n : ℕ) → effect progress b ≡ Gives n → nat_lt n 256 ≡ true
unfolding effect
gives-byte Before b n is = go (b == 34) is
  where
    go : (opens : Bool) → cond opens (Leads Within) Stops ≡ Gives n → nat_lt n 256 ≡ true
    go true is = absurd cc
    go false is = absurd cc
gives-byte Within b n is = go (b == 34) (b == 92) (is_plain b) refl is
  where
    go : (closes escapes plain : Bool) → is_plain b ≡ plain → cond closes (Leads Behind) (cond escapes (Leads Escaped) (cond plain (Gives b) Stops)) ≡ Gives n → nat_lt n 256 ≡ true
    go true escapes plain ok is = absurd cc
    go false true plain ok is = absurd cc
    go false false true ok is = let same : b ≡ n = cc in ap (λ m. nat_lt m 256) (sym same) ∙ plain-small b ok
    go false false false ok is = absurd cc
gives-byte Escaped b n is = go (b == 120) is
  where
    go : (letter : Bool) → cond letter (Leads Lettered) Stops ≡ Gives n → nat_lt n 256 ≡ true
    go true is = absurd cc
    go false is = absurd cc
gives-byte Lettered b n is = absurd cc
gives-byte (Halfway digit) b n is = go (hex_of 2 (digit ∷ b ∷ [])) refl is
  where
    go : (o : Option ℕ) → hex_of 2 (digit ∷ b ∷ []) ≡ o → given_byte o ≡ Gives n → nat_lt n 256 ≡ true
    go None read is = absurd cc
    go (Some m) read is = let same : m ≡ n = cc in let small = (hex-text 2 (digit ∷ b ∷ []) m read).1 in lt-ltb n 256 (omega (arith, small, same))
gives-byte Behind b n is = absurd cc

unquoted-fits : (word bytes : List ℕ) (progress : QuoteProgress) (text : List ℕ) → unquoted_from word bytes progress ≡ Some text → is_text bytes ≡ true → is_text text ≡ true
unquoted-fits [] bytes Behind text is are = let same : bytes ≡ text = cc in ap is_text (sym same) ∙ are
unquoted-fits [] bytes Before text is are = absurd cc
unquoted-fits [] bytes Within text is are = absurd cc
unquoted-fits [] bytes Escaped text is are = absurd cc
unquoted-fits [] bytes Lettered text is are = absurd cc
unquoted-fits [] bytes (Halfway digit) text is are = absurd cc
unquoted-fits (b ∷ word) bytes progress text is are =
    go (effect progress b) refl (λ next is. unquoted-fits word bytes next text is are) (λ n is small. unquoted-fits word (bytes ++ n ∷ []) Within text is (more n small)) is
  where
    more : (n : ℕ) → nat_lt n 256 ≡ true → is_text (bytes ++ n ∷ []) ≡ true
    more n small = list_all-append (λ byte. nat_lt byte 256) bytes (n ∷ []) ∙ and_from (is_text bytes) (nat_lt n 256 && true) are (and_from (nat_lt n 256) true small refl)

    go : (e : QuoteEffect) → effect progress b ≡ e → ((next : QuoteProgress) → unquoted_from word bytes next ≡ Some text → is_text text ≡ true)
        → ((n : ℕ) → unquoted_from word (bytes ++ n ∷ []) Within ≡ Some text → nat_lt n 256 ≡ true → is_text text ≡ true)
        → going e bytes (unquoted_from word) ≡ Some text → is_text text ≡ true
    go (Leads next) read leads gives is = leads next is
    go (Gives n) read leads gives is = gives n is (gives-byte progress b n read)
    go Stops read leads gives is = absurd cc

path-fits : (word path : List ℕ) → unquoted word ≡ Some path → is_text path ≡ true
unfolding unquoted
path-fits word path is = unquoted-fits word [] Before path is refl

-- OPERANDS AND OUTCOMES

operand-fits : (kind : OperandKind) (words : Words) (field : RealOperand × Words) → real_operand_at kind words ≡ Some field → (is_of_kind kind field.0 ≡ true) × (is_real_operand field.0 ≡ true)
unfolding real_operand_at
operand-fits A_number words field is =
    let word = word-is (λ word. option_map Number (read_number word)) words field is in
    let n = map-is Number (read_number word.0) field.0 word.1 in
    (ap (is_of_kind A_number) (sym n.1.1), ap is_real_operand (sym n.1.1) ∙ number-fits word.0 n.0 n.1.0)
operand-fits A_path words field is =
    let word = word-is (λ word. option_map Path (unquoted word)) words field is in
    let path = map-is Path (unquoted word.0) field.0 word.1 in
    (ap (is_of_kind A_path) (sym path.1.1), ap is_real_operand (sym path.1.1) ∙ path-fits word.0 path.0 path.1.0)
operand-fits Open_flags words field is =
    let word = word-is (λ word. option_map Flags (request_of_word word)) words field is in
    let flags = map-is Flags (request_of_word word.0) field.0 word.1 in
    (ap (is_of_kind Open_flags) (sym flags.1.1), ap is_real_operand (sym flags.1.1) ∙ flags-are word.0 flags.0 flags.1.0)
operand-fits A_right_set words field is =
    let word = word-is (λ word. Some (Rights (set_of_list right_rows word))) words field is in
    let same = some-is word.1 in
    (ap (is_of_kind A_right_set) (sym same), ap is_real_operand (sym same) ∙ rights_fit word.0)
operand-fits A_command_set words field is =
    let word = word-is (λ word. Some (Commands (set_of_list command_rows word))) words field is in
    let same = some-is word.1 in
    (ap (is_of_kind A_command_set) (sym same), ap is_real_operand (sym same) ∙ commands_fit word.0)
operand-fits A_choice words field is =
    let same = ap (λ (f : RealOperand × Words). f.0) (some-is is) in
    (ap (is_of_kind A_choice) (sym same), ap is_real_operand (sym same))

-- what is read behind some operands is those and others of the kinds
record Operands (kinds : List OperandKind) (done all : List RealOperand) : Type 0 where
  others : List RealOperand
  all_are : all ≡ done ++ others
  fit : are_of_kinds kinds others ≡ true

operands-fit : (kinds : List OperandKind) (done : List RealOperand) (words : Words) (field : List RealOperand × Words) → operands_from kinds done words ≡ Some field → Operands kinds done field.0
operands-fit [] done words field is = record { others = []; all_are = sym (ap (λ (f : List RealOperand × Words). f.0) (some-is is)) ∙ sym (append-nil done); fit = refl }
operands-fit (kind ∷ kinds) done words field is =
    let first = then-is (real_operand_at kind words) (λ operand. operands_from kinds (done ++ operand.0 ∷ []) operand.1) field is in
    let fits = operand-fits kind words first.0 first.1.0 in
    let rest = operands-fit kinds (done ++ first.0.0 ∷ []) first.0.1 field first.1.1 in
    record {
      others = first.0.0 ∷ rest.others;
      all_are = rest.all_are ∙ append_assoc done (first.0.0 ∷ []) rest.others;
      fit = and_from (is_of_kind kind first.0.0 && is_real_operand first.0.0) (are_of_kinds kinds rest.others)
          (and_from (is_of_kind kind first.0.0) (is_real_operand first.0.0) fits.0 fits.1) rest.fit;
    }

outcome-fits : (words : Words) (field : RecordedOutcome × Words) → outcome_at words ≡ Some field → is_outcome field.0 ≡ true
unfolding outcome_at
outcome-fits [] field is = absurd cc
outcome-fits (mark ∷ words) field is = go (bytes_eq mark (codes "=")) (bytes_eq mark (codes "!")) is
  where
    go : (succeeds fails : Bool)
        → cond succeeds (one_word_at (λ word. option_map Succeeds (read_number word)) words) (cond fails (one_word_at (λ word. option_map Fails (error_of_word word)) words) None) ≡ Some field
        → is_outcome field.0 ≡ true
    go true fails is =
        let word = word-is (λ word. option_map Succeeds (read_number word)) words field is in
        let n = map-is Succeeds (read_number word.0) field.0 word.1 in
        ap is_outcome (sym n.1.1) ∙ number-fits word.0 n.0 n.1.0
    go false true is =
        let word = word-is (λ word. option_map Fails (error_of_word word)) words field is in
        let e = map-is Fails (error_of_word word.0) field.0 word.1 in
        ap is_outcome (sym e.1.1)
    go false false is = absurd cc

-- BINDINGS

-- what is awaited behind numbers within the limits
abbrev is_awaited : Awaited → Bool
is_awaited Next = true
is_awaited (What descriptor) = is_real_number descriptor
is_awaited (Pair descriptor) = is_real_number descriptor
is_awaited (Side descriptor pair) = is_real_number descriptor && is_real_number pair
is_awaited Amount = true
is_awaited (Nothing bytes) = is_real_number bytes

abbrev is_step : BindingStep → Bool
is_step (Awaits awaited) = is_awaited awaited
is_step (Binds binding) = is_binding binding
is_step Refuses = true

step-with : {A : Type 0} (f : A → BindingStep) (o : Option A) → ((a : A) → o ≡ Some a → is_step (f a) ≡ true) → is_step (step_with f o) ≡ true
step-with f None each = refl
step-with f (Some a) each = each a refl

side-fits : (word : List ℕ) (side : ℕ) → end_side_of_word word ≡ Some side → nat_lt side 2 ≡ true
side-fits word side is = go (bytes_eq word (codes "a")) (bytes_eq word (codes "b")) is
  where
    go : (first second : Bool) → cond first (Some 0) (cond second (Some 1) None) ≡ Some side → nat_lt side 2 ≡ true
    go true second is = let same : 0 ≡ side = cc in ap (λ n. nat_lt n 2) (sym same)
    go false true is = let same : 1 ≡ side = cc in ap (λ n. nat_lt n 2) (sym same)
    go false false is = absurd cc

descriptor-fits : (word : List ℕ) (n : ℕ) → descriptor_of_word word ≡ Some n → is_real_number n ≡ true
descriptor-fits [] n is = absurd cc
descriptor-fits (b ∷ word) n is = go (b == 64) is
  where
    go : (sign : Bool) → cond sign (read_number word) None ≡ Some n → is_real_number n ≡ true
    go true is = number-fits word n is
    go false is = absurd cc

step-fits : (awaited : Awaited) (word : List ℕ) → is_awaited awaited ≡ true → is_step (binding_step awaited word) ≡ true
unfolding binding_step
step-fits Next word is = go (bytes_eq word (codes "bytes"))
  where
    go : (amount : Bool) → is_step (cond amount (Awaits Amount) (step_with (λ descriptor. Awaits (What descriptor)) (descriptor_of_word word))) ≡ true
    go true = refl
    go false = step-with (λ descriptor. Awaits (What descriptor)) (descriptor_of_word word) (descriptor-fits word)
step-fits (What descriptor) word is = go (bytes_eq word (codes "sock"))
  where
    go : (socket : Bool) → is_step (cond socket (Awaits (Pair descriptor)) (step_with (λ place. Binds (Is_place descriptor place)) (unquoted word))) ≡ true
    go true = is
    go false = step-with (λ place. Binds (Is_place descriptor place)) (unquoted word) (λ place read. and_from (is_real_number descriptor) (is_text place) is (path-fits word place read))
step-fits (Pair descriptor) word is =
    step-with (λ pair. Awaits (Side descriptor pair)) (read_number word) (λ pair read. and_from (is_real_number descriptor) (is_real_number pair) is (number-fits word pair read))
step-fits (Side descriptor pair) word is =
    step-with (λ side. Binds (Is_end descriptor pair side)) (end_side_of_word word)
    (λ side read. and_from (is_real_number descriptor && is_real_number pair) (nat_lt side 2) is (side-fits word side read))
step-fits Amount word is = step-with (λ bytes. Awaits (Nothing bytes)) (read_number word) (number-fits word)
step-fits (Nothing bytes) word is = refl

bindings-fit : (words : Words) (done : List Binding) (awaited : Awaited) (all : Bindings) → list_all is_binding done ≡ true → is_awaited awaited ≡ true
    → bindings_from words done awaited ≡ Some all → (list_all is_binding all.0 ≡ true) × (is_amount all.1 ≡ true)
bindings-fit [] done Next all are ok is =
    let same = some-is is in (ap (λ (b : Bindings). list_all is_binding b.0) (sym same) ∙ are, ap (λ (b : Bindings). is_amount b.1) (sym same))
bindings-fit [] done (Nothing bytes) all are ok is =
    let same = some-is is in (ap (λ (b : Bindings). list_all is_binding b.0) (sym same) ∙ are, ap (λ (b : Bindings). is_amount b.1) (sym same) ∙ ok)
bindings-fit [] done (What descriptor) all are ok is = absurd cc
bindings-fit [] done (Pair descriptor) all are ok is = absurd cc
bindings-fit [] done (Side descriptor pair) all are ok is = absurd cc
bindings-fit [] done Amount all are ok is = absurd cc
bindings-fit (word ∷ words) done awaited all are ok is =
    go (binding_step awaited word) (step-fits awaited word ok) (λ next fits is. bindings-fit words done next all are fits is)
    (λ b fits is. bindings-fit words (done ++ b ∷ []) Next all (more b fits) refl is) is
  where
    more : (b : Binding) → is_binding b ≡ true → list_all is_binding (done ++ b ∷ []) ≡ true
    more b fits = list_all-append is_binding done (b ∷ []) ∙ and_from (list_all is_binding done) (is_binding b && true) are (and_from (is_binding b) true fits refl)

    go : (s : BindingStep) → is_step s ≡ true
        → ((next : Awaited) → is_awaited next ≡ true → bindings_from words done next ≡ Some all → (list_all is_binding all.0 ≡ true) × (is_amount all.1 ≡ true))
        → ((b : Binding) → is_binding b ≡ true → bindings_from words (done ++ b ∷ []) Next ≡ Some all → (list_all is_binding all.0 ≡ true) × (is_amount all.1 ≡ true))
        → after_step s done (bindings_from words) ≡ Some all → (list_all is_binding all.0 ≡ true) × (is_amount all.1 ≡ true)
    go (Awaits next) fits awaits binds is = awaits next fits is
    go (Binds b) fits awaits binds is = binds b fits is
    go Refuses fits awaits binds is = absurd cc

-- EVENTS

made-fits : (call : Call) (words : Words) (made : MadeCall) → made_of call words ≡ Some made → is_made made ≡ true
unfolding made_of operands_at bindings_of
made-fits call words made is =
    let operands = then-is (operands_from (operand_kinds call) [] words) _ made is in
    let outcome = then-is (outcome_at operands.0.1) _ made operands.1.1 in
    let bindings = then-is (bindings_from outcome.0.1 [] Next) _ made outcome.1.1 in
    let one = operands-fit (operand_kinds call) [] words operands.0 operands.1.0 in
    let kinds = ap (are_of_kinds (operand_kinds call)) one.all_are ∙ one.fit in
    let two = outcome-fits operands.0.1 outcome.0 outcome.1.0 in
    let three = bindings-fit outcome.0.1 [] Next bindings.0 refl refl bindings.1.0 in
    ap is_made (sym (some-is bindings.1.1))
    ∙ and_from _ (is_amount bindings.0.1)
    (and_from _ (list_all is_binding bindings.0.0) (and_from (are_of_kinds (operand_kinds call) operands.0.0) (is_outcome outcome.0.0) kinds two) three.0) three.1

wanted-fits : (words : Words) (wanted : Option WantedRight) → wanted_of words ≡ Some wanted → is_wanted wanted ≡ true
unfolding wanted_of
wanted-fits [] wanted is = ap is_wanted (sym (some-is is))
wanted-fits (right ∷ words) wanted is =
    let name = then-is (read_word right) _ wanted is in
    let descriptor = then-is (real_number_at words) _ wanted name.1.1 in
    go (record { right = name.0; descriptor = descriptor.0.0 }) descriptor.0.1
    (and_from (is_call_name name.0) (is_real_number descriptor.0.0) (name-is right name.0 name.1.0) (number-at-fits words descriptor.0 descriptor.1.0)) descriptor.1.1
  where
    go : (w : WantedRight) (rest : Words) → is_wanted (Some w) ≡ true → with_no_more (Some w) rest ≡ Some wanted → is_wanted wanted ≡ true
    go w [] ok is = ap is_wanted (sym (some-is is)) ∙ ok
    go w (word ∷ rest) ok is = absurd cc

left-out-fits : (words : Words) (l : LeftOut) → left_out_of words ≡ Some l → is_event (Omitted l) ≡ true
unfolding left_out_of
left-out-fits words l is =
    let reason = then-is (one_word_at reason_of_word words) _ l is in
    let name = then-is (one_word_at read_word reason.0.1) _ l reason.1.1 in
    let wanted = then-is (wanted_of name.0.1) _ l name.1.1 in
    let word = word-is read_word reason.0.1 name.0 name.1.0 in
    ap (λ (x : LeftOut). is_event (Omitted x)) (sym (some-is wanted.1.1))
    ∙ and_from (is_call_name name.0.0) (is_wanted wanted.0) (name-is word.0 name.0.0 word.1) (wanted-fits name.0.1 wanted.0 wanted.1.0)

event-fits : (words : Words) (e : RecordedEvent) → recorded_event_of words ≡ Some e → is_event e ≡ true
unfolding recorded_event_of
event-fits [] e is = absurd cc
event-fits (word ∷ words) e is = go (bytes_eq word (codes "-")) (bytes_eq word (codes "exit")) is
  where
    ending : (rest : Words) → with_no_more Ended rest ≡ Some e → is_event e ≡ true
    ending [] is = ap is_event (sym (some-is is))
    ending (word ∷ rest) is = absurd cc

    go : (out ends : Bool)
        → cond out (option_map Omitted (left_out_of words))
        (cond ends (with_no_more Ended words) (option_map Called (option_and_then (λ call. made_of call words) (call_of_word word)))) ≡ Some e
        → is_event e ≡ true
    go true ends is = let l = map-is Omitted (left_out_of words) e is in ap is_event (sym l.1.1) ∙ left-out-fits words l.0 l.1.0
    go false true is = ending words is
    go false false is =
        let made = map-is Called (option_and_then (λ call. made_of call words) (call_of_word word)) e is in
        let call = then-is (call_of_word word) (λ call. made_of call words) made.0 made.1.0 in
        ap is_event (sym made.1.1) ∙ made-fits call.0 words made.0 call.1.1

abbrev span-with : ℕ → ℕ → Words → RecordSpan × Words
span-with first last rest = (record { first = first; last = last }, rest)

ordered : (first last : ℕ) (rest : Words) (field : RecordSpan × Words) → is_real_number first ≡ true → is_real_number last ≡ true
    → cond (nat_le first last) (Some (span-with first last rest)) None ≡ Some field → is_span field.0 ≡ true
ordered first last rest field one two is = go (nat_le first last) refl is
  where
    go : (order : Bool) → nat_le first last ≡ order → cond order (Some (span-with first last rest)) None ≡ Some field → is_span field.0 ≡ true
    go true order is =
        ap (λ (f : RecordSpan × Words). is_span f.0) (sym (some-is is))
        ∙ and_from (is_real_number first && is_real_number last) (nat_le first last) (and_from (is_real_number first) (is_real_number last) one two) order
    go false order is = absurd cc

span-fits : (words : Words) (field : RecordSpan × Words) → record_span_at words ≡ Some field → is_span field.0 ≡ true
unfolding record_span_at
span-fits words field is =
    let first = then-is (real_number_at words) _ field is in
    let last = then-is (real_number_at first.0.1) _ field first.1.1 in
    ordered first.0.0 last.0.0 last.0.1 field (number-at-fits words first.0 first.1.0) (number-at-fits first.0.1 last.0 last.1.0) last.1.1

entry-fits : (words : Words) (e : RecordEntry) → entry_of_words words ≡ Some e → is_entry e ≡ true
unfolding entry_of_words
entry-fits words e is =
    let span = then-is (record_span_at words) _ e is in
    let process = then-is (real_number_at span.0.1) _ e span.1.1 in
    let event = then-is (recorded_event_of process.0.1) _ e process.1.1 in
    ap is_entry (sym (some-is event.1.1))
    ∙ and_from _ (is_event event.0) (and_from (is_span span.0.0) (is_real_number process.0.0) (span-fits words span.0 span.1.0) (number-at-fits span.0.1 process.0 process.1.0))
    (event-fits process.0.1 event.0 event.1.0)

-- TEXTS

line-fits : (text : List ℕ) (e : RecordEntry) → entry_of_text text ≡ Some e → is_entry e ≡ true
unfolding entry_of_text
line-fits text e is =
    let f = then-is (entry_of_words (parts 32 text)) (if_text text) e is in
    go f.0 (bytes_eq (entry_text f.0) text) (entry-fits (parts 32 text) f.0 f.1.0) f.1.1
  where
    go : (f : RecordEntry) (same : Bool) → is_entry f ≡ true → cond same (Some f) None ≡ Some e → is_entry e ≡ true
    go f true ok is = ap is_entry (sym (some-is is)) ∙ ok
    go f false ok is = absurd cc

ended-fits : (calls d : RecordedCalls) (number : ℕ) (lines : List TextLine) → are_calls calls ≡ true → ends_after calls number lines ≡ Ok d → are_calls d ≡ true
ended-fits calls d number [] are is = let same : calls ≡ d = cc in ap are_calls (sym same) ∙ are
ended-fits calls d number (line ∷ []) are is = go (bytes_eq line.text []) is
  where
    go : (empty : Bool) → cond empty (Ok calls) (faulty mistakes.Behind (number + 1)) ≡ Ok d → are_calls d ≡ true
    go true is = let same : calls ≡ d = cc in ap are_calls (sym same) ∙ are
    go false is = absurd cc
ended-fits calls d number (line ∷ next ∷ lines) are is = absurd cc

lines-fit : (lines : List TextLine) (number : ℕ) (calls d : RecordedCalls) → are_calls calls ≡ true → calls_after lines number calls ≡ Ok d → are_calls d ≡ true
unfolding calls_after read_last
lines-fit [] number calls d are is = absurd cc
lines-fit (line ∷ lines) number calls d are is =
    go line.is_ended (is_counts_line line.text) (bytes_eq line.text []) (bytes_eq (counts_line calls) line.text) (entry_of_text line.text) refl
    (λ e fits is. lines-fit lines (number + 1) (calls ++ e ∷ []) d (more e fits) is) is
  where
    more : (e : RecordEntry) → is_entry e ≡ true → are_calls (calls ++ e ∷ []) ≡ true
    more e fits = list_all-append is_entry calls (e ∷ []) ∙ and_from (are_calls calls) (is_entry e && true) are (and_from (is_entry e) true fits refl)

    go : (whole last empty same : Bool) (read : Option RecordEntry) → entry_of_text line.text ≡ read
        → ((e : RecordEntry) → is_entry e ≡ true → calls_after lines (number + 1) (calls ++ e ∷ []) ≡ Ok d → are_calls d ≡ true)
        → cond whole (cond last (cond same (ends_after calls (number + 1) lines) (faulty Counts (number + 1))) (and_entry calls (number + 1) (calls_after lines (number + 1)) read))
        (cond empty (faulty NoEnd (number + 1)) (faulty Form (number + 1))) ≡ Ok d → are_calls d ≡ true
    go true true empty true read one rest is = ended-fits calls d (number + 1) lines are is
    go true true empty false read one rest is = absurd cc
    go true false empty same None one rest is = absurd cc
    go true false empty same (Some e) one rest is = rest e (line-fits line.text e one) is
    go false last true same read one rest is = absurd cc
    go false last false same read one rest is = absurd cc

first-fits : (first : Bool) (lines : List TextLine) (d : RecordedCalls) → cond first (calls_after lines 1 []) (faulty Form 1) ≡ Ok d → are_calls d ≡ true
first-fits true lines d is = lines-fit lines 1 [] d refl is
first-fits false lines d is = absurd cc

-- What a text is read as is within the limits.
pub text-fits : (text : List ℕ) (d : RecordedCalls) → calls_of_text text ≡ Ok d → are_calls d ≡ true
unfolding calls_of_text
text-fits text d is = go (lines_of text) is
  where
    go : (lines : List TextLine) → calls_of_lines lines ≡ Ok d → are_calls d ≡ true
    go [] is = absurd cc
    go (line ∷ lines) is = first-fits (line.is_ended && bytes_eq line.text calls_first_line) lines d is
