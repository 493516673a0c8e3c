-- The words of an entry are read as that entry.
use Rattle.std.proofs.Common.{◌≡◌, ℕ, zero, suc, ◌^◌, Bool, true, false, not, cond}
use Rattle.std.proofs.Common.{List, [], ◌∷◌, ◌++◌, decimal, refl, ap, sym, ◌∙◌, append_assoc, append-nil, le-leb, ltb-true, arith}
use Rattle.std.specs.Prelude.{◌&&◌, codes, nat_le, nat_lt, Option, Some, None, option_map, option_and_then}
use Rattle.std.specs.List.{flat_map, list_all}
use Rattle.std.specs.Str.{bytes_eq}
use Rattle.std.proofs.lemmas.Bool.{and_parts}
use Rattle.rights.specs.Calls.{Call}
use Rattle.texts.specs.Numbers.{at_most}
use Rattle.texts.proofs.NumberTexts.{number-decimal}
use Rattle.records.specs.Calls.{RealOperand, Number, Path, Flags, Rights, Commands, Directory, OperandKind, A_number, A_path, Open_flags, A_right_set, A_command_set, A_choice}
use Rattle.records.specs.Calls.{RecordedOutcome, Succeeds, Fails, Binding, Is_place, Is_end, MadeCall, Reason}
use Rattle.records.specs.Calls.{WantedRight, LeftOut, RecordedEvent, Called, Ended, Omitted, RecordSpan, RecordEntry, operand_kinds}
use Rattle.records.specs.Calls.{are_of_kinds, is_amount, is_binding, is_entry, is_event, is_made, is_real_number, is_of_kind, is_real_operand, is_outcome, is_span, is_text, is_wanted, is_call_name}
use Rattle.records.specs.Named.{reason_name}
use Rattle.call_facts.specs.Sets.{command_rows, right_rows}
use Rattle.records.specs.Quoted.{quoted}
use Rattle.records.specs.Readings.{Words, Next, What, Side, Nothing, Awaits}
use Rattle.records.specs.Readings.{Binds, Bindings, bindings_from, bindings_of, choice_at, entry_of_words, recorded_event_of, left_out_of}
use Rattle.records.specs.Readings.{made_of, real_number_at, real_operand_at, operands_at, operands_from, outcome_at, read_number, read_word}
use Rattle.records.specs.Readings.{record_span_at, binding_step, step_with, after_step, wanted_of, with_no_more, one_word_at, ◌>>=◌}
use Rattle.records.specs.RestViews.{begins_with}
use Rattle.records.specs.Texts.{amount_words, binding_words, entry_words, event_words, operand_words, outcome_words, end_side_word, wanted_words}
use Rattle.call_facts.proofs.FlagLaws.{flags-back}
use Rattle.records.proofs.NameLaws.{call-back, call-choice, call-other, error-back, has_last_choice, is_choice, is_last_choice, reason-back}
use Rattle.records.proofs.QuotedLaws.{quoted-back}
use Rattle.call_facts.proofs.Same.{three-parts}
use Rattle.call_facts.proofs.SetLaws.{good-commands, good-rights, set-back}

-- NUMBERS

pub number-back : (n : ℕ) → is_real_number n ≡ true → read_number (decimal n) ≡ Some n
number-back n is =
    let below = ltb-true n (2 ^ 32) is in
    ap (at_most 4294967295) (number-decimal n (omega (arith, below)))
    ∙ ap (λ (b : Bool). cond b (Some n) None) (le-leb n 4294967295 (omega (arith, below)))

number-at : (n : ℕ) (words : Words) → is_real_number n ≡ true → real_number_at (decimal n ∷ words) ≡ Some (n, words)
unfolding real_number_at
number-at n words is = ap (option_map (λ (a : ℕ). (a, words))) (number-back n is)

-- OPERANDS

-- a word that begins with a choice's isn't the next one, where a choice is to be read
abbrev is_clear : OperandKind → Words → Bool
is_clear kind words = not (is_choice kind && begins_with (codes "dir") words)

abbrev chosen : Bool → Words → Bool × Words
chosen asked words = (asked, words)

-- what is there where a choice isn't
no-choice : (words : Words) → not (begins_with (codes "dir") words) ≡ true → choice_at words ≡ chosen false words
unfolding choice_at
no-choice [] clear = refl
no-choice (word ∷ words) clear = go (bytes_eq word (codes "dir")) clear
  where
    go : (is : Bool) → not is ≡ true → cond is (chosen true words) (chosen false (word ∷ words)) ≡ chosen false (word ∷ words)
    go true other = absurd cc
    go false other = refl

operand-back : (kind : OperandKind) (o : RealOperand) (words : Words) → is_of_kind kind o ≡ true → is_real_operand o ≡ true → is_clear kind words ≡ true
    → real_operand_at kind (operand_words o ++ words) ≡ Some (o, words)
unfolding real_operand_at choice_at
operand-back A_number (Number n) words kind is clear = ap (λ read. option_map (λ (a : RealOperand). (a, words)) (option_map Number read)) (number-back n is)
operand-back A_path (Path path) words kind is clear = ap (λ read. option_map (λ (a : RealOperand). (a, words)) (option_map Path read)) (quoted-back path is)
operand-back Open_flags (Flags flags) words kind is clear = ap (λ read. option_map (λ (a : RealOperand). (a, words)) (option_map Flags read)) (flags-back flags is)
operand-back A_right_set (Rights set) words kind is clear =
    let below = ltb-true set (2 ^ 46) is in ap (λ s. Some (Rights s, words)) (set-back right_rows set good-rights (omega (arith, below)))
operand-back A_command_set (Commands set) words kind is clear =
    let below = ltb-true set (2 ^ 2) is in ap (λ s. Some (Commands s, words)) (set-back command_rows set good-commands (omega (arith, below)))
operand-back A_choice (Directory true) words kind is clear = refl
operand-back A_choice (Directory false) words kind is clear = ap (λ (choice : Bool × Words). Some (Directory choice.0, choice.1)) (no-choice words clear)
operand-back A_number (Path path) words kind is clear = absurd cc
operand-back A_number (Flags flags) words kind is clear = absurd cc
operand-back A_number (Rights set) words kind is clear = absurd cc
operand-back A_number (Commands set) words kind is clear = absurd cc
operand-back A_number (Directory asked) words kind is clear = absurd cc
operand-back A_path (Number n) words kind is clear = absurd cc
operand-back A_path (Flags flags) words kind is clear = absurd cc
operand-back A_path (Rights set) words kind is clear = absurd cc
operand-back A_path (Commands set) words kind is clear = absurd cc
operand-back A_path (Directory asked) words kind is clear = absurd cc
operand-back Open_flags (Number n) words kind is clear = absurd cc
operand-back Open_flags (Path path) words kind is clear = absurd cc
operand-back Open_flags (Rights set) words kind is clear = absurd cc
operand-back Open_flags (Commands set) words kind is clear = absurd cc
operand-back Open_flags (Directory asked) words kind is clear = absurd cc
operand-back A_right_set (Number n) words kind is clear = absurd cc
operand-back A_right_set (Path path) words kind is clear = absurd cc
operand-back A_right_set (Flags flags) words kind is clear = absurd cc
operand-back A_right_set (Commands set) words kind is clear = absurd cc
operand-back A_right_set (Directory asked) words kind is clear = absurd cc
operand-back A_command_set (Number n) words kind is clear = absurd cc
operand-back A_command_set (Path path) words kind is clear = absurd cc
operand-back A_command_set (Flags flags) words kind is clear = absurd cc
operand-back A_command_set (Rights set) words kind is clear = absurd cc
operand-back A_command_set (Directory asked) words kind is clear = absurd cc
operand-back A_choice (Number n) words kind is clear = absurd cc
operand-back A_choice (Path path) words kind is clear = absurd cc
operand-back A_choice (Flags flags) words kind is clear = absurd cc
operand-back A_choice (Rights set) words kind is clear = absurd cc
operand-back A_choice (Commands set) words kind is clear = absurd cc

-- OUTCOMES

outcome-back : (o : RecordedOutcome) (words : Words) → is_outcome o ≡ true → outcome_at (outcome_words o ++ words) ≡ Some (o, words)
unfolding outcome_at
outcome-back (Succeeds n) words is = ap (λ read. option_map (λ (a : RecordedOutcome). (a, words)) (option_map Succeeds read)) (number-back n is)
outcome-back (Fails e) words is = ap (λ read. option_map (λ (a : RecordedOutcome). (a, words)) (option_map Fails read)) (error-back e)

outcome-clear : (o : RecordedOutcome) (words : Words) → begins_with (codes "dir") (outcome_words o ++ words) ≡ false
outcome-clear (Succeeds n) words = refl
outcome-clear (Fails e) words = refl

-- operands, one after another
clear-behind : (kind : OperandKind) (kinds : List OperandKind) (operands : List RealOperand) (rest : Words) → is_last_choice kind kinds ≡ true → are_of_kinds kinds operands ≡ true
    → begins_with (codes "dir") rest ≡ false → is_clear kind (flat_map operand_words operands ++ rest) ≡ true
clear-behind A_choice [] [] rest last are clear = ap not clear
clear-behind A_choice [] (operand ∷ operands) rest last are clear = absurd cc
clear-behind A_choice (kind ∷ kinds) operands rest last are clear = absurd cc
clear-behind A_number kinds operands rest last are clear = refl
clear-behind A_path kinds operands rest last are clear = refl
clear-behind Open_flags kinds operands rest last are clear = refl
clear-behind A_right_set kinds operands rest last are clear = refl
clear-behind A_command_set kinds operands rest last are clear = refl

operands-back : (kinds : List OperandKind) (operands done : List RealOperand) (rest : Words) → are_of_kinds kinds operands ≡ true → has_last_choice kinds ≡ true
    → begins_with (codes "dir") rest ≡ false → operands_from kinds done (flat_map operand_words operands ++ rest) ≡ Some (done ++ operands, rest)
operands-back [] [] done rest are last clear = ap (λ operands. Some (operands, rest)) (sym (append-nil done))
operands-back [] (operand ∷ operands) done rest are last clear = absurd cc
operands-back (kind ∷ kinds) [] done rest are last clear = absurd cc
operands-back (kind ∷ kinds) (operand ∷ operands) done rest are last clear =
    let each = three-parts (is_of_kind kind operand) (is_real_operand operand) (are_of_kinds kinds operands) are in
    let lasts = and_parts (is_last_choice kind kinds) (has_last_choice kinds) last in
    let words = flat_map operand_words operands ++ rest in
    ap (operands_from (kind ∷ kinds) done) (append_assoc (operand_words operand) (flat_map operand_words operands) rest)
    ∙ ap (λ (read : Option (RealOperand × Words)). read >>= (λ a. operands_from kinds (done ++ a.0 ∷ []) a.1))
    (operand-back kind operand words each.0 each.1 (clear-behind kind kinds operands rest lasts.0 each.2 clear))
    ∙ operands-back kinds operands (done ++ operand ∷ []) rest each.2 lasts.1 clear
    ∙ ap (λ all. Some (all, rest)) (append_assoc done (operand ∷ []) operands)

-- BINDINGS

side-back : (d pair side : ℕ) (words : Words) (done : List Binding) → nat_lt side 2 ≡ true
    → after_step (binding_step (Side d pair) (end_side_word side)) done (bindings_from words) ≡ bindings_from words (done ++ Is_end d pair side ∷ []) Next
unfolding binding_step
side-back d pair zero words done is = refl
side-back d pair (suc zero) words done is = refl
side-back d pair (suc (suc n)) words done is = absurd (let below = ltb-true (suc (suc n)) 2 is in omega (arith, below))

amount-back : (done : List Binding) (bytes : Option ℕ) → is_amount bytes ≡ true → bindings_from (amount_words bytes) done Next ≡ Some (done ++ [], bytes)
unfolding binding_step
amount-back done None is = ap (λ all. Some (all, None)) (sym (append-nil done))
amount-back done (Some n) is =
    ap (λ (read : Option ℕ). after_step (step_with (λ bytes. Awaits (Nothing bytes)) read) done (bindings_from [])) (number-back n is)
    ∙ ap (λ all. Some (all, Some n)) (sym (append-nil done))

binding-back : (b : Binding) (words : Words) (done : List Binding) → is_binding b ≡ true → bindings_from (binding_words b ++ words) done Next ≡ bindings_from words (done ++ b ∷ []) Next
unfolding binding_step quoted
binding-back (Is_place d place) words done is =
    let each = and_parts (is_real_number d) (is_text place) is in
    ap (λ (read : Option ℕ). after_step (step_with (λ descriptor. Awaits (What descriptor)) read) done (bindings_from (quoted place ∷ words))) (number-back d each.0)
    ∙ ap (λ (read : Option (List ℕ)). after_step (step_with (λ p. Binds (Is_place d p)) read) done (bindings_from words)) (quoted-back place each.1)
binding-back (Is_end d pair side) words done is =
    let each = three-parts (is_real_number d) (is_real_number pair) (nat_lt side 2) is in
    ap (λ (read : Option ℕ). after_step (step_with (λ descriptor. Awaits (What descriptor)) read) done (bindings_from (codes "sock" ∷ decimal pair ∷ end_side_word side ∷ words)))
    (number-back d each.0)
    ∙ ap (λ (read : Option ℕ). after_step (step_with (λ p. Awaits (Side d p)) read) done (bindings_from (end_side_word side ∷ words))) (number-back pair each.1)
    ∙ side-back d pair side words done each.2

bindings-back : (bs done : List Binding) (bytes : Option ℕ) → list_all is_binding bs ≡ true → is_amount bytes ≡ true
    → bindings_from (flat_map binding_words bs ++ amount_words bytes) done Next ≡ Some (done ++ bs, bytes)
bindings-back [] done bytes are is = amount-back done bytes is
bindings-back (b ∷ bs) done bytes are is =
    let each = and_parts (is_binding b) (list_all is_binding bs) are in
    ap (λ words. bindings_from words done Next) (append_assoc (binding_words b) (flat_map binding_words bs) (amount_words bytes))
    ∙ binding-back b (flat_map binding_words bs ++ amount_words bytes) done each.0 ∙ bindings-back bs (done ++ b ∷ []) bytes each.1 is
    ∙ ap (λ all. Some (all, bytes)) (append_assoc done (b ∷ []) bs)

-- EVENTS

abbrev beside : {A : Type 0} → Words → A → A × Words
beside words a = (a, words)

abbrev made-with : Call → List RealOperand → RecordedOutcome → Bindings → Option MadeCall
made-with call operands outcome bindings = Some (record { call = call; operands = operands; outcome = outcome; bindings = bindings.0; bytes = bindings.1 })

abbrev wanted-with : List ℕ → ℕ × Words → Option (Option WantedRight)
wanted-with name descriptor = with_no_more (Some (record { right = name; descriptor = descriptor.0 })) descriptor.1

abbrev left-out-with : Reason → List ℕ → Option WantedRight → Option LeftOut
left-out-with reason name wanted = Some (record { reason = reason; name = name; wanted = wanted })

abbrev span-with : ℕ × Words → ℕ × Words → Option (RecordSpan × Words)
span-with first last = cond (nat_le first.0 last.0) (Some (record { first = first.0; last = last.0 }, last.1)) None

abbrev entry-with : RecordSpan → ℕ → RecordedEvent → Option RecordEntry
entry-with span process event = Some (record { span = span; process = process; event = event })

made-back : (made : MadeCall) → is_made made ≡ true
    → made_of made.call (flat_map operand_words made.operands ++ (outcome_words made.outcome ++ (flat_map binding_words made.bindings ++ amount_words made.bytes))) ≡ Some made
unfolding made_of operands_at bindings_of
made-back made is =
    let each = and_parts (are_of_kinds (operand_kinds made.call) made.operands && is_outcome made.outcome && list_all is_binding made.bindings) (is_amount made.bytes) is in
    let parts = three-parts (are_of_kinds (operand_kinds made.call) made.operands) (is_outcome made.outcome) (list_all is_binding made.bindings) each.0 in
    let bound_words = flat_map binding_words made.bindings ++ amount_words made.bytes in
    let words = outcome_words made.outcome ++ bound_words in
    ap (λ (read : Option (List RealOperand × Words)). read >>= (λ operands.
    outcome_at operands.1 >>= (λ outcome. bindings_from outcome.1 [] Next >>= (λ bindings. made-with made.call operands.0 outcome.0 bindings))))
    (operands-back (operand_kinds made.call) made.operands [] words parts.0 (call-choice made.call) (outcome-clear made.outcome bound_words))
    ∙ ap (λ (read : Option (RecordedOutcome × Words)). read >>= (λ outcome. bindings_from outcome.1 [] Next >>= (λ bindings. made-with made.call made.operands outcome.0 bindings)))
    (outcome-back made.outcome bound_words parts.1)
    ∙ ap (λ (read : Option Bindings). read >>= (λ bindings. made-with made.call made.operands made.outcome bindings)) (bindings-back made.bindings [] made.bytes parts.2 each.1)

word-back : (word : List ℕ) → is_call_name word ≡ true → read_word word ≡ Some word
word-back word is = ap (λ (b : Bool). cond b (Some word) None) is

wanted-back : (wanted : Option WantedRight) → is_wanted wanted ≡ true → wanted_of (wanted_words wanted) ≡ Some wanted
unfolding wanted_of
wanted-back None is = refl
wanted-back (Some wanted) is =
    let each = and_parts (is_call_name wanted.right) (is_real_number wanted.descriptor) is in
    ap (λ (read : Option (List ℕ)). read >>= (λ name. real_number_at (decimal wanted.descriptor ∷ []) >>= (λ descriptor. wanted-with name descriptor))) (word-back wanted.right each.0)
    ∙ ap (λ (read : Option (ℕ × Words)). read >>= (λ descriptor. wanted-with wanted.right descriptor)) (number-at wanted.descriptor [] each.1)

left-out-back : (l : LeftOut) → is_call_name l.name ≡ true → is_wanted l.wanted ≡ true → left_out_of (reason_name l.reason ∷ l.name ∷ wanted_words l.wanted) ≡ Some l
unfolding left_out_of
left-out-back l name wanted =
    ap (λ (read : Option Reason). option_map (beside (l.name ∷ wanted_words l.wanted)) read >>= (λ reason.
    one_word_at read_word reason.1 >>= (λ n. wanted_of n.1 >>= (λ w. left-out-with reason.0 n.0 w)))) (reason-back l.reason)
    ∙ ap (λ (read : Option (List ℕ)). option_map (beside (wanted_words l.wanted)) read >>= (λ n. wanted_of n.1 >>= (λ w. left-out-with l.reason n.0 w))) (word-back l.name name)
    ∙ ap (λ (read : Option (Option WantedRight)). read >>= (λ w. left-out-with l.reason l.name w)) (wanted-back l.wanted wanted)

event-back : (e : RecordedEvent) → is_event e ≡ true → recorded_event_of (event_words e) ≡ Some e
unfolding recorded_event_of
event-back (Called made) is =
    let other = call-other made.call in
    let words = flat_map operand_words made.operands ++ (outcome_words made.outcome ++ (flat_map binding_words made.bindings ++ amount_words made.bytes)) in
    (λ i. cond (other.0 i) (option_map Omitted (left_out_of words))
    (cond (other.1 i) (with_no_more Ended words) (option_map Called (option_and_then (λ call. made_of call words) (call-back made.call i)))))
    ∙ ap (option_map Called) (made-back made is)
event-back Ended is = refl
event-back (Omitted l) is =
    let each = and_parts (is_call_name l.name) (is_wanted l.wanted) is in
    ap (option_map Omitted) (left-out-back l each.0 each.1)

span-back : (span : RecordSpan) (words : Words) → is_span span ≡ true → record_span_at (decimal span.first ∷ decimal span.last ∷ words) ≡ Some (span, words)
unfolding record_span_at
span-back span words is =
    let each = three-parts (is_real_number span.first) (is_real_number span.last) (nat_le span.first span.last) is in
    ap (λ (read : Option (ℕ × Words)). read >>= (λ first. real_number_at first.1 >>= (λ last. span-with first last))) (number-at span.first (decimal span.last ∷ words) each.0)
    ∙ ap (λ (read : Option (ℕ × Words)). read >>= (λ last. span-with (span.first, decimal span.last ∷ words) last)) (number-at span.last words each.1)
    ∙ ap (λ (b : Bool). cond b (Some (span, words)) None) each.2

-- The words of an entry are read as it.
pub entry-back : (e : RecordEntry) → is_entry e ≡ true → entry_of_words (entry_words e) ≡ Some e
unfolding entry_of_words
entry-back e is =
    let each = three-parts (is_span e.span) (is_real_number e.process) (is_event e.event) is in
    let behind = decimal e.process ∷ event_words e.event in
    ap (λ (read : Option (RecordSpan × Words)). read >>= (λ span.
    real_number_at span.1 >>= (λ process. recorded_event_of process.1 >>= (λ event. entry-with span.0 process.0 event)))) (span-back e.span behind each.0)
    ∙ ap (λ (read : Option (ℕ × Words)). read >>= (λ process. recorded_event_of process.1 >>= (λ event. entry-with e.span process.0 event))) (number-at e.process (event_words e.event) each.1)
    ∙ ap (λ (read : Option RecordedEvent). read >>= (λ event. entry-with e.span e.process event)) (event-back e.event each.2)
