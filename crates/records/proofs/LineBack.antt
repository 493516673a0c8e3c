-- The text of an entry is read as that entry, and is one line of a text, which isn't the last one.
use Rattle.std.proofs.Common.{◌≡◌, ℕ, zero, suc, ◌/◌, ◌%◌, ◌^◌, Bool, true, false, cond, List, [], ◌∷◌, ◌++◌, decimal, refl, ap, ◌∙◌, ltb-true, arith}
use Rattle.std.specs.Prelude.{◌==◌, ◌&&◌, codes, nat_le, nat_lt, Option, Some, None, option_and_then}
use Rattle.std.specs.List.{flat_map, list_all}
use Rattle.std.proofs.lemmas.Bool.{and_from, and_parts}
use Rattle.std.proofs.lemmas.Bool.Decides.{nat_tests}
use Rattle.std.proofs.lemmas.List.Folds.{list_all-append}
use Rattle.rights.specs.Calls.{call_name}
use Rattle.rights.specs.Errors.{errno_name}
use Rattle.texts.specs.Bytes.{is_digit}
use Rattle.texts.specs.Hex.{hex_text, is_hex_digit}
use Rattle.texts.specs.Parts.{joined, parts}
use Rattle.texts.proofs.HexTexts.{digits-hex}
use Rattle.texts.proofs.NumberTexts.{digits-decimal}
use Rattle.texts.proofs.WordLaws.{lacks, lacks-by, parts-joined}
use Rattle.records.specs.Calls.{RealOperand, Number, Path, Flags, Rights, Commands, Directory, OperandKind, RecordedOutcome, Succeeds, Fails}
use Rattle.records.specs.Calls.{Binding, Is_place, Is_end, MadeCall, WantedRight, RecordedEvent, Called, Ended, Omitted, RecordEntry}
use Rattle.records.specs.Calls.{are_of_kinds, is_amount, is_binding, is_entry, is_event, is_made, is_real_number, is_of_kind}
use Rattle.records.specs.Calls.{is_real_operand, is_outcome, is_span, is_text, is_wanted, is_call_name, is_call_name_byte, operand_kinds}
use Rattle.records.specs.Named.{reason_name}
use Rattle.call_facts.specs.Sets.{Row, command_rows, flag_rows, flag_set, listed, member_names, right_rows, set_word}
use Rattle.call_facts.proofs.SetLaws.{listed-joined}
use Rattle.records.specs.Quoted.{byte_text, is_plain, quoted}
use Rattle.records.specs.Readings.{entry_of_text, entry_of_words, if_text, is_counts_line}
use Rattle.records.specs.Texts.{amount_words, binding_words, entry_text, entry_words, event_words, made_words, operand_words, outcome_words, end_side_word, wanted_words}
use Rattle.records.proofs.NameLaws.{call-dark, error-dark, is_dark, reason-dark}
use Rattle.call_facts.proofs.Same.{same-text, three-parts}
use Rattle.records.proofs.WordsBack.{entry-back}

-- WORDS ARE DARK: their bytes are above the space.

abbrev dark : List ℕ → Bool
dark word = list_all is_dark word

abbrev are_dark : List (List ℕ) → Bool
are_dark words = list_all (list_all is_dark) words

all-by : (test other : ℕ → Bool) (word : List ℕ) → ((b : ℕ) → test b ≡ true → other b ≡ true) → list_all test word ≡ true → list_all other word ≡ true
all-by test other [] by is = refl
all-by test other (b ∷ word) by is =
    let each = and_parts (test b) (list_all test word) is in
    and_from (other b) (list_all other word) (by b each.0) (all-by test other word by each.1)

dark-digit : (b : ℕ) → is_digit b ≡ true → is_dark b ≡ true
dark-digit b is = grind (arith, nat_tests)

dark-hex : (b : ℕ) → is_hex_digit b ≡ true → is_dark b ≡ true
dark-hex b is = grind (arith, nat_tests)

dark-name-byte : (b : ℕ) → is_call_name_byte b ≡ true → is_dark b ≡ true
dark-name-byte b is = grind (arith, nat_tests)

dark-plain : (b : ℕ) → is_plain b ≡ true → is_dark b ≡ true
dark-plain b is = grind (arith, nat_tests)

dark-number : (n : ℕ) → is_real_number n ≡ true → dark (decimal n) ≡ true
dark-number n is = let below = ltb-true n (2 ^ 32) is in all-by is_digit is_dark (decimal n) dark-digit (digits-decimal n (omega (arith, below)))

dark-word : (word : List ℕ) → is_call_name word ≡ true → dark word ≡ true
dark-word [] is = absurd cc
dark-word (b ∷ word) is = all-by is_call_name_byte is_dark (b ∷ word) dark-name-byte is

-- texts one after another
dark-both : (first rest : List ℕ) → dark first ≡ true → dark rest ≡ true → dark (first ++ rest) ≡ true
dark-both first rest one two = list_all-append is_dark first rest ∙ and_from (dark first) (dark rest) one two

words-both : (first rest : List (List ℕ)) → are_dark first ≡ true → are_dark rest ≡ true → are_dark (first ++ rest) ≡ true
words-both first rest one two = list_all-append (list_all is_dark) first rest ∙ and_from (are_dark first) (are_dark rest) one two

dark-more : (word : List ℕ) (words : List (List ℕ)) → dark word ≡ true → are_dark words ≡ true → are_dark (word ∷ words) ≡ true
dark-more word words one rest = and_from (dark word) (are_dark words) one rest

dark-byte : (b : ℕ) → dark (byte_text b) ≡ true
dark-byte b = go (is_plain b) refl
  where
    go : (plain : Bool) → is_plain b ≡ plain → dark (cond plain (b ∷ []) (92 ∷ 120 ∷ hex_text 2 b)) ≡ true
    go true plain = and_from (is_dark b) true (dark-plain b plain) refl
    go false plain = all-by is_hex_digit is_dark (hex_text 2 b) dark-hex (digits-hex 2 b)

dark-bytes : (text : List ℕ) → dark (flat_map byte_text text) ≡ true
dark-bytes [] = refl
dark-bytes (b ∷ text) = dark-both (byte_text b) (flat_map byte_text text) (dark-byte b) (dark-bytes text)

dark-quoted : (text : List ℕ) → dark (quoted text) ≡ true
unfolding quoted
dark-quoted text = dark-both (flat_map byte_text text) (34 ∷ []) (dark-bytes text) refl

abbrev are_dark_rows : List Row → Bool
are_dark_rows rows = list_all (λ r. dark r.name) rows

dark-names : (rows : List Row) (set : ℕ) → are_dark_rows rows ≡ true → are_dark (member_names rows set) ≡ true
dark-names [] set are = refl
dark-names (r ∷ rows) set are =
    let each = and_parts (dark r.name) (are_dark_rows rows) are in
    go (set % 2 == 1) each.0 (dark-names rows (set / 2) each.1)
  where
    go : (low : Bool) → dark r.name ≡ true → are_dark (member_names rows (set / 2)) ≡ true → are_dark (cond low (r.name ∷ member_names rows (set / 2)) (member_names rows (set / 2))) ≡ true
    go true first rest = dark-more r.name (member_names rows (set / 2)) first rest
    go false first rest = rest

dark-joined : (words : List (List ℕ)) → are_dark words ≡ true → dark (joined 44 words) ≡ true
dark-joined [] are = refl
dark-joined (word ∷ []) are = (and_parts (dark word) true are).0
dark-joined (word ∷ next ∷ words) are =
    let each = and_parts (dark word) (are_dark (next ∷ words)) are in
    dark-both word (44 ∷ joined 44 (next ∷ words)) each.0 (dark-joined (next ∷ words) each.1)

dark-set : (rows : List Row) (set : ℕ) → are_dark_rows rows ≡ true → dark (set_word rows set) ≡ true
unfolding set_word
dark-set rows set are =
    go (set == 0) (ap dark (listed-joined (member_names rows set)) ∙ dark-joined (member_names rows set) (dark-names rows set are))
  where
    go : (none : Bool) → dark (listed [] (member_names rows set)) ≡ true → dark (cond none (codes "none") (listed [] (member_names rows set))) ≡ true
    go true rest = refl
    go false rest = rest

-- PARTS OF A LINE

dark-operand : (o : RealOperand) → is_real_operand o ≡ true → are_dark (operand_words o) ≡ true
dark-operand (Number n) is = dark-more (decimal n) [] (dark-number n is) refl
dark-operand (Path path) is = dark-more (quoted path) [] (dark-quoted path) refl
dark-operand (Flags flags) is = dark-more (set_word flag_rows (flag_set flags)) [] (dark-set flag_rows (flag_set flags) refl) refl
dark-operand (Rights set) is = dark-more (set_word right_rows set) [] (dark-set right_rows set refl) refl
dark-operand (Commands set) is = dark-more (set_word command_rows set) [] (dark-set command_rows set refl) refl
dark-operand (Directory true) is = refl
dark-operand (Directory false) is = refl

dark-operands : (kinds : List OperandKind) (operands : List RealOperand) → are_of_kinds kinds operands ≡ true → are_dark (flat_map operand_words operands) ≡ true
dark-operands [] [] are = refl
dark-operands [] (operand ∷ operands) are = absurd cc
dark-operands (kind ∷ kinds) [] are = refl
dark-operands (kind ∷ kinds) (operand ∷ operands) are =
    let each = three-parts (is_of_kind kind operand) (is_real_operand operand) (are_of_kinds kinds operands) are in
    words-both (operand_words operand) (flat_map operand_words operands) (dark-operand operand each.1) (dark-operands kinds operands each.2)

dark-outcome : (o : RecordedOutcome) → is_outcome o ≡ true → are_dark (outcome_words o) ≡ true
dark-outcome (Succeeds n) is = dark-more (decimal n) [] (dark-number n is) refl
dark-outcome (Fails e) is = dark-more (errno_name e) [] (error-dark e) refl

dark-side : (side : ℕ) → dark (end_side_word side) ≡ true
dark-side zero = refl
dark-side (suc n) = refl

dark-binding : (b : Binding) → is_binding b ≡ true → are_dark (binding_words b) ≡ true
dark-binding (Is_place d place) is =
    let each = and_parts (is_real_number d) (is_text place) is in
    dark-more (64 ∷ decimal d) (quoted place ∷ []) (dark-number d each.0) (dark-more (quoted place) [] (dark-quoted place) refl)
dark-binding (Is_end d pair side) is =
    let each = three-parts (is_real_number d) (is_real_number pair) (nat_lt side 2) is in
    dark-more (64 ∷ decimal d) (codes "sock" ∷ decimal pair ∷ end_side_word side ∷ []) (dark-number d each.0)
    (dark-more (decimal pair) (end_side_word side ∷ []) (dark-number pair each.1) (dark-more (end_side_word side) [] (dark-side side) refl))

dark-bindings : (bs : List Binding) → list_all is_binding bs ≡ true → are_dark (flat_map binding_words bs) ≡ true
dark-bindings [] are = refl
dark-bindings (b ∷ bs) are =
    let each = and_parts (is_binding b) (list_all is_binding bs) are in
    words-both (binding_words b) (flat_map binding_words bs) (dark-binding b each.0) (dark-bindings bs each.1)

dark-amount : (bytes : Option ℕ) → is_amount bytes ≡ true → are_dark (amount_words bytes) ≡ true
dark-amount None is = refl
dark-amount (Some n) is = dark-more (decimal n) [] (dark-number n is) refl

dark-made : (made : MadeCall) → is_made made ≡ true → are_dark (made_words made) ≡ true
dark-made made is =
    let each = and_parts (are_of_kinds (operand_kinds made.call) made.operands && is_outcome made.outcome && list_all is_binding made.bindings) (is_amount made.bytes) is in
    let parts = three-parts (are_of_kinds (operand_kinds made.call) made.operands) (is_outcome made.outcome) (list_all is_binding made.bindings) each.0 in
    let bound = flat_map binding_words made.bindings ++ amount_words made.bytes in
    dark-more (call_name made.call) (flat_map operand_words made.operands ++ (outcome_words made.outcome ++ bound)) (call-dark made.call)
    (words-both (flat_map operand_words made.operands) (outcome_words made.outcome ++ bound) (dark-operands (operand_kinds made.call) made.operands parts.0)
    (words-both (outcome_words made.outcome) bound (dark-outcome made.outcome parts.1)
    (words-both (flat_map binding_words made.bindings) (amount_words made.bytes) (dark-bindings made.bindings parts.2) (dark-amount made.bytes each.1))))

dark-wanted : (wanted : Option WantedRight) → is_wanted wanted ≡ true → are_dark (wanted_words wanted) ≡ true
dark-wanted None is = refl
dark-wanted (Some wanted) is =
    let each = and_parts (is_call_name wanted.right) (is_real_number wanted.descriptor) is in
    dark-more wanted.right (decimal wanted.descriptor ∷ []) (dark-word wanted.right each.0) (dark-more (decimal wanted.descriptor) [] (dark-number wanted.descriptor each.1) refl)

dark-event : (e : RecordedEvent) → is_event e ≡ true → are_dark (event_words e) ≡ true
dark-event (Called made) is = dark-made made is
dark-event Ended is = refl
dark-event (Omitted l) is =
    let each = and_parts (is_call_name l.name) (is_wanted l.wanted) is in
    dark-more (reason_name l.reason) (l.name ∷ wanted_words l.wanted) (reason-dark l.reason)
    (dark-more l.name (wanted_words l.wanted) (dark-word l.name each.0) (dark-wanted l.wanted each.1))

-- All words of an entry are dark.
dark-entry : (e : RecordEntry) → is_entry e ≡ true → are_dark (entry_words e) ≡ true
dark-entry e is =
    let each = three-parts (is_span e.span) (is_real_number e.process) (is_event e.event) is in
    let span = three-parts (is_real_number e.span.first) (is_real_number e.span.last) (nat_le e.span.first e.span.last) each.0 in
    dark-more (decimal e.span.first) (decimal e.span.last ∷ decimal e.process ∷ event_words e.event) (dark-number e.span.first span.0)
    (dark-more (decimal e.span.last) (decimal e.process ∷ event_words e.event) (dark-number e.span.last span.1)
    (dark-more (decimal e.process) (event_words e.event) (dark-number e.process each.1) (dark-event e.event each.2)))

-- A LINE

-- dark words have no space
lack-space : (words : List (List ℕ)) → are_dark words ≡ true → list_all (lacks 32) words ≡ true
lack-space [] are = refl
lack-space (word ∷ words) are =
    let each = and_parts (dark word) (are_dark words) are in
    and_from (lacks 32 word) (list_all (lacks 32) words) (lacks-by is_dark 32 word refl each.0) (lack-space words each.1)

-- the line of dark words has no line feed
abbrev is_shown : ℕ → Bool
is_shown byte = nat_le 32 byte

shown-dark : (b : ℕ) → is_dark b ≡ true → is_shown b ≡ true
shown-dark b is = grind (arith, nat_tests)

shown-joined : (words : List (List ℕ)) → are_dark words ≡ true → list_all is_shown (joined 32 words) ≡ true
shown-joined [] are = refl
shown-joined (word ∷ []) are = all-by is_dark is_shown word shown-dark (and_parts (dark word) true are).0
shown-joined (word ∷ next ∷ words) are =
    let each = and_parts (dark word) (are_dark (next ∷ words)) are in
    let first = all-by is_dark is_shown word shown-dark each.0 in
    list_all-append is_shown word (32 ∷ joined 32 (next ∷ words)) ∙ and_from (list_all is_shown word) (list_all is_shown (joined 32 (next ∷ words))) first (shown-joined (next ∷ words) each.1)

-- The text of an entry is one line,
pub text-lacks : (e : RecordEntry) → is_entry e ≡ true → lacks 10 (entry_text e) ≡ true
unfolding entry_text
text-lacks e is = lacks-by is_shown 10 (joined 32 (entry_words e)) refl (shown-joined (entry_words e) (dark-entry e is))

-- it isn't the last one,
no-letter : (b : ℕ) → is_digit b ≡ true → (b == 101) ≡ false
no-letter b is = grind (arith, nat_tests)

number-first : (number rest : List ℕ) → list_all is_digit number ≡ true → is_counts_line (number ++ 32 ∷ rest) ≡ false
number-first [] rest are = refl
number-first (b ∷ number) rest are = let each = and_parts (is_digit b) (list_all is_digit number) are in no-letter b each.0

pub text-goes-on : (e : RecordEntry) → is_entry e ≡ true → is_counts_line (entry_text e) ≡ false
unfolding entry_text
text-goes-on e is =
    let each = three-parts (is_span e.span) (is_real_number e.process) (is_event e.event) is in
    let span = three-parts (is_real_number e.span.first) (is_real_number e.span.last) (nat_le e.span.first e.span.last) each.0 in
    let below = ltb-true e.span.first (2 ^ 32) span.0 in
    number-first (decimal e.span.first) (joined 32 (decimal e.span.last ∷ decimal e.process ∷ event_words e.event)) (digits-decimal e.span.first (omega (arith, below)))

-- and it is read as the entry.
words-are : (e : RecordEntry) → is_entry e ≡ true → parts 32 (entry_text e) ≡ entry_words e
unfolding entry_text
words-are e is = parts-joined 32 (decimal e.span.first) (decimal e.span.last ∷ decimal e.process ∷ event_words e.event) (lack-space (entry_words e) (dark-entry e is))

pub text-back : (e : RecordEntry) → is_entry e ≡ true → entry_of_text (entry_text e) ≡ Some e
unfolding entry_of_text
text-back e is =
    ap (λ words. option_and_then (if_text (entry_text e)) (entry_of_words words)) (words-are e is)
    ∙ ap (option_and_then (if_text (entry_text e))) (entry-back e is)
    ∙ ap (λ (same : Bool). cond same (Some e) None) (same-text (entry_text e))
