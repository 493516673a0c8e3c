-- The text of a line is read as that line, and is one line of a text, which isn't the last one.
use Rattle.std.proofs.Common.{◌≡◌, ℕ, zero, suc, ◌^◌, ◌<◌, ◌≤◌, Bool, true, false, not, cond, List, [], ◌∷◌, ◌++◌, length, decimal, refl, ap, sym, ◌∙◌, arith, leb-true}
use Rattle.std.proofs.Common.{ltb-true, le-leb}
use Rattle.std.specs.Prelude.{◌==◌, ◌&&◌, codes, nat_le, nat_lt, Option, Some, None, Result, Ok, Err}
use Rattle.std.specs.List.{list_all}
use Rattle.std.specs.Str.{bytes_eq}
use Rattle.std.proofs.lemmas.Bool.{and_from, and_parts}
use Rattle.std.proofs.lemmas.Bool.Decides.{nat_tests}
use Rattle.std.proofs.lemmas.List.Folds.{list_all-append}
use Rattle.rights.specs.Classes.{Class, Initial, Made_at}
use Rattle.rights.specs.Sets.{all_commands, all_rights, further_part, is_within, plain_part}
use Rattle.rights.proofs.Words.{same_bytes}
use Rattle.texts.specs.Bytes.{is_digit, is_lower}
use Rattle.texts.specs.Hex.{hex_of, hex_text, is_hex_digit}
use Rattle.texts.specs.Names.{is_name, is_name_byte}
use Rattle.texts.specs.Numbers.{number_of}
use Rattle.texts.specs.Parts.{joined, parts}
use Rattle.texts.proofs.HexTexts.{digits-hex, hex-back}
use Rattle.texts.proofs.NumberTexts.{digits-decimal, number-decimal}
use Rattle.texts.proofs.WordLaws.{lacks, lacks-by, parts-joined, parts-more, parts-one}
use Rattle.certificate.specs.Bounds.{ModeBound, Off, On, Either, Interval, Target, In_grant, Any_node, Socket, Unknown, Held, Slot, Closed, Open, Maybe, Version, One, Two, Three, Four, full_interval}
use Rattle.certificate.specs.Bounds.{has_authorities, held_in, tells_further}
use Rattle.certificate.specs.Lines.{Line, Begins_block, Bounds_register, Bounds_slot, Bounds_channel, Begins_authority, Bounds_grant, Holds_end, are_held, are_named, are_numbered, is_bound_slot}
use Rattle.certificate.specs.Lines.{is_held_bound, is_interval, is_line}
use Rattle.certificate.specs.Lines.{is_ceiling, is_of_version, is_named_class, is_named_target, is_numbered_class, is_numbered_target, is_range}
use Rattle.certificate.specs.Told.{is_told, is_told_ceiling}
use Rattle.certificate_text.specs.Faults.{Fault, Syntax, Limit, both, formed, with_part}
use Rattle.certificate_text.specs.Readings.{line_of_text}
use Rattle.certificate_text.specs.Texts.{ceiling_words, class_word, end_line, further_word, held_words, if_further, line_text, line_words, mode_word, plain_word, sends_words, set_words, side_word}
use Rattle.certificate_text.specs.Texts.{slot_words, target_words}
use Rattle.certificate_text.specs.Words.{authority_of_words, ceiling_of_words, ceiling_with, end_of_words, end_with, other_line, register_of_words}
use Rattle.certificate_text.specs.Words.{block_with, channel_with, class_of_word, held_behind, held_of_words, held_with, interval_from, line_of_words, mode_of_word, name_of_word}
use Rattle.certificate_text.specs.Words.{point_of_program, range_from, sends_of_words, side_of_word, slot_of_words, up_to}
use Rattle.certificate_text.proofs.RightSets.{within-most}
use Rattle.certificate_text.proofs.SetWords.{ceiling-back, rights-back}

-- the three parts of a test
three-parts : (a b c : Bool) → (a && b && c) ≡ true → (a ≡ true) × (b ≡ true) × (c ≡ true)
three-parts a b c is = let each = and_parts (a && b) c is in let front = and_parts a b each.0 in (front.0, front.1, each.1)

-- WORDS ARE DARK: their bytes are above the space.

is_dark : ℕ → Bool
is_dark byte = nat_lt 32 byte

abbrev are_dark : List (List ℕ) → Bool
are_dark words = list_all (list_all is_dark) words

all-by : (test other : ℕ → Bool) (word : List ℕ) → ((b : ℕ) → test b ≡ true → other b ≡ true) → list_all test word ≡ true → list_all other word ≡ true
all-by test other [] by is = refl
all-by test other (b ∷ word) by is =
    let each = and_parts (test b) (list_all test word) is in
    and_from (other b) (list_all other word) (by b each.0) (all-by test other word by each.1)

dark-digit : (b : ℕ) → is_digit b ≡ true → is_dark b ≡ true
unfolding is_dark
dark-digit b is = grind (arith, nat_tests)

dark-hex : (b : ℕ) → is_hex_digit b ≡ true → is_dark b ≡ true
unfolding is_dark
dark-hex b is = grind (arith, nat_tests)

dark-byte : (b : ℕ) → is_name_byte b ≡ true → is_dark b ≡ true
unfolding is_dark
dark-byte b is = grind (arith, nat_tests)

lower-byte : (b : ℕ) → is_lower b ≡ true → is_name_byte b ≡ true
lower-byte b is = grind (arith, nat_tests)

-- the bytes of a name
name-bytes : (name : List ℕ) → is_name name ≡ true → list_all is_name_byte name ≡ true
name-bytes [] is = absurd cc
name-bytes (b ∷ name) is =
    let each = three-parts (is_lower b) (nat_lt (length name) 16) (list_all is_name_byte name) is in
    and_from (is_name_byte b) (list_all is_name_byte name) (lower-byte b each.0) each.2

dark-name : (name : List ℕ) → is_name name ≡ true → list_all is_dark name ≡ true
dark-name name is = all-by is_name_byte is_dark name dark-byte (name-bytes name is)

dark-number : (n : ℕ) → n < 2 ^ 64 → list_all is_dark (decimal n) ≡ true
dark-number n small = all-by is_digit is_dark (decimal n) dark-digit (digits-decimal n small)

dark-set : (count n : ℕ) → list_all is_dark (hex_text count n) ≡ true
dark-set count n = all-by is_hex_digit is_dark (hex_text count n) dark-hex (digits-hex count n)

-- words one after another
dark-more : (word : List ℕ) (words : List (List ℕ)) → list_all is_dark word ≡ true → are_dark words ≡ true → are_dark (word ∷ words) ≡ true
dark-more word words dark rest = and_from (list_all is_dark word) (are_dark words) dark rest

dark-class : (class : Class) → is_named_class class ≡ true → is_numbered_class class ≡ true → list_all is_dark (class_word class) ≡ true
unfolding is_dark
dark-class (Initial n) named numbered = let below = ltb-true n 32 numbered in dark-number n (omega (arith, below))
dark-class (Made_at program point) named numbered =
    let below = ltb-true point 256 numbered in
    list_all-append is_dark program (58 ∷ decimal point)
    ∙ and_from (list_all is_dark program) (list_all is_dark (58 ∷ decimal point)) (dark-name program named) (dark-number point (omega (arith, below)))

dark-side : (side : ℕ) → list_all is_dark (side_word side) ≡ true
unfolding is_dark
dark-side zero = refl
dark-side (suc n) = refl

dark-mode : (mode : ModeBound) → list_all is_dark (mode_word mode) ≡ true
unfolding is_dark
dark-mode Off = refl
dark-mode On = refl
dark-mode Either = refl

dark-target : (target : Target) → is_named_target target ≡ true → is_numbered_target target ≡ true → are_dark (target_words target) ≡ true
unfolding is_dark
dark-target (In_grant name) named numbered = dark-more name [] (dark-name name named) refl
dark-target Any_node named numbered = refl
dark-target (Socket class side) named numbered =
    let each = and_parts (is_named_class class) (nat_lt side 2) named in
    dark-more (class_word class) (side_word side ∷ []) (dark-class class each.0 numbered) (dark-more (side_word side) [] (dark-side side) refl)
dark-target Unknown named numbered = refl

dark-if : (version : Version) (words : List (List ℕ)) → are_dark words ≡ true → are_dark (if_further version words) ≡ true
dark-if version words dark = go (tells_further version)
  where
    go : (tells : Bool) → are_dark (cond tells words []) ≡ true
    go true = dark
    go false = refl

dark-sets : (version : Version) (held : Held) → are_dark (set_words version held) ≡ true
dark-sets version held =
    dark-more (plain_word held.least) (plain_word held.greatest ∷ hex_text 1 held.least_fcntls ∷ hex_text 1 held.greatest_fcntls ∷ if_further version further) (dark-set 4 _)
    (dark-more (plain_word held.greatest) (hex_text 1 held.least_fcntls ∷ hex_text 1 held.greatest_fcntls ∷ if_further version further) (dark-set 4 _)
    (dark-more (hex_text 1 held.least_fcntls) (hex_text 1 held.greatest_fcntls ∷ if_further version further) (dark-set 1 held.least_fcntls)
    (dark-more (hex_text 1 held.greatest_fcntls) (if_further version further) (dark-set 1 held.greatest_fcntls)
    (dark-if version further
    (dark-more (further_word held.least) (further_word held.greatest ∷ []) (dark-set 8 _) (dark-more (further_word held.greatest) [] (dark-set 8 _) refl))))))
  where
    further : List (List ℕ)
    further = further_word held.least ∷ further_word held.greatest ∷ []

dark-held : (version : Version) (held : Held) → is_named_target held.target ≡ true → is_numbered_target held.target ≡ true → are_dark (held_words version held) ≡ true
dark-held version held named numbered =
    list_all-append (list_all is_dark) (target_words held.target) (set_words version held)
    ∙ and_from (are_dark (target_words held.target)) (are_dark (set_words version held)) (dark-target held.target named numbered) (dark-sets version held)

dark-sends : (version : Version) (sends : Option Held) → are_named sends ≡ true → are_numbered sends ≡ true → are_dark (sends_words version sends) ≡ true
unfolding is_dark
dark-sends version None named numbered = refl
dark-sends version (Some held) named numbered = dark-held version held named numbered

-- All words of a line are dark.
dark-line : (version : Version) (line : Line) → is_line line ≡ true → are_dark (line_words version line) ≡ true
unfolding is_dark
dark-line version (Begins_block program point mode) is =
    let each = three-parts (is_name program) true (nat_lt point 256) is in
    let below = ltb-true point 256 each.2 in
    dark-more program (decimal point ∷ mode_word mode ∷ []) (dark-name program each.0)
    (dark-more (decimal point) (mode_word mode ∷ []) (dark-number point (omega (arith, below))) (dark-more (mode_word mode) [] (dark-mode mode) refl))
dark-line version (Bounds_register register interval) is =
    let each = three-parts true (is_interval interval) (nat_lt register 8 && nat_le interval.high full_interval.high) is in
    let numbers = and_parts (nat_lt register 8) _ each.2 in
    let ends = and_parts (nat_le interval.low interval.high) _ each.1 in
    let below = ltb-true register 8 numbers.0 in
    let high = leb-true interval.high full_interval.high numbers.1 in
    let low = leb-true interval.low interval.high ends.0 in
    dark-more (decimal register) (decimal interval.low ∷ decimal interval.high ∷ []) (dark-number register (omega (arith, below)))
    (dark-more (decimal interval.low) (decimal interval.high ∷ []) (dark-number interval.low (omega (arith, high, low)))
    (dark-more (decimal interval.high) [] (dark-number interval.high (omega (arith, high))) refl))
dark-line version (Bounds_slot number Closed) is =
    let each = three-parts true false (nat_lt number 16 && true) is in absurd (let none : false ≡ true = each.1 in cc)
dark-line version (Bounds_slot number (Open held)) is =
    let each = three-parts (is_named_target held.target) (is_held_bound held) (nat_lt number 16 && is_numbered_target held.target) is in
    let numbers = and_parts (nat_lt number 16) (is_numbered_target held.target) each.2 in
    let below = ltb-true number 16 numbers.0 in
    dark-more (decimal number) (slot_words version (Open held)) (dark-number number (omega (arith, below))) (dark-held version held each.0 numbers.1)
dark-line version (Bounds_slot number (Maybe held)) is =
    let each = three-parts (is_named_target held.target) (is_held_bound held) (nat_lt number 16 && is_numbered_target held.target) is in
    let numbers = and_parts (nat_lt number 16) (is_numbered_target held.target) each.2 in
    let below = ltb-true number 16 numbers.0 in
    dark-more (decimal number) (slot_words version (Maybe held)) (dark-number number (omega (arith, below))) (dark-held version held each.0 numbers.1)
dark-line version (Bounds_channel channel) is =
    let all_named = is_named_class channel.class && nat_lt channel.side 2 && are_named channel.sends in
    let each = three-parts all_named (are_held channel.sends) (is_numbered_class channel.class && are_numbered channel.sends) is in
    let names = three-parts (is_named_class channel.class) (nat_lt channel.side 2) (are_named channel.sends) each.0 in
    let numbers = and_parts (is_numbered_class channel.class) (are_numbered channel.sends) each.2 in
    dark-more (class_word channel.class) (side_word channel.side ∷ sends_words version channel.sends) (dark-class channel.class names.0 numbers.0)
    (dark-more (side_word channel.side) (sends_words version channel.sends) (dark-side channel.side) (dark-sends version channel.sends names.2 numbers.1))
dark-line version (Begins_authority program) is =
    let each = three-parts (is_name program) true true is in dark-more program [] (dark-name program each.0) refl
dark-line version (Bounds_grant ceiling) is =
    let each = three-parts (is_name ceiling.grant) (is_ceiling ceiling.rights) true is in
    dark-more ceiling.grant (ceiling_words version ceiling.rights) (dark-name ceiling.grant each.0)
    (dark-more (plain_word ceiling.rights) (if_further version (further_word ceiling.rights ∷ [])) (dark-set 4 (plain_part ceiling.rights))
    (dark-if version (further_word ceiling.rights ∷ []) (dark-more (further_word ceiling.rights) [] (dark-set 8 (further_part ceiling.rights)) refl)))
dark-line version (Holds_end held) is =
    let each = three-parts (is_named_class held.class && nat_lt held.side 2) true (is_numbered_class held.class) is in
    let names = and_parts (is_named_class held.class) (nat_lt held.side 2) each.0 in
    dark-more (class_word held.class) (side_word held.side ∷ []) (dark-class held.class names.0 each.2) (dark-more (side_word held.side) [] (dark-side held.side) refl)

-- WORDS ARE READ BACK

is_some_word : List (List ℕ) → Bool
is_some_word [] = false
is_some_word (word ∷ words) = true

up-to-back : (limit n : ℕ) → n ≤ limit → limit < 2 ^ 64 → up_to limit (number_of (decimal n)) ≡ Ok n
up-to-back limit n within below =
    ap (up_to limit) (number-decimal n (omega (arith, within, below))) ∙ ap (λ (b : Bool). cond b (Ok n) (Err Limit)) (le-leb n limit within)

name-back : (name : List ℕ) → is_name name ≡ true → name_of_word name ≡ Ok name
name-back name is = ap (λ (b : Bool). cond b (Ok name) (Err Syntax)) is

mode-back : (mode : ModeBound) → formed (mode_of_word (mode_word mode)) ≡ Ok mode
mode-back Off = refl
mode-back On = refl
mode-back Either = refl

side-back : (side : ℕ) → nat_lt side 2 ≡ true → formed (side_of_word (side_word side)) ≡ Ok side
side-back zero is = refl
side-back (suc zero) is = refl
side-back (suc (suc n)) is = absurd (let below = ltb-true (suc (suc n)) 2 is in omega (arith, below))

no-at-sign : (b : ℕ) → is_lower b ≡ true → (b == 64) ≡ false
no-at-sign b is = grind (arith, nat_tests)

class-back : (class : Class) → is_named_class class ≡ true → is_numbered_class class ≡ true → class_of_word (class_word class) ≡ Ok class
class-back (Initial n) named numbered =
    let below = ltb-true n 32 numbered in
    ap (with_part Initial) (up-to-back 31 n (omega (arith, below)) (omega arith))
class-back (Made_at [] point) named numbered = absurd cc
class-back (Made_at (b ∷ program) point) named numbered =
    let below = ltb-true point 256 numbered in
    let letter = three-parts (is_lower b) (nat_lt (length program) 16) (list_all is_name_byte program) named in
    let word = b ∷ (program ++ 58 ∷ decimal point) in
    ap (λ (a : Bool). cond a (with_part Initial (up_to 31 (number_of (program ++ 58 ∷ decimal point)))) (point_of_program (parts 58 word))) (no-at-sign b letter.0)
    ∙ ap point_of_program (
    parts-more 58 (b ∷ program) (decimal point) (lacks-by is_name_byte 58 (b ∷ program) refl (name-bytes (b ∷ program) named))
    ∙ ap (λ rest. (b ∷ program) ∷ rest) (parts-one 58 (decimal point) (lacks-by is_digit 58 (decimal point) refl (digits-decimal point (omega (arith, below)))))
    )
    ∙ (λ i. both Made_at (name-back (b ∷ program) named i) (up-to-back 255 point (omega (arith, below)) (omega arith) i))

interval-back : (i : Interval) → is_interval i ≡ true → nat_le i.high full_interval.high ≡ true → interval_from (number_of (decimal i.low)) (number_of (decimal i.high)) ≡ Ok i
interval-back i is within =
    let ends = and_parts (nat_le i.low i.high) _ is in
    let high = leb-true i.high full_interval.high within in
    let low = leb-true i.low i.high ends.0 in
    (λ k. interval_from (number-decimal i.low (omega (arith, high, low)) k) (number-decimal i.high (omega (arith, high)) k))
    ∙ (λ k. cond (is k) (cond (within k) (Ok i) (Err Limit)) (Err Syntax))

range-back : (all count least greatest : ℕ) → all < 16 ^ count → is_range all least greatest ≡ true
    → range_from all (hex_of count (hex_text count least)) (hex_of count (hex_text count greatest)) ≡ Ok (least, greatest)
range-back all count least greatest known is =
    let each = and_parts (is_within least greatest) (is_within greatest all) is in
    let high = within-most greatest all each.1 in
    let low = within-most least greatest each.0 in
    (λ k. range_from all (hex-back count least (omega (arith, known, high, low)) k) (hex-back count greatest (omega (arith, known, high)) k))
    ∙ ap (λ (b : Bool). cond b (Ok (least, greatest)) (Err Syntax)) is

-- the sets behind what a descriptor is of
sets-back : (version : Version) (target : Result Target Fault) (held : Held) → target ≡ Ok held.target → is_held_bound held ≡ true → is_told version (Some held) ≡ true
    → held_behind version target (set_words version held) ≡ Ok held
sets-back version target held read is told =
    let each = and_parts (is_range all_rights held.least held.greatest) (is_range all_commands held.least_fcntls held.greatest_fcntls) is in
    let rights = rights-back version held.least held.greatest each.0 told in
    let fcntls = range-back all_commands 1 held.least_fcntls held.greatest_fcntls (omega arith) each.1 in
    λ k. both (λ (given : ℕ × ℕ → Held) fcntls. given fcntls) (both held_with (read k) (rights k)) (fcntls k)

target-back : (version : Version) (target : Target) (held : Held) → held.target ≡ target → is_named_target target ≡ true → is_numbered_target target ≡ true
    → is_held_bound held ≡ true → is_told version (Some held) ≡ true → held_of_words version (target_words target ++ set_words version held) ≡ Ok held
target-back version (In_grant name) held same named numbered is told =
    sets-back version (with_part In_grant (name_of_word name)) held (ap (with_part In_grant) (name-back name named) ∙ ap Ok (sym same)) is told
target-back version Any_node held same named numbered is told = sets-back version (Ok Any_node) held (ap Ok (sym same)) is told
target-back version (Socket class side) held same named numbered is told =
    let each = and_parts (is_named_class class) (nat_lt side 2) named in
    sets-back version (both Socket (class_of_word (class_word class)) (formed (side_of_word (side_word side)))) held
    ((λ k. both Socket (class-back class each.0 numbered k) (side-back side each.1 k)) ∙ ap Ok (sym same)) is told
target-back version Unknown held same named numbered is told = sets-back version (Ok Unknown) held (ap Ok (sym same)) is told

held-back : (version : Version) (held : Held) → is_named_target held.target ≡ true → is_numbered_target held.target ≡ true → is_held_bound held ≡ true
    → is_told version (Some held) ≡ true → held_of_words version (held_words version held) ≡ Ok held
held-back version held named numbered is told = target-back version held.target held refl named numbered is told

sends-some : (version : Version) (target : Target) (sets : List (List ℕ)) → is_some_word sets ≡ true
    → sends_of_words version (target_words target ++ sets) ≡ with_part Some (held_of_words version (target_words target ++ sets))
unfolding is_some_word
sends-some version target [] some = absurd cc
sends-some version (In_grant name) (set ∷ sets) some = refl
sends-some version Any_node (set ∷ sets) some = refl
sends-some version (Socket class side) (set ∷ sets) some = refl
sends-some version Unknown (set ∷ sets) some = refl

sends-back : (version : Version) (sends : Option Held) → are_named sends ≡ true → are_numbered sends ≡ true → are_held sends ≡ true → is_told version sends ≡ true
    → sends_of_words version (sends_words version sends) ≡ Ok sends
unfolding is_some_word
sends-back version None named numbered is told = refl
sends-back version (Some held) named numbered is told =
    sends-some version held.target (set_words version held) refl ∙ ap (with_part Some) (held-back version held named numbered is told)

slot-back : (version : Version) (slot : Slot) → are_named (held_in slot) ≡ true → are_numbered (held_in slot) ≡ true → is_bound_slot slot ≡ true
    → is_told version (held_in slot) ≡ true → slot_of_words version (slot_words version slot) ≡ Ok slot
slot-back version Closed named numbered is told = absurd cc
slot-back version (Open held) named numbered is told = ap (with_part Open) (held-back version held named numbered is told)
slot-back version (Maybe held) named numbered is told = ap (with_part Maybe) (held-back version held named numbered is told)

-- a register's line is read alike in all versions
either_way : {A : Type 0} (b : Bool) (x : A) → cond b x x ≡ x
either_way true x = refl
either_way false x = refl

words-back : (version : Version) (line : Line) → is_line line ≡ true → is_of_version version line ≡ true → line_of_words version (line_words version line) ≡ Ok line
words-back version (Begins_block program point mode) is own =
    let each = three-parts (is_name program) true (nat_lt point 256) is in
    let below = ltb-true point 256 each.2 in
    let number = up-to-back 255 point (omega (arith, below)) (omega arith) in
    λ k. both (λ (given : ModeBound → Line) mode. given mode) (both block_with (name-back program each.0 k) (number k)) (mode-back mode k)
words-back version (Bounds_register register interval) is own =
    let each = three-parts true (is_interval interval) (nat_lt register 8 && nat_le interval.high full_interval.high) is in
    let numbers = and_parts (nat_lt register 8) _ each.2 in
    let below = ltb-true register 8 numbers.0 in
    let number = up-to-back 7 register (omega (arith, below)) (omega arith) in
    either_way (has_authorities version) (register_of_words (decimal register) (decimal interval.low ∷ decimal interval.high ∷ []))
    ∙ (λ k. both Bounds_register (number k) (interval-back interval each.1 numbers.1 k))
words-back version (Bounds_slot number slot) is own =
    let each = three-parts (are_named (held_in slot)) (is_bound_slot slot) (nat_lt number 16 && are_numbered (held_in slot)) is in
    let numbers = and_parts (nat_lt number 16) (are_numbered (held_in slot)) each.2 in
    let below = ltb-true number 16 numbers.0 in
    let first = up-to-back 15 number (omega (arith, below)) (omega arith) in
    λ k. both Bounds_slot (first k) (slot-back version slot each.0 numbers.1 each.1 own k)
words-back version (Bounds_channel channel) is own =
    let all_named = is_named_class channel.class && nat_lt channel.side 2 && are_named channel.sends in
    let each = three-parts all_named (are_held channel.sends) (is_numbered_class channel.class && are_numbered channel.sends) is in
    let names = three-parts (is_named_class channel.class) (nat_lt channel.side 2) (are_named channel.sends) each.0 in
    let numbers = and_parts (is_numbered_class channel.class) (are_numbered channel.sends) each.2 in
    λ k. both (λ (given : Option Held → Line) sends. given sends)
    (both channel_with (class-back channel.class names.0 numbers.0 k) (side-back channel.side names.1 k)) (sends-back version channel.sends names.2 numbers.1 each.1 own k)
words-back version (Begins_authority program) is own =
    let each = three-parts (is_name program) true true is in
    ap (λ (b : Bool). cond b (authority_of_words (program ∷ [])) (other_line (codes "auth") (program ∷ []))) own
    ∙ ap (with_part Begins_authority) (name-back program each.0)
words-back version (Bounds_grant ceiling) is own =
    let each = three-parts (is_name ceiling.grant) (is_ceiling ceiling.rights) true is in
    let words = ceiling.grant ∷ ceiling_words version ceiling.rights in
    let told = and_parts (has_authorities version) (is_told_ceiling version ceiling.rights) own in
    ap (λ (b : Bool). cond b (ceiling_of_words version words) (other_line (codes "ceil") words)) told.0
    ∙ (λ k. both ceiling_with (name-back ceiling.grant each.0 k) (ceiling-back version ceiling.rights each.1 told.1 k))
words-back version (Holds_end held) is own =
    let each = three-parts (is_named_class held.class && nat_lt held.side 2) true (is_numbered_class held.class) is in
    let names = and_parts (is_named_class held.class) (nat_lt held.side 2) each.0 in
    let words = class_word held.class ∷ side_word held.side ∷ [] in
    ap (λ (b : Bool). cond b (end_of_words words) (other_line (codes "hold") words)) own
    ∙ (λ k. both end_with (class-back held.class names.0 each.2 k) (side-back held.side names.1 k))

-- LINES

some-word : (version : Version) (line : Line) → is_some_word (line_words version line) ≡ true
unfolding is_some_word
some-word version (Begins_block program point mode) = refl
some-word version (Bounds_register register interval) = refl
some-word version (Bounds_slot number slot) = refl
some-word version (Bounds_channel channel) = refl
some-word version (Begins_authority program) = refl
some-word version (Bounds_grant ceiling) = refl
some-word version (Holds_end held) = refl

dark-lack : (separator : ℕ) (words : List (List ℕ)) → is_dark separator ≡ false → are_dark words ≡ true → list_all (lacks separator) words ≡ true
dark-lack separator [] not_dark dark = refl
dark-lack separator (word ∷ words) not_dark dark =
    let each = and_parts (list_all is_dark word) (are_dark words) dark in
    and_from (lacks separator word) (list_all (lacks separator) words) (lacks-by is_dark separator word not_dark each.0) (dark-lack separator words not_dark each.1)

parts-words : (words : List (List ℕ)) → is_some_word words ≡ true → are_dark words ≡ true → parts 32 (joined 32 words) ≡ words
unfolding is_some_word is_dark
parts-words [] some dark = absurd cc
parts-words (word ∷ words) some dark = parts-joined 32 word words (dark-lack 32 (word ∷ words) refl dark)

-- The text of a line is read as that line.
pub line-back : (version : Version) (line : Line) → is_line line ≡ true → is_of_version version line ≡ true → line_of_text version (line_text version line) ≡ Ok line
unfolding line_of_text line_text
line-back version line is own =
    ap (line_of_words version) (parts-words (line_words version line) (some-word version line) (dark-line version line is)) ∙ words-back version line is own

joined-lacks : (byte separator : ℕ) (words : List (List ℕ)) → (separator == byte) ≡ false → list_all (lacks byte) words ≡ true → lacks byte (joined separator words) ≡ true
joined-lacks byte separator [] other lack = refl
joined-lacks byte separator (word ∷ []) other lack = (and_parts (lacks byte word) true lack).0
joined-lacks byte separator (word ∷ next ∷ words) other lack =
    let each = and_parts (lacks byte word) (list_all (lacks byte) (next ∷ words)) lack in
    let rest = joined-lacks byte separator (next ∷ words) other each.1 in
    list_all-append (λ b. not (b == byte)) word (separator ∷ joined separator (next ∷ words))
    ∙ and_from (lacks byte word) (lacks byte (separator ∷ joined separator (next ∷ words))) each.0
    (and_from (not (separator == byte)) (lacks byte (joined separator (next ∷ words))) (ap not other) rest)

-- It has no line feed.
pub text-lacks : (version : Version) (line : Line) → is_line line ≡ true → lacks 10 (line_text version line) ≡ true
unfolding line_text is_dark
text-lacks version line is = joined-lacks 10 32 (line_words version line) refl (dark-lack 10 (line_words version line) refl (dark-line version line is))

last-fails : (version : Version) → line_of_text version end_line ≡ Err Syntax
unfolding line_of_text
last-fails One = refl
last-fails Two = refl
last-fails Three = refl
last-fails Four = refl

-- It isn't the last line.
pub text-goes-on : (version : Version) (line : Line) → is_line line ≡ true → is_of_version version line ≡ true → bytes_eq (line_text version line) end_line ≡ false
text-goes-on version line is own = go (bytes_eq (line_text version line) end_line) refl
  where
    go : (same : Bool) → bytes_eq (line_text version line) end_line ≡ same → same ≡ false
    go false same = refl
    go true same =
        let read : line_of_text version end_line ≡ Ok line = ap (line_of_text version) (sym (same_bytes (line_text version line) end_line same)) ∙ line-back version line is own in
        absurd (let fails : Err Syntax ≡ Ok line = sym (last-fails version) ∙ read in cc)
