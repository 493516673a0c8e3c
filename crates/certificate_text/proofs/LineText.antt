-- Bytes that are read as a line are that line's text.
use Rattle.std.proofs.Common.{◌≡◌, ℕ, Bool, true, false, cond, List, [], ◌∷◌, ◌++◌, decimal, refl, ap, sym, ◌∙◌, subst, arith, eqb-true, leb-true, lt-ltb}
use Rattle.std.specs.Prelude.{◌==◌, nat_le, codes, Option, Some, None, Result, Ok, Err}
use Rattle.std.specs.Str.{bytes_eq}
use Rattle.std.proofs.lemmas.Bool.{and_from, and_parts}
use Rattle.rights.specs.Sets.{all_commands}
use Rattle.rights.proofs.Words.{same_bytes}
use Rattle.texts.specs.Hex.{hex_of, hex_text}
use Rattle.texts.specs.Numbers.{number_of}
use Rattle.texts.specs.Parts.{joined, parts}
use Rattle.texts.proofs.HexTexts.{hex-text}
use Rattle.texts.proofs.NumberTexts.{decimal-number}
use Rattle.texts.proofs.WordLaws.{joined-parts}
use Rattle.certificate.specs.Bounds.{ModeBound, Interval, Target, In_grant, Any_node, Socket, Unknown, Held, Slot, Open, Maybe, Version, full_interval, has_authorities, held_in}
use Rattle.certificate.specs.Lines.{Line, Begins_authority, Bounds_register, Bounds_slot, are_held, are_named, are_numbered, is_bound_slot, is_held_bound, is_interval, is_line}
use Rattle.certificate.specs.Lines.{is_of_version, is_named_target, is_numbered_target, is_range}
use Rattle.certificate.specs.Told.{is_told}
use Rattle.certificate_text.specs.Faults.{Fault, Syntax, Limit, both, formed, with_part}
use Rattle.certificate_text.specs.Readings.{line_of_text}
use Rattle.certificate_text.specs.Texts.{held_words, line_text, line_words, sends_words, set_words, slot_words, target_words}
use Rattle.certificate_text.specs.Words.{authority_of_words, ceiling_of_words, ceiling_with, end_of_words, end_with, further_above, further_of_words, later_line, rights_above}
use Rattle.certificate_text.specs.Words.{block_of_words, block_with, channel_of_words, channel_with, class_of_word, descriptor_of_words, fcntls_of_words, grant_behind, held_behind}
use Rattle.certificate_text.specs.Words.{held_of_words, held_with, interval_from, line_of_words, mode_of_word, name_of_word, other_line, range_from, register_of_words}
use Rattle.certificate_text.specs.Words.{rights_of_words, sends_of_words, side_of_word, slot_of_words, socket_behind, up_to}
use Rattle.certificate_text.proofs.WordsBack.{both-is, with-is, formed-is, up-to-is, name-is, mode-is, side-is, class-is}
use Rattle.certificate_text.proofs.SetWords.{ceiling-is, range-is, rights-are}

-- INTERVALS AND SETS

record IntervalIs (low high : List ℕ) (i : Interval) : Type 0 where
  low_is : decimal i.low ≡ low
  high_is : decimal i.high ≡ high
  proper : is_interval i ≡ true
  numbered : nat_le i.high full_interval.high ≡ true

interval-is : (low high : List ℕ) (i : Interval) → interval_from (number_of low) (number_of high) ≡ Ok i → IntervalIs low high i
interval-is low high i is = go (number_of low) (number_of high) refl refl is
  where
    within : (a b : ℕ) (proper numbered : Bool) → number_of low ≡ Some a → number_of high ≡ Some b
        → is_interval (record { low = a; high = b }) ≡ proper → nat_le b full_interval.high ≡ numbered
        → cond proper (cond numbered (Ok (record { low = a; high = b })) (Err Limit)) (Err Syntax) ≡ Ok i → IntervalIs low high i
    within a b false numbered low_is high_is p n is = absurd cc
    within a b true false low_is high_is p n is = absurd cc
    within a b true true low_is high_is p n is =
        let same : record { low = a; high = b } ≡ i = cc in
        let most = leb-true b full_interval.high n in
        let least = leb-true a b (and_parts (nat_le a b) _ p).0 in
        subst (IntervalIs low high) same (record {
          low_is = sym (decimal-number low a (omega (arith, most, least)) low_is);
          high_is = sym (decimal-number high b (omega (arith, most)) high_is);
          proper = p;
          numbered = n;
        })

    go : (a b : Option ℕ) → number_of low ≡ a → number_of high ≡ b → interval_from a b ≡ Ok i → IntervalIs low high i
    go None b low_is high_is is = absurd cc
    go (Some a) None low_is high_is is = absurd cc
    go (Some a) (Some b) low_is high_is is = within a b (is_interval (record { low = a; high = b })) (nat_le b full_interval.high) low_is high_is refl refl is

record RangeIs (count all : ℕ) (least greatest : List ℕ) (range : ℕ × ℕ) : Type 0 where
  least_is : hex_text count range.0 ≡ least
  greatest_is : hex_text count range.1 ≡ greatest
  proper : is_range all range.0 range.1 ≡ true

digits-are : (count all : ℕ) (least greatest : List ℕ) (range : ℕ × ℕ) → range_from all (hex_of count least) (hex_of count greatest) ≡ Ok range → RangeIs count all least greatest range
digits-are count all least greatest range is =
    let sets = range-is all (hex_of count least) (hex_of count greatest) range is in
    record {
      least_is = sym (hex-text count least range.0 sets.least_is).0;
      greatest_is = sym (hex-text count greatest range.1 sets.greatest_is).0;
      proper = sets.proper;
    }

-- DESCRIPTORS

-- the words behind what a descriptor is of
record SetsAre (version : Version) (target : Result Target Fault) (words : List (List ℕ)) (h : Held) : Type 0 where
  target_is : target ≡ Ok h.target
  words_are : set_words version h ≡ words
  proper : is_held_bound h ≡ true
  told : is_told version (Some h) ≡ true

sets-are : (version : Version) (target : Result Target Fault) (words : List (List ℕ)) (h : Held) → held_behind version target words ≡ Ok h → SetsAre version target words h
sets-are version target [] h is = absurd cc
sets-are version target (a ∷ []) h is = absurd cc
sets-are version target (a ∷ b ∷ []) h is = absurd cc
sets-are version target (a ∷ b ∷ c ∷ []) h is = absurd cc
sets-are version target (a ∷ b ∷ c ∷ d ∷ words) h is =
    let read = rights_of_words a b (further_of_words version words) in
    let outer = both-is (λ (given : ℕ × ℕ → Held) fcntls. given fcntls) (both held_with target read) (fcntls_of_words c d) h is in
    let inner = both-is held_with target read outer.left outer.left_is in
    let rights = rights-are version a b words inner.right inner.right_is in
    let fcntls = digits-are 1 all_commands c d outer.right outer.right_is in
    subst (SetsAre version target (a ∷ b ∷ c ∷ d ∷ words)) (ap (λ (given : ℕ × ℕ → Held). given outer.right) inner.whole ∙ outer.whole) (record {
      target_is = inner.left_is;
      words_are = λ i. rights.least_is i ∷ rights.greatest_is i ∷ fcntls.least_is i ∷ fcntls.greatest_is i ∷ rights.further_are i;
      proper = and_from _ _ rights.proper fcntls.proper;
      told = rights.told;
    })

record HeldIs (version : Version) (words : List (List ℕ)) (h : Held) : Type 0 where
  words_are : held_words version h ≡ words
  named : is_named_target h.target ≡ true
  numbered : is_numbered_target h.target ≡ true
  proper : is_held_bound h ≡ true
  told : is_told version (Some h) ≡ true

-- a descriptor of which it is known what it is of
held-of : (version : Version) (target : Target) (words : List (List ℕ)) (h : Held) → h.target ≡ target → is_named_target target ≡ true → is_numbered_target target ≡ true
    → set_words version h ≡ words → is_held_bound h ≡ true → is_told version (Some h) ≡ true → HeldIs version (target_words target ++ words) h
held-of version target words h is named numbered words_are proper told = record {
  words_are = λ i. target_words (is i) ++ words_are i;
  named = ap is_named_target is ∙ named;
  numbered = ap is_numbered_target is ∙ numbered;
  proper = proper;
  told = told;
}

-- the same part of two readings
same-part : {A : Type 0} (read : Result A Fault) (a b : A) → read ≡ Ok a → read ≡ Ok b → a ≡ b
same-part read a b left right = cc

grant-is : (version : Version) (words : List (List ℕ)) (h : Held) → grant_behind version words ≡ Ok h → HeldIs version (codes "grant" ∷ words) h
grant-is version [] h is = absurd cc
grant-is version (name ∷ words) h is =
    let sets = sets-are version (with_part In_grant (name_of_word name)) words h is in
    let part = with-is In_grant (name_of_word name) h.target sets.target_is in
    let named = name-is name part.0 part.1 in
    subst (λ word. HeldIs version (codes "grant" ∷ word ∷ words) h) named.0
    (held-of version (In_grant part.0) words h (sym part.2) named.1 refl sets.words_are sets.proper sets.told)

socket-is : (version : Version) (words : List (List ℕ)) (h : Held) → socket_behind version words ≡ Ok h → HeldIs version (codes "sock" ∷ words) h
socket-is version [] h is = absurd cc
socket-is version (class ∷ []) h is = absurd cc
socket-is version (class ∷ side ∷ words) h is =
    let sets = sets-are version (both Socket (class_of_word class) (formed (side_of_word side))) words h is in
    let parts_are = both-is Socket (class_of_word class) (formed (side_of_word side)) h.target sets.target_is in
    let first = class-is class parts_are.left parts_are.left_is in
    let second = side-is side parts_are.right (formed-is (side_of_word side) parts_are.right parts_are.right_is) in
    let held = held-of version (Socket parts_are.left parts_are.right) words h (sym parts_are.whole) (and_from _ _ first.named second.1) first.numbered sets.words_are sets.proper sets.told in
    record {
      words_are = held.words_are ∙ (λ i. codes "sock" ∷ first.word_is i ∷ second.0 i ∷ words);
      named = held.named;
      numbered = held.numbered;
      proper = held.proper;
      told = held.told;
    }

plain-is : (version : Version) (target : Target) (words : List (List ℕ)) (h : Held) → is_named_target target ≡ true → is_numbered_target target ≡ true
    → held_behind version (Ok target) words ≡ Ok h → HeldIs version (target_words target ++ words) h
plain-is version target words h named numbered is =
    let sets = sets-are version (Ok target) words h is in
    let same : h.target ≡ target = same-part (Ok target) h.target target sets.target_is refl in
    held-of version target words h same named numbered sets.words_are sets.proper sets.told

held-is : (version : Version) (words : List (List ℕ)) (h : Held) → held_of_words version words ≡ Ok h → HeldIs version words h
held-is version [] h is = absurd cc
held-is version (what ∷ words) h is =
    go (bytes_eq what (codes "grant")) (bytes_eq what (codes "any")) (bytes_eq what (codes "sock")) (bytes_eq what (codes "unknown")) refl refl refl refl is
  where
    behind : (word : List ℕ) → bytes_eq what word ≡ true → HeldIs version (word ∷ words) h → HeldIs version (what ∷ words) h
    behind word same held = subst (λ w. HeldIs version (w ∷ words) h) (sym (same_bytes what word same)) held

    go : (grant any sock unknown : Bool) → bytes_eq what (codes "grant") ≡ grant → bytes_eq what (codes "any") ≡ any → bytes_eq what (codes "sock") ≡ sock
        → bytes_eq what (codes "unknown") ≡ unknown
        → cond grant (grant_behind version words) (cond any (held_behind version (Ok Any_node) words)
        (cond sock (socket_behind version words) (cond unknown (held_behind version (Ok Unknown) words) (Err Syntax)))) ≡ Ok h
        → HeldIs version (what ∷ words) h
    go true any sock unknown a b c d is = behind (codes "grant") a (grant-is version words h is)
    go false true sock unknown a b c d is = behind (codes "any") b (plain-is version Any_node words h refl refl is)
    go false false true unknown a b c d is = behind (codes "sock") c (socket-is version words h is)
    go false false false true a b c d is = behind (codes "unknown") d (plain-is version Unknown words h refl refl is)
    go false false false false a b c d is = absurd cc

record SlotIs (version : Version) (words : List (List ℕ)) (slot : Slot) : Type 0 where
  words_are : slot_words version slot ≡ words
  named : are_named (held_in slot) ≡ true
  numbered : are_numbered (held_in slot) ≡ true
  proper : is_bound_slot slot ≡ true
  told : is_told version (held_in slot) ≡ true

slot-is : (version : Version) (words : List (List ℕ)) (slot : Slot) → slot_of_words version words ≡ Ok slot → SlotIs version words slot
slot-is version [] slot is = absurd cc
slot-is version (presence ∷ words) slot is = go (bytes_eq presence (codes "open")) (bytes_eq presence (codes "maybe")) refl refl is
  where
    go : (opens maybe : Bool) → bytes_eq presence (codes "open") ≡ opens → bytes_eq presence (codes "maybe") ≡ maybe
        → cond opens (with_part Open (held_of_words version words)) (cond maybe (with_part Maybe (held_of_words version words)) (Err Syntax)) ≡ Ok slot → SlotIs version (presence ∷ words) slot
    go true maybe a b is =
        let part = with-is Open (held_of_words version words) slot is in
        let held = held-is version words part.0 part.1 in
        subst (SlotIs version (presence ∷ words)) part.2 (record {
          words_are = λ i. sym (same_bytes presence (codes "open") a) i ∷ held.words_are i;
          named = held.named;
          numbered = held.numbered;
          proper = held.proper;
          told = held.told;
        })
    go false true a b is =
        let part = with-is Maybe (held_of_words version words) slot is in
        let held = held-is version words part.0 part.1 in
        subst (SlotIs version (presence ∷ words)) part.2 (record {
          words_are = λ i. sym (same_bytes presence (codes "maybe") b) i ∷ held.words_are i;
          named = held.named;
          numbered = held.numbered;
          proper = held.proper;
          told = held.told;
        })
    go false false a b is = absurd cc

record SendsAre (version : Version) (words : List (List ℕ)) (sends : Option Held) : Type 0 where
  words_are : sends_words version sends ≡ words
  named : are_named sends ≡ true
  numbered : are_numbered sends ≡ true
  proper : are_held sends ≡ true
  told : is_told version sends ≡ true

some-sends : (version : Version) (words : List (List ℕ)) (sends : Option Held) → with_part Some (held_of_words version words) ≡ Ok sends → SendsAre version words sends
some-sends version words sends is =
    let part = with-is Some (held_of_words version words) sends is in
    let held = held-is version words part.0 part.1 in
    subst (SendsAre version words) part.2 (record { words_are = held.words_are; named = held.named; numbered = held.numbered; proper = held.proper; told = held.told })

sends-are : (version : Version) (words : List (List ℕ)) (sends : Option Held) → sends_of_words version words ≡ Ok sends → SendsAre version words sends
sends-are version [] sends is = absurd cc
sends-are version (what ∷ []) sends is = go (bytes_eq what (codes "none")) refl is
  where
    go : (none : Bool) → bytes_eq what (codes "none") ≡ none → cond none (Ok None) (with_part Some (held_of_words version (what ∷ []))) ≡ Ok sends → SendsAre version (what ∷ []) sends
    go true none is =
        let same : None ≡ sends = cc in
        subst (SendsAre version (what ∷ [])) same
        (record { words_are = ap (λ w. w ∷ []) (sym (same_bytes what (codes "none") none)); named = refl; numbered = refl; proper = refl; told = refl })
    go false none is = some-sends version (what ∷ []) sends is
sends-are version (what ∷ next ∷ words) sends is = some-sends version (what ∷ next ∷ words) sends is

-- LINES

-- in a certificate of this version
record LineIs (version : Version) (words : List (List ℕ)) (line : Line) : Type 0 where
  words_are : line_words version line ≡ words
  proper : is_line line ≡ true
  own : is_of_version version line ≡ true

block-is : (version : Version) (words : List (List ℕ)) (line : Line) → block_of_words words ≡ Ok line → LineIs version (codes "at" ∷ words) line
block-is version [] line is = absurd cc
block-is version (program ∷ []) line is = absurd cc
block-is version (program ∷ point ∷ []) line is = absurd cc
block-is version (program ∷ point ∷ mode ∷ []) line is =
    let outer = both-is (λ (given : ModeBound → Line) mode. given mode) (both block_with (name_of_word program) (up_to 255 (number_of point))) (formed (mode_of_word mode)) line is in
    let inner = both-is block_with (name_of_word program) (up_to 255 (number_of point)) outer.left outer.left_is in
    let name = name-is program inner.left inner.left_is in
    let number = up-to-is 255 inner.right point (omega arith) inner.right_is in
    let last = mode-is mode outer.right (formed-is (mode_of_word mode) outer.right outer.right_is) in
    let low = number.1 in
    subst (LineIs version (codes "at" ∷ program ∷ point ∷ mode ∷ [])) (ap (λ (given : ModeBound → Line). given outer.right) inner.whole ∙ outer.whole) (record {
      words_are = λ i. codes "at" ∷ name.0 i ∷ number.0 i ∷ last i ∷ [];
      proper = and_from _ _ (and_from _ _ name.1 refl) (lt-ltb inner.right 256 (omega (arith, low)));
      own = refl;
    })
block-is version (program ∷ point ∷ mode ∷ more ∷ words) line is = absurd cc

register-is : (version : Version) (register : List ℕ) (words : List (List ℕ)) (line : Line) → register_of_words register words ≡ Ok line → LineIs version ((114 ∷ register) ∷ words) line
register-is version register [] line is = absurd cc
register-is version register (low ∷ []) line is = absurd cc
register-is version register (low ∷ high ∷ []) line is =
    let parts_are = both-is Bounds_register (up_to 7 (number_of register)) (interval_from (number_of low) (number_of high)) line is in
    let number = up-to-is 7 parts_are.left register (omega arith) parts_are.left_is in
    let interval = interval-is low high parts_are.right parts_are.right_is in
    let few = number.1 in
    subst (LineIs version ((114 ∷ register) ∷ low ∷ high ∷ [])) parts_are.whole (record {
      words_are = λ i. (114 ∷ number.0 i) ∷ interval.low_is i ∷ interval.high_is i ∷ [];
      proper = and_from _ _ interval.proper (and_from _ _ (lt-ltb parts_are.left 8 (omega (arith, few))) interval.numbered);
      own = refl;
    })
register-is version register (low ∷ high ∷ more ∷ words) line is = absurd cc

descriptor-is : (version : Version) (words : List (List ℕ)) (line : Line) → descriptor_of_words version words ≡ Ok line → LineIs version (codes "fd" ∷ words) line
descriptor-is version [] line is = absurd cc
descriptor-is version (number ∷ words) line is =
    let parts_are = both-is Bounds_slot (up_to 15 (number_of number)) (slot_of_words version words) line is in
    let first = up-to-is 15 parts_are.left number (omega arith) parts_are.left_is in
    let slot = slot-is version words parts_are.right parts_are.right_is in
    let few = first.1 in
    subst (LineIs version (codes "fd" ∷ number ∷ words)) parts_are.whole (record {
      words_are = λ i. codes "fd" ∷ first.0 i ∷ slot.words_are i;
      proper = and_from _ _ (and_from _ _ slot.named slot.proper) (and_from _ _ (lt-ltb parts_are.left 16 (omega (arith, few))) slot.numbered);
      own = slot.told;
    })

channel-is : (version : Version) (words : List (List ℕ)) (line : Line) → channel_of_words version words ≡ Ok line → LineIs version (codes "chan" ∷ words) line
channel-is version [] line is = absurd cc
channel-is version (class ∷ []) line is = absurd cc
channel-is version (class ∷ side ∷ words) line is =
    let ends = both channel_with (class_of_word class) (formed (side_of_word side)) in
    let outer = both-is (λ (given : Option Held → Line) sends. given sends) ends (sends_of_words version words) line is in
    let inner = both-is channel_with (class_of_word class) (formed (side_of_word side)) outer.left outer.left_is in
    let first = class-is class inner.left inner.left_is in
    let second = side-is side inner.right (formed-is (side_of_word side) inner.right inner.right_is) in
    let sends = sends-are version words outer.right outer.right_is in
    subst (LineIs version (codes "chan" ∷ class ∷ side ∷ words)) (ap (λ (given : Option Held → Line). given outer.right) inner.whole ∙ outer.whole) (record {
      words_are = λ i. codes "chan" ∷ first.word_is i ∷ second.0 i ∷ sends.words_are i;
      proper = and_from _ _ (and_from _ _ (and_from _ _ (and_from _ _ first.named second.1) sends.named) sends.proper) (and_from _ _ first.numbered sends.numbered);
      own = sends.told;
    })

other-is : (version : Version) (first : List ℕ) (words : List (List ℕ)) (line : Line) → other_line first words ≡ Ok line → LineIs version (first ∷ words) line
other-is version [] words line is = absurd cc
other-is version (b ∷ register) words line is = go (b == 114) refl is
  where
    go : (letter : Bool) → (b == 114) ≡ letter → cond letter (register_of_words register words) (Err Syntax) ≡ Ok line → LineIs version ((b ∷ register) ∷ words) line
    go true letter is = subst (λ c. LineIs version ((c ∷ register) ∷ words) line) (sym (eqb-true b 114 letter)) (register-is version register words line is)
    go false letter is = absurd cc

authority-is : (version : Version) → has_authorities version ≡ true → (words : List (List ℕ)) (line : Line) → authority_of_words words ≡ Ok line → LineIs version (codes "auth" ∷ words) line
authority-is version has [] line is = absurd cc
authority-is version has (program ∷ []) line is =
    let part = with-is Begins_authority (name_of_word program) line is in
    let name = name-is program part.0 part.1 in
    subst (LineIs version (codes "auth" ∷ program ∷ [])) part.2 (record {
      words_are = λ i. codes "auth" ∷ name.0 i ∷ [];
      proper = and_from _ _ (and_from _ _ name.1 refl) refl;
      own = has;
    })
authority-is version has (program ∷ more ∷ words) line is = absurd cc

ceiling-line-is : (version : Version) → has_authorities version ≡ true → (words : List (List ℕ)) (line : Line) → ceiling_of_words version words ≡ Ok line
    → LineIs version (codes "ceil" ∷ words) line
ceiling-line-is version has [] line is = absurd cc
ceiling-line-is version has (grant ∷ []) line is = absurd cc
ceiling-line-is version has (grant ∷ plain ∷ words) line is =
    let parts_are = both-is ceiling_with (name_of_word grant) (rights_above plain (further_above version words)) line is in
    let name = name-is grant parts_are.left parts_are.left_is in
    let set = ceiling-is version plain words parts_are.right parts_are.right_is in
    subst (LineIs version (codes "ceil" ∷ grant ∷ plain ∷ words)) parts_are.whole (record {
      words_are = λ i. codes "ceil" ∷ name.0 i ∷ set.words_are i;
      proper = and_from _ _ (and_from _ _ name.1 set.proper) refl;
      own = and_from _ _ has set.told;
    })

end-is : (version : Version) → has_authorities version ≡ true → (words : List (List ℕ)) (line : Line) → end_of_words words ≡ Ok line → LineIs version (codes "hold" ∷ words) line
end-is version has [] line is = absurd cc
end-is version has (class ∷ []) line is = absurd cc
end-is version has (class ∷ side ∷ []) line is =
    let parts_are = both-is end_with (class_of_word class) (formed (side_of_word side)) line is in
    let first = class-is class parts_are.left parts_are.left_is in
    let second = side-is side parts_are.right (formed-is (side_of_word side) parts_are.right parts_are.right_is) in
    subst (LineIs version (codes "hold" ∷ class ∷ side ∷ [])) parts_are.whole (record {
      words_are = λ i. codes "hold" ∷ first.word_is i ∷ second.0 i ∷ [];
      proper = and_from _ _ (and_from _ _ (and_from _ _ first.named second.1) refl) first.numbered;
      own = has;
    })
end-is version has (class ∷ side ∷ more ∷ words) line is = absurd cc

later-is : (version : Version) → has_authorities version ≡ true → (first : List ℕ) (words : List (List ℕ)) (line : Line)
    → later_line version first words ≡ Ok line → LineIs version (first ∷ words) line
later-is version has first words line is = go (bytes_eq first (codes "auth")) (bytes_eq first (codes "ceil")) (bytes_eq first (codes "hold")) refl refl refl is
  where
    behind : (word : List ℕ) → bytes_eq first word ≡ true → LineIs version (word ∷ words) line → LineIs version (first ∷ words) line
    behind word same read = subst (λ w. LineIs version (w ∷ words) line) (sym (same_bytes first word same)) read

    go : (auth ceil hold : Bool) → bytes_eq first (codes "auth") ≡ auth → bytes_eq first (codes "ceil") ≡ ceil → bytes_eq first (codes "hold") ≡ hold
        → cond auth (authority_of_words words) (cond ceil (ceiling_of_words version words) (cond hold (end_of_words words) (other_line first words))) ≡ Ok line → LineIs version (first ∷ words) line
    go true ceil hold a b c is = behind (codes "auth") a (authority-is version has words line is)
    go false true hold a b c is = behind (codes "ceil") b (ceiling-line-is version has words line is)
    go false false true a b c is = behind (codes "hold") c (end-is version has words line is)
    go false false false a b c is = other-is version first words line is

words-are : (version : Version) (words : List (List ℕ)) (line : Line) → line_of_words version words ≡ Ok line → LineIs version words line
words-are version [] line is = absurd cc
words-are version (first ∷ words) line is =
    go (bytes_eq first (codes "at")) (bytes_eq first (codes "fd")) (bytes_eq first (codes "chan")) (has_authorities version) refl refl refl refl is
  where
    behind : (word : List ℕ) → bytes_eq first word ≡ true → LineIs version (word ∷ words) line → LineIs version (first ∷ words) line
    behind word same read = subst (λ w. LineIs version (w ∷ words) line) (sym (same_bytes first word same)) read

    go : (at fd chan has : Bool) → bytes_eq first (codes "at") ≡ at → bytes_eq first (codes "fd") ≡ fd → bytes_eq first (codes "chan") ≡ chan → has_authorities version ≡ has
        → cond at (block_of_words words) (cond fd (descriptor_of_words version words)
        (cond chan (channel_of_words version words) (cond has (later_line version first words) (other_line first words)))) ≡ Ok line
        → LineIs version (first ∷ words) line
    go true fd chan has a b c d is = behind (codes "at") a (block-is version words line is)
    go false true chan has a b c d is = behind (codes "fd") b (descriptor-is version words line is)
    go false false true has a b c d is = behind (codes "chan") c (channel-is version words line is)
    go false false false true a b c d is = later-is version d first words line is
    go false false false false a b c d is = other-is version first words line is

-- Bytes that are read as a line are its text, and the line may stand in a certificate of that version.
pub line-text : (version : Version) (text : List ℕ) (line : Line) → line_of_text version text ≡ Ok line
    → (line_text version line ≡ text) × (is_line line ≡ true) × (is_of_version version line ≡ true)
unfolding line_of_text line_text
line-text version text line is =
    let read = words-are version (parts 32 text) line is in
    (ap (joined 32) read.words_are ∙ joined-parts 32 text, read.proper, read.own)
