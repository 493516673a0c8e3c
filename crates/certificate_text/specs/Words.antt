-- What the words of a line stand for. (own)
use Rattle.std.specs.Prelude.{◌==◌, ◌-◌, ◌^◌, ℕ, nat_le, List, [], ◌∷◌, codes, Option, Some, None, Result, Ok, Err, if◌then◌else◌}
use Rattle.std.specs.Str.{bytes_eq}
use Rattle.rights.specs.Classes.{Class, Initial, Made_at}
use Rattle.rights.specs.Limits.{most_descriptors, most_instructions, most_pairs, register_count}
use Rattle.rights.specs.Sets.{all_commands, all_rights, both_parts, is_within, plain_rights}
use Rattle.texts.specs.Bytes.{colon}
use Rattle.texts.specs.Hex.{hex_of}
use Rattle.texts.specs.Names.{is_name}
use Rattle.texts.specs.Numbers.{number_of}
use Rattle.texts.specs.Parts.{parts}
use Rattle.certificate.specs.Bounds.{ModeBound, Off, On, Either, Interval, Target, In_grant, Any_node, Socket, Unknown, Held, Slot, Open, Maybe, Version, full_interval, has_authorities, tells_further}
use Rattle.certificate.specs.Lines.{is_ceiling, is_interval, is_range, Line, Begins_block, Bounds_register, Bounds_slot, Bounds_channel, Begins_authority, Bounds_grant, Holds_end}
use Rattle.certificate_text.specs.Faults.{Fault, Syntax, Limit, both, formed, with_part}
use Rattle.certificate_text.specs.Texts.{at_sign, register_letter}

-- a number up to a limit
abbrev pub up_to : ℕ → Option ℕ → Result ℕ Fault
up_to limit None = Err Syntax
up_to limit (Some n) = if nat_le n limit then Ok n else Err Limit

abbrev pub name_of_word : List ℕ → Result (List ℕ) Fault
name_of_word word = if is_name word then Ok word else Err Syntax

abbrev pub mode_of_word : List ℕ → Option ModeBound
mode_of_word word =
    if bytes_eq word (codes "off") then Some Off
    else if bytes_eq word (codes "on") then Some On
    else if bytes_eq word (codes "maybe") then Some Either
    else None

abbrev pub side_of_word : List ℕ → Option ℕ
side_of_word word = if bytes_eq word (codes "a") then Some 0 else if bytes_eq word (codes "b") then Some 1 else None

abbrev pub point_of_program : List (List ℕ) → Result Class Fault
point_of_program [] = Err Syntax
point_of_program (program ∷ []) = Err Syntax
point_of_program (program ∷ point ∷ []) = both Made_at (name_of_word program) (up_to (most_instructions - 1) (number_of point))
point_of_program (program ∷ point ∷ more ∷ words) = Err Syntax

abbrev pub class_of_word : List ℕ → Result Class Fault
class_of_word [] = Err Syntax
class_of_word (b ∷ word) =
    if b == at_sign then with_part Initial (up_to (most_pairs - 1) (number_of word)) else point_of_program (parts colon (b ∷ word))

-- the ends of an interval are compared first, of whatever length their numbers are
abbrev pub interval_from : Option ℕ → Option ℕ → Result Interval Fault
interval_from None high = Err Syntax
interval_from (Some low) None = Err Syntax
interval_from (Some low) (Some high) =
    if is_interval (record { low = low; high = high })
    then (if nat_le high full_interval.high then Ok (record { low = low; high = high }) else Err Limit)
    else Err Syntax

-- a least and a greatest set
abbrev pub range_from : ℕ → Option ℕ → Option ℕ → Result (ℕ × ℕ) Fault
range_from all None greatest = Err Syntax
range_from all (Some least) None = Err Syntax
range_from all (Some least) (Some greatest) = if is_range all least greatest then Ok (least, greatest) else Err Syntax

-- a set of rights: the fourteen, and further ones
abbrev pub rights_from : Option ℕ → ℕ → Option ℕ
rights_from None further = None
rights_from (Some plain) further = if is_within plain plain_rights then Some (both_parts plain further) else None

-- The further rights of the least and of the greatest set, by bit from 0, in eight digits each. A version that doesn't tell of them
-- has no word of them: the least set has none, and the greatest has all.
abbrev pub two_from : Option ℕ → Option ℕ → Option (ℕ × ℕ)
two_from None greatest = None
two_from (Some least) None = None
two_from (Some least) (Some greatest) = Some (least, greatest)

abbrev pub told_further : List (List ℕ) → Option (ℕ × ℕ)
told_further [] = None
told_further (least ∷ []) = None
told_further (least ∷ greatest ∷ []) = two_from (hex_of 8 least) (hex_of 8 greatest)
told_further (least ∷ greatest ∷ more ∷ words) = None

abbrev pub if_no_word : {A : Type 0} → A → List (List ℕ) → Option A
if_no_word a [] = Some a
if_no_word a (word ∷ words) = None

abbrev pub further_of_words : Version → List (List ℕ) → Option (ℕ × ℕ)
further_of_words version words = if tells_further version then told_further words else if_no_word (0, 2 ^ 32 - 1) words

abbrev pub rights_of_words : List ℕ → List ℕ → Option (ℕ × ℕ) → Result (ℕ × ℕ) Fault
rights_of_words least greatest None = Err Syntax
rights_of_words least greatest (Some further) = range_from all_rights (rights_from (hex_of 4 least) further.0) (rights_from (hex_of 4 greatest) further.1)

abbrev pub fcntls_of_words : List ℕ → List ℕ → Result (ℕ × ℕ) Fault
fcntls_of_words least greatest = range_from all_commands (hex_of 1 least) (hex_of 1 greatest)

abbrev pub held_with : Target → ℕ × ℕ → ℕ × ℕ → Held
held_with target rights fcntls = record {
  target = target;
  least = rights.0;
  greatest = rights.1;
  least_fcntls = fcntls.0;
  greatest_fcntls = fcntls.1;
}

-- the words behind what a descriptor is of
abbrev pub held_behind : Version → Result Target Fault → List (List ℕ) → Result Held Fault
held_behind version target [] = Err Syntax
held_behind version target (a ∷ []) = Err Syntax
held_behind version target (a ∷ b ∷ []) = Err Syntax
held_behind version target (a ∷ b ∷ c ∷ []) = Err Syntax
held_behind version target (a ∷ b ∷ c ∷ d ∷ words) =
    both (λ (given : ℕ × ℕ → Held) fcntls. given fcntls)
    (both held_with target (rights_of_words a b (further_of_words version words))) (fcntls_of_words c d)

abbrev pub grant_behind : Version → List (List ℕ) → Result Held Fault
grant_behind version [] = Err Syntax
grant_behind version (name ∷ words) = held_behind version (with_part In_grant (name_of_word name)) words

abbrev pub socket_behind : Version → List (List ℕ) → Result Held Fault
socket_behind version [] = Err Syntax
socket_behind version (class ∷ []) = Err Syntax
socket_behind version (class ∷ side ∷ words) = held_behind version (both Socket (class_of_word class) (formed (side_of_word side))) words

abbrev pub held_of_words : Version → List (List ℕ) → Result Held Fault
held_of_words version [] = Err Syntax
held_of_words version (what ∷ words) =
    if bytes_eq what (codes "grant") then grant_behind version words
    else if bytes_eq what (codes "any") then held_behind version (Ok Any_node) words
    else if bytes_eq what (codes "sock") then socket_behind version words
    else if bytes_eq what (codes "unknown") then held_behind version (Ok Unknown) words
    else Err Syntax

abbrev pub slot_of_words : Version → List (List ℕ) → Result Slot Fault
slot_of_words version [] = Err Syntax
slot_of_words version (presence ∷ words) =
    if bytes_eq presence (codes "open") then with_part Open (held_of_words version words)
    else if bytes_eq presence (codes "maybe") then with_part Maybe (held_of_words version words)
    else Err Syntax

-- what a channel sends: `none` alone, or descriptors
abbrev pub sends_of_words : Version → List (List ℕ) → Result (Option Held) Fault
sends_of_words version [] = Err Syntax
sends_of_words version (what ∷ []) = if bytes_eq what (codes "none") then Ok None else with_part Some (held_of_words version (what ∷ []))
sends_of_words version (what ∷ next ∷ words) = with_part Some (held_of_words version (what ∷ next ∷ words))

abbrev pub block_with : List ℕ → ℕ → ModeBound → Line
block_with program point mode = Begins_block program point mode

abbrev pub block_of_words : List (List ℕ) → Result Line Fault
block_of_words [] = Err Syntax
block_of_words (program ∷ []) = Err Syntax
block_of_words (program ∷ point ∷ []) = Err Syntax
block_of_words (program ∷ point ∷ mode ∷ []) =
    both (λ (given : ModeBound → Line) mode. given mode)
    (both block_with (name_of_word program) (up_to (most_instructions - 1) (number_of point))) (formed (mode_of_word mode))
block_of_words (program ∷ point ∷ mode ∷ more ∷ words) = Err Syntax

-- behind the digits of a register's word
abbrev pub register_of_words : List ℕ → List (List ℕ) → Result Line Fault
register_of_words register [] = Err Syntax
register_of_words register (low ∷ []) = Err Syntax
register_of_words register (low ∷ high ∷ []) =
    both Bounds_register (up_to (register_count - 1) (number_of register)) (interval_from (number_of low) (number_of high))
register_of_words register (low ∷ high ∷ more ∷ words) = Err Syntax

abbrev pub descriptor_of_words : Version → List (List ℕ) → Result Line Fault
descriptor_of_words version [] = Err Syntax
descriptor_of_words version (number ∷ words) = both Bounds_slot (up_to (most_descriptors - 1) (number_of number)) (slot_of_words version words)

abbrev pub channel_with : Class → ℕ → Option Held → Line
channel_with class side sends = Bounds_channel (record { class = class; side = side; sends = sends })

abbrev pub channel_of_words : Version → List (List ℕ) → Result Line Fault
channel_of_words version [] = Err Syntax
channel_of_words version (class ∷ []) = Err Syntax
channel_of_words version (class ∷ side ∷ words) =
    both (λ (given : Option Held → Line) sends. given sends)
    (both channel_with (class_of_word class) (formed (side_of_word side))) (sends_of_words version words)

-- a line that begins with `r`, and a number without a space between
abbrev pub other_line : List ℕ → List (List ℕ) → Result Line Fault
other_line [] words = Err Syntax
other_line (b ∷ register) words = if b == register_letter then register_of_words register words else Err Syntax

abbrev pub authority_of_words : List (List ℕ) → Result Line Fault
authority_of_words [] = Err Syntax
authority_of_words (program ∷ []) = with_part Begins_authority (name_of_word program)
authority_of_words (program ∷ more ∷ words) = Err Syntax

-- the rights of a ceiling, of which there are some
abbrev pub ceiling_from : Option ℕ → Result ℕ Fault
ceiling_from None = Err Syntax
ceiling_from (Some rights) = if is_ceiling rights then Ok rights else Err Syntax

-- The further rights of a ceiling, in eight digits; in a version that doesn't tell of them it has none.
abbrev pub told_above : List (List ℕ) → Option ℕ
told_above [] = None
told_above (further ∷ []) = hex_of 8 further
told_above (further ∷ more ∷ words) = None

abbrev pub further_above : Version → List (List ℕ) → Option ℕ
further_above version words = if tells_further version then told_above words else if_no_word 0 words

abbrev pub rights_above : List ℕ → Option ℕ → Result ℕ Fault
rights_above plain None = Err Syntax
rights_above plain (Some further) = ceiling_from (rights_from (hex_of 4 plain) further)

abbrev pub ceiling_with : List ℕ → ℕ → Line
ceiling_with grant rights = Bounds_grant (record { grant = grant; rights = rights })

abbrev pub ceiling_of_words : Version → List (List ℕ) → Result Line Fault
ceiling_of_words version [] = Err Syntax
ceiling_of_words version (grant ∷ []) = Err Syntax
ceiling_of_words version (grant ∷ plain ∷ words) = both ceiling_with (name_of_word grant) (rights_above plain (further_above version words))

abbrev pub end_with : Class → ℕ → Line
end_with class side = Holds_end (record { class = class; side = side })

abbrev pub end_of_words : List (List ℕ) → Result Line Fault
end_of_words [] = Err Syntax
end_of_words (class ∷ []) = Err Syntax
end_of_words (class ∷ side ∷ []) = both end_with (class_of_word class) (formed (side_of_word side))
end_of_words (class ∷ side ∷ more ∷ words) = Err Syntax

-- a line of a version with authorities that begins with none of the words that lines of all versions begin with
abbrev pub later_line : Version → List ℕ → List (List ℕ) → Result Line Fault
later_line version first words =
    if bytes_eq first (codes "auth") then authority_of_words words
    else if bytes_eq first (codes "ceil") then ceiling_of_words version words
    else if bytes_eq first (codes "hold") then end_of_words words
    else other_line first words

abbrev pub line_of_words : Version → List (List ℕ) → Result Line Fault
line_of_words version [] = Err Syntax
line_of_words version (first ∷ words) =
    if bytes_eq first (codes "at") then block_of_words words
    else if bytes_eq first (codes "fd") then descriptor_of_words version words
    else if bytes_eq first (codes "chan") then channel_of_words version words
    else if has_authorities version then later_line version first words
    else other_line first words
