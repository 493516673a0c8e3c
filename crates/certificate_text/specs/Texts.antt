-- The text of a certificate: its version, a line of each kind, one space between words, each line with its line feed. (own)
use Rattle.std.specs.Prelude.{ℕ, zero, suc, List, [], ◌∷◌, ◌++◌, codes, Option, Some, None, if◌then◌else◌}
use Rattle.std.specs.Fmt.{decimal}
use Rattle.std.specs.List.{flat_map}
use Rattle.rights.specs.Classes.{Class, Initial, Made_at}
use Rattle.rights.specs.Sets.{further_part, plain_part}
use Rattle.rights.specs.Values.{RightSet}
use Rattle.texts.specs.Bytes.{colon, line_feed, space}
use Rattle.texts.specs.Hex.{hex_text}
use Rattle.texts.specs.Parts.{joined}
use Rattle.certificate.specs.Bounds.{ModeBound, Off, On, Either, Target, In_grant, Any_node, Socket, Unknown, Held}
use Rattle.certificate.specs.Bounds.{Slot, Closed, Open, Maybe, Version, One, Two, Three, Four, Certificate, tells_further}
use Rattle.certificate.specs.Lines.{Line, Begins_block, Bounds_register, Bounds_slot, Bounds_channel, Begins_authority, Bounds_grant, Holds_end, lines_of}

-- the bytes `@` and `r`
abbrev pub at_sign : ℕ
at_sign = 64

abbrev pub register_letter : ℕ
register_letter = 114

abbrev pub mode_word : ModeBound → List ℕ
mode_word Off = codes "off"
mode_word On = codes "on"
mode_word Either = codes "maybe"

-- a is 0 and b is 1
abbrev pub side_word : ℕ → List ℕ
side_word zero = codes "a"
side_word (suc n) = codes "b"

-- `@N` for an initial pair, and `program:point` for one that was made there
abbrev pub class_word : Class → List ℕ
class_word (Initial n) = at_sign ∷ decimal n
class_word (Made_at program point) = program ++ colon ∷ decimal point

abbrev pub target_words : Target → List (List ℕ)
target_words (In_grant name) = codes "grant" ∷ name ∷ []
target_words Any_node = codes "any" ∷ []
target_words (Socket class side) = codes "sock" ∷ class_word class ∷ side_word side ∷ []
target_words Unknown = codes "unknown" ∷ []

-- the fourteen rights in four hexadecimal digits
abbrev pub plain_word : RightSet → List ℕ
plain_word rights = hex_text 4 (plain_part rights)

-- and the further ones in eight
abbrev pub further_word : RightSet → List ℕ
further_word rights = hex_text 8 (further_part rights)

-- a version that tells of further rights has more words, others have not
abbrev pub if_further : Version → List (List ℕ) → List (List ℕ)
if_further version words = if tells_further version then words else []

-- behind what a descriptor is of: the fourteen rights, commands in one digit, and further rights
abbrev pub set_words : Version → Held → List (List ℕ)
set_words version h =
    plain_word h.least ∷ plain_word h.greatest ∷ hex_text 1 h.least_fcntls ∷ hex_text 1 h.greatest_fcntls
    ∷ if_further version (further_word h.least ∷ further_word h.greatest ∷ [])

abbrev pub held_words : Version → Held → List (List ℕ)
held_words version h = target_words h.target ++ set_words version h

abbrev pub slot_words : Version → Slot → List (List ℕ)
slot_words version Closed = []
slot_words version (Open h) = codes "open" ∷ held_words version h
slot_words version (Maybe h) = codes "maybe" ∷ held_words version h

abbrev pub sends_words : Version → Option Held → List (List ℕ)
sends_words version None = codes "none" ∷ []
sends_words version (Some h) = held_words version h

-- the rights of a ceiling
abbrev pub ceiling_words : Version → RightSet → List (List ℕ)
ceiling_words version rights = plain_word rights ∷ if_further version (further_word rights ∷ [])

abbrev pub line_words : Version → Line → List (List ℕ)
line_words version (Begins_block program point mode) = codes "at" ∷ program ∷ decimal point ∷ mode_word mode ∷ []
line_words version (Bounds_register register interval) = (register_letter ∷ decimal register) ∷ decimal interval.low ∷ decimal interval.high ∷ []
line_words version (Bounds_slot number slot) = codes "fd" ∷ decimal number ∷ slot_words version slot
line_words version (Bounds_channel channel) = codes "chan" ∷ class_word channel.class ∷ side_word channel.side ∷ sends_words version channel.sends
line_words version (Begins_authority program) = codes "auth" ∷ program ∷ []
line_words version (Bounds_grant ceiling) = codes "ceil" ∷ ceiling.grant ∷ ceiling_words version ceiling.rights
line_words version (Holds_end held) = codes "hold" ∷ class_word held.class ∷ side_word held.side ∷ []

-- in a certificate of a version
unfoldable pub line_text : Version → Line → List ℕ
line_text version line = joined space (line_words version line)

-- the first line tells the version
abbrev pub first_line : Version → List ℕ
first_line One = codes "capcert 1"
first_line Two = codes "capcert 2"
first_line Three = codes "capcert 3"
first_line Four = codes "capcert 4"

abbrev pub end_line : List ℕ
end_line = codes "end"

abbrev pub ended_line : List ℕ → List ℕ
ended_line text = text ++ line_feed ∷ []

abbrev pub certificate_text : Certificate → List ℕ
certificate_text c = ended_line (first_line c.version) ++ flat_map (λ line. ended_line (line_text c.version line)) (lines_of c) ++ ended_line end_line
