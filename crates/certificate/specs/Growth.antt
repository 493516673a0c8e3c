-- How a certificate grows, line by line, in one order and within its limits. (own)
use Rattle.std.specs.Prelude.{◌≡◌, ◌&&◌, ℕ, zero, suc, Bool, true, false, nat_le, List, [], ◌∷◌, ◌++◌, length, map, Option, Some, None, Result, Ok, Err, if◌then◌else◌}
use Rattle.std.specs.List.{flat_map, list_any}
use Rattle.std.specs.declared.cmp.Ordering.{Ordering}
use Rattle.std.specs.declared.cmp.Ordering.TheVariants.{Less, Greater}
use Rattle.std.specs.Ordering.{is_lt, nat_cmp, ordering_then}
use Rattle.std.specs.Cmp.Lexicographic.{slice_cmp}
use Rattle.std.specs.Str.{bytes_eq}
use Rattle.rights.specs.Values.{Name}
use Rattle.rights.specs.Classes.{Class, Initial, Made_at}
use Rattle.rights.specs.Limits.{most_descriptors, most_programs, register_count}
use Rattle.certificate.specs.Bounds.{ModeBound, Target, In_grant, Any_node, Socket, Unknown, Held, Slot, Closed, Bound, PointBound, ChannelBound, Ceiling, End, Authority, Version, Certificate}
use Rattle.certificate.specs.Bounds.{full_interval, held_in, with_interval, with_slot}
use Rattle.certificate.specs.Order.{same_class}
use Rattle.certificate.specs.Lines.{Line, Begins_block, Bounds_register, Bounds_slot, Bounds_channel, Begins_authority, Bounds_grant, Holds_end, is_closed, is_full, is_line, is_of_version}

-- THE ORDER. Blocks stand by the bytes of their program's name, then by point.
abbrev pub name_order : List ℕ → List ℕ → Ordering
name_order a b = slice_cmp nat_cmp a b

abbrev pub point_order : List ℕ → ℕ → List ℕ → ℕ → Ordering
point_order p m q n = ordering_then (name_order p q) (nat_cmp m n)

-- Channels stand by class and then by side: initial pairs by number, then the points of programs like blocks.
abbrev pub class_order : Class → Class → Ordering
class_order (Initial m) (Initial n) = nat_cmp m n
class_order (Initial m) (Made_at q n) = Less
class_order (Made_at p m) (Initial n) = Greater
class_order (Made_at p m) (Made_at q n) = point_order p m q n

abbrev pub channel_order : ChannelBound → ChannelBound → Ordering
channel_order a b = ordering_then (class_order a.class b.class) (nat_cmp a.side b.side)

-- whether the block of a point may stand behind these, of which the last is asked
unfoldable pub above_blocks : List PointBound → Name → ℕ → Bool
above_blocks [] program point = true
above_blocks (b ∷ []) program point = is_lt (point_order b.program b.point program point)
above_blocks (b ∷ c ∷ points) program point = above_blocks (c ∷ points) program point

unfoldable pub above_channels : List ChannelBound → ChannelBound → Bool
above_channels [] channel = true
above_channels (a ∷ []) channel = is_lt (channel_order a channel)
above_channels (a ∷ b ∷ channels) channel = above_channels (b ∷ channels) channel

-- Registers of a block rise, and then its slots do: whether all slots from a number on are closed, and all registers
-- from a number on full.
unfoldable pub all_from : {A : Type 0} → (A → Bool) → ℕ → List A → Bool
all_from test n [] = true
all_from test zero (x ∷ xs) = test x && all_from test zero xs
all_from test (suc n) (x ∷ xs) = all_from test n xs

-- a register, or a slot, of the last block, which is there
unfoldable pub may_bound_register : List PointBound → ℕ → Bool
may_bound_register [] n = false
may_bound_register (b ∷ []) n = all_from is_full n b.bound.registers && all_from is_closed 0 b.bound.slots
may_bound_register (b ∷ c ∷ points) n = may_bound_register (c ∷ points) n

unfoldable pub may_bound_slot : List PointBound → ℕ → Bool
may_bound_slot [] n = false
may_bound_slot (b ∷ []) n = all_from is_closed n b.bound.slots
may_bound_slot (b ∷ c ∷ points) n = may_bound_slot (c ∷ points) n

abbrev pub has_none : {A : Type 0} → List A → Bool
has_none [] = true
has_none (x ∷ xs) = false

-- what is asked of the last one, and the answer where there is none
unfoldable pub asked_of_last : {A : Type 0} → Bool → (A → Bool) → List A → Bool
asked_of_last none test [] = none
asked_of_last none test (x ∷ []) = test x
asked_of_last none test (x ∷ y ∷ xs) = asked_of_last none test (y ∷ xs)

-- Authorities stand by the bytes of their program's name. Ceilings of the last authority, which is there, rise by those of
-- their grant's name, and stand before its ends, which rise as channels do.
abbrev pub above_authorities : List Authority → Name → Bool
above_authorities authorities program = asked_of_last true (λ (a : Authority). is_lt (name_order a.program program)) authorities

abbrev pub above_ceilings : List Ceiling → Name → Bool
above_ceilings ceilings grant = asked_of_last true (λ (a : Ceiling). is_lt (name_order a.grant grant)) ceilings

abbrev pub end_order : End → End → Ordering
end_order a b = ordering_then (class_order a.class b.class) (nat_cmp a.side b.side)

abbrev pub above_ends : List End → End → Bool
above_ends holds held = asked_of_last true (λ (a : End). is_lt (end_order a held)) holds

abbrev pub may_bound_grant : List Authority → Name → Bool
may_bound_grant authorities grant = asked_of_last false (λ (a : Authority). has_none a.holds && above_ceilings a.ceilings grant) authorities

abbrev pub may_hold_end : List Authority → End → Bool
may_hold_end authorities held = asked_of_last false (λ (a : Authority). above_ends a.holds held) authorities

-- Whether the line stands in its place behind those that made the certificate: channels stand behind all blocks, and
-- authorities behind all channels.
abbrev pub stands : Certificate → Line → Bool
stands c (Begins_block program point mode) = has_none c.channels && (has_none c.authorities && above_blocks c.points program point)
stands c (Bounds_register register interval) = has_none c.channels && (has_none c.authorities && may_bound_register c.points register)
stands c (Bounds_slot number slot) = has_none c.channels && (has_none c.authorities && may_bound_slot c.points number)
stands c (Bounds_channel channel) = has_none c.authorities && above_channels c.channels channel
stands c (Begins_authority program) = above_authorities c.authorities program
stands c (Bounds_grant ceiling) = may_bound_grant c.authorities ceiling.grant
stands c (Holds_end held) = may_hold_end c.authorities held

-- THE LIMITS. Eight programs have names in a certificate, wherever they stand, and its channels and the ends of its
-- authorities are of 32 classes.
abbrev pub most_classes : ℕ
most_classes = 32

abbrev pub programs_of_class : Class → List (List ℕ)
programs_of_class (Initial n) = []
programs_of_class (Made_at program point) = program ∷ []

abbrev pub programs_of_target : Target → List (List ℕ)
programs_of_target (In_grant name) = []
programs_of_target Any_node = []
programs_of_target (Socket class side) = programs_of_class class
programs_of_target Unknown = []

abbrev pub programs_of_held : Option Held → List (List ℕ)
programs_of_held None = []
programs_of_held (Some h) = programs_of_target h.target

abbrev pub programs_of_slot : Slot → List (List ℕ)
programs_of_slot s = programs_of_held (held_in s)

abbrev pub programs_of_block : PointBound → List (List ℕ)
programs_of_block b = b.program ∷ flat_map programs_of_slot b.bound.slots

abbrev pub programs_of_channel : ChannelBound → List (List ℕ)
programs_of_channel c = programs_of_class c.class ++ programs_of_held c.sends

abbrev pub programs_of_end : End → List (List ℕ)
programs_of_end held = programs_of_class held.class

abbrev pub programs_of_authority : Authority → List (List ℕ)
programs_of_authority a = a.program ∷ flat_map programs_of_end a.holds

abbrev pub programs_named : Certificate → List (List ℕ)
programs_named c = flat_map programs_of_block c.points ++ flat_map programs_of_channel c.channels ++ flat_map programs_of_authority c.authorities

abbrev pub classes_in : List ChannelBound → List Class
classes_in channels = map (λ (channel : ChannelBound). channel.class) channels

abbrev pub classes_of_ends : List End → List Class
classes_of_ends holds = map (λ (held : End). held.class) holds

abbrev pub classes_held : Authority → List Class
classes_held a = classes_of_ends a.holds

abbrev pub all_classes : List ChannelBound → List Authority → List Class
all_classes channels authorities = classes_in channels ++ flat_map classes_held authorities

abbrev pub classes_of : Certificate → List Class
classes_of c = all_classes c.channels c.authorities

abbrev pub programs_in_line : Line → List (List ℕ)
programs_in_line (Begins_block program point mode) = program ∷ []
programs_in_line (Bounds_register register interval) = []
programs_in_line (Bounds_slot number slot) = programs_of_slot slot
programs_in_line (Bounds_channel channel) = programs_of_channel channel
programs_in_line (Begins_authority program) = program ∷ []
programs_in_line (Bounds_grant ceiling) = []
programs_in_line (Holds_end held) = programs_of_end held

abbrev pub classes_in_line : Line → List Class
classes_in_line (Begins_block program point mode) = []
classes_in_line (Bounds_register register interval) = []
classes_in_line (Bounds_slot number slot) = []
classes_in_line (Bounds_channel channel) = channel.class ∷ []
classes_in_line (Begins_authority program) = []
classes_in_line (Bounds_grant ceiling) = []
classes_in_line (Holds_end held) = held.class ∷ []

-- the different ones among some, behind those that are listed already
unfoldable pub distinct_behind : {A : Type 0} → (A → A → Bool) → List A → List A → List A
distinct_behind same listed [] = listed
distinct_behind same listed (x ∷ xs) =
    distinct_behind same (if list_any (λ y. same y x) listed then listed else listed ++ x ∷ []) xs

abbrev pub distinct : {A : Type 0} → (A → A → Bool) → List A → List A
distinct same xs = distinct_behind same [] xs

abbrev pub has_room : Certificate → Line → Bool
has_room c line =
    nat_le (length (distinct bytes_eq (programs_named c ++ programs_in_line line))) most_programs
    && nat_le (length (distinct same_class (classes_of c ++ classes_in_line line))) most_classes

-- THE GROWTH.
abbrev pub copies : {A : Type 0} → ℕ → A → List A
copies zero x = []
copies (suc n) x = x ∷ copies n x

-- a block's bound at its beginning: full registers and closed slots
abbrev pub open_bound : ModeBound → Bound
open_bound mode = record { mode = mode; registers = copies register_count full_interval; slots = copies most_descriptors Closed }

unfoldable pub on_last : (Bound → Bound) → List PointBound → List PointBound
on_last f [] = []
on_last f (b ∷ []) = (record b { bound = f b.bound }) ∷ []
on_last f (b ∷ c ∷ points) = b ∷ on_last f (c ∷ points)

-- the last one changed
unfoldable pub with_last : {A : Type 0} → (A → A) → List A → List A
with_last f [] = []
with_last f (x ∷ []) = f x ∷ []
with_last f (x ∷ y ∷ xs) = x ∷ with_last f (y ∷ xs)

abbrev pub with_ceiling : Ceiling → Authority → Authority
with_ceiling ceiling a = record a { ceilings = a.ceilings ++ ceiling ∷ [] }

abbrev pub with_held_end : End → Authority → Authority
with_held_end held a = record a { holds = a.holds ++ held ∷ [] }

abbrev pub open_authority : Name → Authority
open_authority program = record { program = program; ceilings = []; holds = [] }

abbrev pub with_line : Certificate → Line → Certificate
with_line c (Begins_block program point mode) =
    record c { points = c.points ++ (record { program = program; point = point; bound = open_bound mode }) ∷ [] }
with_line c (Bounds_register register interval) = record c { points = on_last (λ b. with_interval b register interval) c.points }
with_line c (Bounds_slot number slot) = record c { points = on_last (λ b. with_slot b number slot) c.points }
with_line c (Bounds_channel channel) = record c { channels = c.channels ++ channel ∷ [] }
with_line c (Begins_authority program) = record c { authorities = c.authorities ++ open_authority program ∷ [] }
with_line c (Bounds_grant ceiling) = record c { authorities = with_last (with_ceiling ceiling) c.authorities }
with_line c (Holds_end held) = record c { authorities = with_last (with_held_end held) c.authorities }

-- why a line isn't taken: a ninth program or a 33rd class; or it is out of its place, or not above the line before it
pub data Refused : Type 0 where
  No_room : Refused
  Out_of_order : Refused

unfoldable pub taken : Certificate → Line → Result Certificate Refused
taken c line = if has_room c line then (if stands c line then Ok (with_line c line) else Err Out_of_order) else Err No_room

abbrev pub empty : Version → Certificate
empty version = record { version = version; points = []; channels = []; authorities = [] }

-- A certificate of a version is what lines of that version make of nothing, each taken by what the lines before it made.
pub data IsCertificate : Certificate → Type 0 where
  begins : (version : Version) → IsCertificate (empty version)
  grows : {c : Certificate} {d : Certificate} → IsCertificate c → (line : Line) → is_line line ≡ true → is_of_version c.version line ≡ true
      → taken c line ≡ Ok d → IsCertificate d
