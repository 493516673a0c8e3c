-- The lines of a certificate's body, as values. (own)
use Rattle.std.specs.Prelude.{◌&&◌, ◌==◌, ◌+◌, ℕ, Bool, true, false, not, nat_le, nat_lt, List, [], ◌∷◌, ◌++◌, map, Option, Some, None, if◌then◌else◌}
use Rattle.std.specs.List.{flat_map}
use Rattle.rights.specs.Values.{Name, DescriptorNumber, RightSet}
use Rattle.rights.specs.Classes.{Class, Initial, Made_at}
use Rattle.rights.specs.Limits.{most_descriptors, most_instructions, most_pairs, register_count}
use Rattle.rights.specs.Sets.{all_commands, all_rights, is_within}
use Rattle.texts.specs.Names.{is_name}
use Rattle.certificate.specs.Bounds.{ModeBound, Interval, full_interval, Target, In_grant, Any_node, Socket, Unknown, Held, Slot, Closed, Open, Maybe, PointBound, ChannelBound, Ceiling, End}
use Rattle.certificate.specs.Bounds.{Authority, Version, Certificate, has_authorities, held_in}
use Rattle.certificate.specs.Told.{is_told, is_told_ceiling}

-- The block of a point begins, with its mode; then a register of it isn't full, then a slot of it isn't closed; what one
-- side of a class of pairs sends; and the authority of a program begins, then a ceiling of it, then an end that it may hold.
pub data Line : Type 0 where
  Begins_block : (program : Name) (point : ℕ) (mode : ModeBound) → Line
  Bounds_register : (register : ℕ) (interval : Interval) → Line
  Bounds_slot : (number : DescriptorNumber) (slot : Slot) → Line
  Bounds_channel : (channel : ChannelBound) → Line
  Begins_authority : (program : Name) → Line
  Bounds_grant : (ceiling : Ceiling) → Line
  Holds_end : (held : End) → Line

-- What a line may say: an interval with a low end that isn't above its high end, and not the full one; sets of which
-- the least is within the greatest, and that within all; a ceiling of some rights.
abbrev pub is_full : Interval → Bool
is_full i = (i.low == full_interval.low) && (i.high == full_interval.high)

abbrev pub is_interval : Interval → Bool
is_interval i = nat_le i.low i.high && not (is_full i)

abbrev pub is_range : ℕ → ℕ → ℕ → Bool
is_range all least greatest = is_within least greatest && is_within greatest all

abbrev pub is_held_bound : Held → Bool
is_held_bound h = is_range all_rights h.least h.greatest && is_range all_commands h.least_fcntls h.greatest_fcntls

abbrev pub is_bound_slot : Slot → Bool
is_bound_slot Closed = false
is_bound_slot (Open h) = is_held_bound h
is_bound_slot (Maybe h) = is_held_bound h

abbrev pub are_held : Option Held → Bool
are_held None = true
are_held (Some h) = is_held_bound h

abbrev pub is_ceiling : RightSet → Bool
is_ceiling rights = is_within rights all_rights && not (rights == 0)

abbrev pub is_proper : Line → Bool
is_proper (Begins_block program point mode) = true
is_proper (Bounds_register register interval) = is_interval interval
is_proper (Bounds_slot number slot) = is_bound_slot slot
is_proper (Bounds_channel channel) = are_held channel.sends
is_proper (Begins_authority program) = true
is_proper (Bounds_grant ceiling) = is_ceiling ceiling.rights
is_proper (Holds_end held) = true

-- Points, registers, values, descriptors and initial pairs have numbers up to a limit.
abbrev pub is_numbered_class : Class → Bool
is_numbered_class (Initial n) = nat_lt n most_pairs
is_numbered_class (Made_at program point) = nat_lt point most_instructions

abbrev pub is_numbered_target : Target → Bool
is_numbered_target (In_grant name) = true
is_numbered_target Any_node = true
is_numbered_target (Socket class side) = is_numbered_class class
is_numbered_target Unknown = true

abbrev pub are_numbered : Option Held → Bool
are_numbered None = true
are_numbered (Some h) = is_numbered_target h.target

abbrev pub is_numbered : Line → Bool
is_numbered (Begins_block program point mode) = nat_lt point most_instructions
is_numbered (Bounds_register register interval) = nat_lt register register_count && nat_le interval.high full_interval.high
is_numbered (Bounds_slot number slot) = nat_lt number most_descriptors && are_numbered (held_in slot)
is_numbered (Bounds_channel channel) = is_numbered_class channel.class && are_numbered channel.sends
is_numbered (Begins_authority program) = true
is_numbered (Bounds_grant ceiling) = true
is_numbered (Holds_end held) = is_numbered_class held.class

-- Programs and grants have names, and sides are two.
abbrev pub is_named_class : Class → Bool
is_named_class (Initial n) = true
is_named_class (Made_at program point) = is_name program

abbrev pub is_named_target : Target → Bool
is_named_target (In_grant name) = is_name name
is_named_target Any_node = true
is_named_target (Socket class side) = is_named_class class && nat_lt side 2
is_named_target Unknown = true

abbrev pub are_named : Option Held → Bool
are_named None = true
are_named (Some h) = is_named_target h.target

abbrev pub has_names : Line → Bool
has_names (Begins_block program point mode) = is_name program
has_names (Bounds_register register interval) = true
has_names (Bounds_slot number slot) = are_named (held_in slot)
has_names (Bounds_channel channel) = is_named_class channel.class && nat_lt channel.side 2 && are_named channel.sends
has_names (Begins_authority program) = is_name program
has_names (Bounds_grant ceiling) = is_name ceiling.grant
has_names (Holds_end held) = is_named_class held.class && nat_lt held.side 2

abbrev pub is_line : Line → Bool
is_line line = has_names line && is_proper line && is_numbered line

-- Authorities stand in versions 3 and 4 alone, and before version 4 nothing is said of further rights.
abbrev pub is_of_version : Version → Line → Bool
is_of_version version (Begins_block program point mode) = true
is_of_version version (Bounds_register register interval) = true
is_of_version version (Bounds_slot number slot) = is_told version (held_in slot)
is_of_version version (Bounds_channel channel) = is_told version channel.sends
is_of_version version (Begins_authority program) = has_authorities version
is_of_version version (Bounds_grant ceiling) = has_authorities version && is_told_ceiling version ceiling.rights
is_of_version version (Holds_end held) = has_authorities version

-- THE LINES OF A CERTIFICATE: block by block its mode, its registers that aren't full and its slots that aren't closed,
-- rising; then the channels; and then authority by authority its program, its ceilings and its ends.
abbrev pub is_closed : Slot → Bool
is_closed Closed = true
is_closed (Open h) = false
is_closed (Maybe h) = false

unfoldable pub register_lines : ℕ → List Interval → List Line
register_lines n [] = []
register_lines n (i ∷ intervals) =
    if is_full i then register_lines (n + 1) intervals else Bounds_register n i ∷ register_lines (n + 1) intervals

unfoldable pub slot_lines : ℕ → List Slot → List Line
slot_lines n [] = []
slot_lines n (s ∷ slots) = if is_closed s then slot_lines (n + 1) slots else Bounds_slot n s ∷ slot_lines (n + 1) slots

abbrev pub block_lines : PointBound → List Line
block_lines b = Begins_block b.program b.point b.bound.mode ∷ (register_lines 0 b.bound.registers ++ slot_lines 0 b.bound.slots)

abbrev pub authority_lines : Authority → List Line
authority_lines a = Begins_authority a.program ∷ (map Bounds_grant a.ceilings ++ map Holds_end a.holds)

-- what stands behind blocks
abbrev pub rest_lines : Certificate → List Line
rest_lines c = map Bounds_channel c.channels ++ flat_map authority_lines c.authorities

abbrev pub lines_of : Certificate → List Line
lines_of c = flat_map block_lines c.points ++ rest_lines c
