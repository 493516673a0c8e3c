-- What comes through socket pairs, by the channels of a certificate. (own, after sendmsg(2) and recvmsg(2))
use Rattle.std.specs.Prelude.{◌==◌, ◌&&◌, Bool, true, false, List, [], ◌∷◌, Option, Some, None, is_some, if◌then◌else◌}
use Rattle.std.specs.List.{list_all}
use Rattle.rights.specs.Values.{SideNumber}
use Rattle.rights.specs.Classes.{Class}
use Rattle.rights.specs.Sides.{other_side}
use Rattle.certificate.specs.Bounds.{Target, In_grant, Any_node, Socket, Unknown, Held, ChannelBound, Certificate}
use Rattle.certificate.specs.Order.{same_class, held_within}
use Rattle.rules.specs.Slots.{OpenSlot}
use Rattle.rules.specs.Uses.{Passing, Passes_none, Sends, Receives, Use}

-- The line of a class and side, which is `None` where nothing is sent: the first that is listed.
abbrev pub line_in : List ChannelBound → Class → SideNumber → Option (Option Held)
line_in [] class side = None
line_in (c ∷ channels) class side =
    if same_class c.class class && (c.side == side) then Some c.sends else line_in channels class side

unfoldable pub channel_at : Certificate → Class → SideNumber → Option (Option Held)
channel_at certificate class side = line_in certificate.channels class side

-- What is sent into a channel lies within its line, where it has one; a line of nothing lets nothing be sent.
abbrev pub lets_through : Option (Option Held) → List OpenSlot → Bool
lets_through None slots = true
lets_through (Some None) slots = false
lets_through (Some (Some sends)) slots = list_all (λ (s : OpenSlot). held_within s.held sends) slots

abbrev pub sends_into : Certificate → Target → List OpenSlot → Bool
sends_into certificate (In_grant name) slots = true
sends_into certificate Any_node slots = true
sends_into certificate (Socket class side) slots = lets_through (channel_at certificate class side) slots
sends_into certificate Unknown slots = true

abbrev pub keeps_channel_bound : Certificate → Use → Passing → Bool
keeps_channel_bound certificate u Passes_none = true
keeps_channel_bound certificate u (Sends slots) = sends_into certificate u.slot.held.target slots
keeps_channel_bound certificate u Receives = true

-- The channel that a call sends into has a line, which nothing of unknown kind has; and so has the one that it receives
-- from, which is the other side's. What comes from a slot of unknown kind is unknown itself.
abbrev pub sends_known : Certificate → Target → Bool
sends_known certificate (In_grant name) = true
sends_known certificate Any_node = true
sends_known certificate (Socket class side) = is_some (channel_at certificate class side)
sends_known certificate Unknown = false

abbrev pub receives_known : Certificate → Target → Bool
receives_known certificate (In_grant name) = true
receives_known certificate Any_node = true
receives_known certificate (Socket class side) = is_some (channel_at certificate class (other_side side))
receives_known certificate Unknown = true

abbrev pub has_channel : Certificate → Use → Passing → Bool
has_channel certificate u Passes_none = true
has_channel certificate u (Sends slots) = sends_known certificate u.slot.held.target
has_channel certificate u Receives = receives_known certificate u.slot.held.target

abbrev pub all_have_channels : Certificate → List Use → Bool
all_have_channels certificate through = list_all (λ (u : Use). has_channel certificate u u.passing) through
