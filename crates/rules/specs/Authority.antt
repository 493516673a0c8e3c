-- What a marked program may hold whatever it executes in capability mode: its authority, by a certificate. (own)
use Rattle.std.specs.Prelude.{◌==◌, ◌&&◌, ◌||◌, not, ℕ, Bool, true, false, List, [], ◌∷◌, Option, Some, None, bit_or, if◌then◌else◌}
use Rattle.std.specs.List.{list_all, list_any}
use Rattle.std.specs.Str.{bytes_eq}
use Rattle.rights.specs.Values.{Name, Place, SideNumber, RightSet}
use Rattle.rights.specs.Classes.{Class, Initial}
use Rattle.rights.specs.Operations.{Operation, operations_of_rights}
use Rattle.rights.specs.Sets.{further_rights, is_within, renameat_source_right, renameat_target_right}
use Rattle.file_tree.specs.Places.{begins}
use Rattle.file_tree.specs.Nodes.{node}
use Rattle.rights.specs.Sides.{other_side}
use Rattle.rights.specs.Uses.{asked_rights}
use Rattle.certificate.specs.Bounds.{Target, In_grant, Any_node, Socket, Unknown, Held, Slot, Closed, Open, Maybe, Bound, Ceiling, End, Authority, Certificate}
use Rattle.certificate.specs.Order.{same_class, held_within}
use Rattle.task.specs.Plans.{Grant, FirstObject, On_node, On_end, FirstDescriptor, Start, Plan}
use Rattle.task.specs.Policies.{grant_lists}
use Rattle.rules.specs.Channels.{channel_at}
use Rattle.rules.specs.Outcomes.{unknown_held}

-- The authority of the program of a name, the first that is listed. A program without one may hold nothing.
unfoldable pub authority_in : List Authority → Name → Authority
authority_in [] program = record { program = program; ceilings = []; holds = [] }
authority_in (a ∷ authorities) program = if bytes_eq a.program program then a else authority_in authorities program

abbrev pub authority_at : Certificate → Name → Authority
authority_at certificate program = authority_in certificate.authorities program

-- the most rights on nodes of the grant of a name; none where no ceiling is given
unfoldable pub ceiling_in : List Ceiling → Name → RightSet
ceiling_in [] grant = 0
ceiling_in (c ∷ ceilings) grant = if bytes_eq c.grant grant then c.rights else ceiling_in ceilings grant

abbrev pub lists_end : List End → Class → SideNumber → Bool
lists_end holds class side = list_any (λ (held : End). same_class held.class class && (held.side == side)) holds

-- ## What is within an authority
-- In a task that doesn't ask for further rights an authority says nothing of them.
abbrev pub unsaid : Bool → RightSet
unsaid wide = if wide then 0 else further_rights

abbrev pub most_in : Bool → Authority → Name → RightSet
most_in wide a grant = bit_or (ceiling_in a.ceilings grant) (unsaid wide)

-- A descriptor of this kind with at most these rights: of a node in a grant, up to the grant's ceiling, or of a listed end. What
-- may be of any node, or of anything, isn't.
abbrev pub may_hold : Bool → Authority → Target → RightSet → Bool
may_hold wide a (In_grant name) rights = is_within rights (most_in wide a name)
may_hold wide a Any_node rights = false
may_hold wide a (Socket class side) rights = lists_end a.holds class side
may_hold wide a Unknown rights = false

abbrev pub may_hold_all : Bool → Authority → Held → Bool
may_hold_all wide a h = may_hold wide a h.target h.greatest

abbrev pub may_have_slot : Bool → Authority → Slot → Bool
may_have_slot wide a Closed = true
may_have_slot wide a (Open h) = may_hold_all wide a h
may_have_slot wide a (Maybe h) = may_hold_all wide a h

-- each slot that may be open
abbrev pub may_have_slots : Bool → Authority → Bound → Bool
may_have_slots wide a b = list_all (may_have_slot wide a) b.slots

-- a first descriptor: of a node that lies in a grant, or of a side of an initial pair
abbrev pub is_below_ceiling : Bool → Authority → RightSet → Place → Grant → Bool
is_below_ceiling wide a rights place g = begins g.path place && is_within rights (most_in wide a g.name)

abbrev pub may_start_on : Bool → Plan → Authority → RightSet → FirstObject → Bool
may_start_on wide plan a rights (On_node n access) = list_any (is_below_ceiling wide a rights (node plan.nodes n).place) plan.grants
may_start_on wide plan a rights (On_end pair side) = lists_end a.holds (Initial pair) side

abbrev pub may_start_with : Bool → Plan → Authority → FirstDescriptor → Bool
may_start_with wide plan a d = may_start_on wide plan a d.rights d.object

-- each first descriptor of the processes that start in the mode with the program of this number
abbrev pub may_start_all : Bool → Plan → Authority → ℕ → List Start → Bool
may_start_all wide plan a program starts =
    list_all (λ (s : Start). not (s.mode && (s.program == program)) || list_all (may_start_with wide plan a) s.descriptors) starts

-- ## What is asked of an authority
-- The grant lists each operation of a ceiling's rights. One that the task hasn't lists none.
abbrev pub keeps_ceiling : Bool → List Grant → Ceiling → Bool
keeps_ceiling wide grants c =
    list_all (λ (o : RightSet × Operation). not (is_within o.0 (asked_rights wide c.rights)) || grant_lists grants c.grant o.1) operations_of_rights

abbrev pub keeps_ceilings : Bool → List Grant → Authority → Bool
keeps_ceilings wide grants a = list_all (keeps_ceiling wide grants) a.ceilings

-- Nothing can be moved from one grant into another.
abbrev pub stays_in : Ceiling → Ceiling → Bool
stays_in source target =
    bytes_eq source.grant target.grant
    || not (is_within renameat_source_right source.rights && is_within renameat_target_right target.rights)

abbrev pub keeps_moves : Authority → Bool
keeps_moves a = list_all (λ (source : Ceiling). list_all (stays_in source) a.ceilings) a.ceilings

-- What comes by a listed end is within: the other side's channel has a line, of nothing or of what the program may hold.
abbrev pub may_come : Bool → Authority → Option (Option Held) → Bool
may_come wide a None = false
may_come wide a (Some None) = true
may_come wide a (Some (Some h)) = may_hold_all wide a h

abbrev pub keeps_received : Bool → Certificate → Authority → Bool
keeps_received wide certificate a =
    list_all (λ (held : End). may_come wide a (channel_at certificate held.class (other_side held.side))) a.holds

-- Who receives what is sent from a listed end expects anything: its channel's line is the widest, `unknown` with no right and no
-- command at least, and all at most.
abbrev pub is_widest : Option (Option Held) → Bool
is_widest None = false
is_widest (Some None) = false
is_widest (Some (Some h)) = held_within unknown_held h

abbrev pub keeps_sent : Certificate → Authority → Bool
keeps_sent certificate a = list_all (λ (held : End). is_widest (channel_at certificate held.class held.side)) a.holds
