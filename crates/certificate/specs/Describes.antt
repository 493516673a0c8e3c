-- The processes that a bound describes. (own)
use Rattle.std.specs.Prelude.{◌+◌, ◌==◌, ◌&&◌, ℕ, Bool, true, false, not, nat_le, List, [], ◌∷◌, Option, Some, None}
use Rattle.rights.specs.Values.{Name, Place, SideNumber, RightSet, CommandSet}
use Rattle.rights.specs.Limits.{most_descriptors}
use Rattle.rights.specs.Sets.{is_within}
use Rattle.rights.specs.Classes.{Class}
use Rattle.certificate.specs.Bounds.{ModeBound, Off, On, Either, Interval, Target, In_grant, Any_node, Socket, Unknown, Held, Slot, Closed, Open, Maybe, Bound}
use Rattle.certificate.specs.Order.{same_class}

-- A descriptor as a bound sees it: the place of its node, or the class and side of its end, with its
-- rights and fcntl commands. A pair that a process of an untrusted program makes in the mode has no class that a certificate can
-- name: its ends are of that program.
pub data Subject : Type 0 where
  Node_at : (place : Place) → Subject
  End_of : (class : Class) (side : SideNumber) → Subject
  Own_end : (program : Name) (side : SideNumber) → Subject

pub record Seen : Type 0 where
  pub subject : Subject
  pub rights : RightSet
  pub fcntls : CommandSet

-- What follows is said of a policy: whether the grant of this name holds this place.
abbrev pub Holds : Type 0
Holds = List ℕ → List (List ℕ) → Bool

abbrev pub target_describes : Holds → Target → Subject → Bool
target_describes holds (In_grant name) (Node_at place) = holds name place
target_describes holds (In_grant name) (End_of class side) = false
target_describes holds (In_grant name) (Own_end program side) = false
target_describes holds Any_node (Node_at place) = true
target_describes holds Any_node (End_of class side) = false
target_describes holds Any_node (Own_end program side) = false
target_describes holds (Socket class side) (Node_at place) = false
target_describes holds (Socket class side) (End_of c s) = same_class c class && (s == side)
target_describes holds (Socket class side) (Own_end program s) = false
target_describes holds Unknown subject = true

-- the rights and the commands lie between the least and the greatest
abbrev pub held_describes : Holds → Held → Seen → Bool
held_describes holds h d =
    target_describes holds h.target d.subject && is_within h.least d.rights && is_within d.rights h.greatest
    && is_within h.least_fcntls d.fcntls && is_within d.fcntls h.greatest_fcntls

abbrev pub slot_describes : Holds → Slot → Option Seen → Bool
slot_describes holds Closed None = true
slot_describes holds Closed (Some d) = false
slot_describes holds (Open h) None = false
slot_describes holds (Open h) (Some d) = held_describes holds h d
slot_describes holds (Maybe h) None = true
slot_describes holds (Maybe h) (Some d) = held_describes holds h d

abbrev pub mode_describes : ModeBound → Bool → Bool
mode_describes Off on = not on
mode_describes On on = on
mode_describes Either on = true

abbrev pub interval_describes : Interval → ℕ → Bool
interval_describes i value = nat_le i.low value && nat_le value i.high

-- each register lies in its interval
abbrev pub registers_describe : List Interval → List ℕ → Bool
registers_describe [] [] = true
registers_describe [] (v ∷ values) = false
registers_describe (i ∷ intervals) [] = false
registers_describe (i ∷ intervals) (v ∷ values) = interval_describes i v && registers_describe intervals values

-- the slots from this number on, up to sixteen, and a table
abbrev pub slots_describe : Holds → ℕ → List Slot → (ℕ → Option Seen) → Bool
slots_describe holds n [] table = n == most_descriptors
slots_describe holds n (s ∷ slots) table = slot_describes holds s (table n) && slots_describe holds (n + 1) slots table

-- The bound describes a process with this mode, these registers, and this table.
abbrev pub describes : Holds → Bound → Bool → List ℕ → (ℕ → Option Seen) → Bool
describes holds b on registers table =
    mode_describes b.mode on && registers_describe b.registers registers && slots_describe holds 0 b.slots table

-- A channel's bound describes a descriptor that is sent.
abbrev pub sends_describes : Holds → Option Held → Seen → Bool
sends_describes holds None d = false
sends_describes holds (Some h) d = held_describes holds h d
