-- When one bound is within another. (own)
use Rattle.std.specs.Prelude.{◌==◌, ◌&&◌, Bool, true, false, nat_le, List, [], ◌∷◌, Option, Some, None}
use Rattle.std.specs.Str.{bytes_eq}
use Rattle.rights.specs.Sets.{is_within}
use Rattle.rights.specs.Classes.{Class, Initial, Made_at}
use Rattle.certificate.specs.Bounds.{ModeBound, Off, On, Either, Interval, Target, In_grant, Any_node, Socket, Unknown, Held, Slot, Closed, Open, Maybe, Bound}

-- off and on are within either
abbrev pub mode_within : ModeBound → ModeBound → Bool
mode_within Off Off = true
mode_within Off On = false
mode_within On Off = false
mode_within On On = true
mode_within Either Off = false
mode_within Either On = false
mode_within m Either = true

abbrev pub interval_within : Interval → Interval → Bool
interval_within a b = nat_le b.low a.low && nat_le a.high b.high

abbrev pub same_class : Class → Class → Bool
same_class (Initial m) (Initial n) = m == n
same_class (Initial m) (Made_at program point) = false
same_class (Made_at p m) (Initial n) = false
same_class (Made_at p m) (Made_at q n) = bytes_eq p q && (m == n)

-- a grant is within any node, and all is within unknown
abbrev pub target_within : Target → Target → Bool
target_within t Unknown = true
target_within (In_grant a) (In_grant b) = bytes_eq a b
target_within (In_grant a) Any_node = true
target_within (In_grant a) (Socket class side) = false
target_within Any_node (In_grant b) = false
target_within Any_node Any_node = true
target_within Any_node (Socket class side) = false
target_within (Socket class side) (In_grant b) = false
target_within (Socket class side) Any_node = false
target_within (Socket class side) (Socket other end) = same_class class other && (side == end)
target_within Unknown (In_grant b) = false
target_within Unknown Any_node = false
target_within Unknown (Socket class side) = false

-- the least sets grow, and the greatest shrink
abbrev pub held_within : Held → Held → Bool
held_within a b =
    target_within a.target b.target && is_within b.least a.least && is_within a.greatest b.greatest
    && is_within b.least_fcntls a.least_fcntls && is_within a.greatest_fcntls b.greatest_fcntls

-- closed and open are within maybe
abbrev pub slot_within : Slot → Slot → Bool
slot_within Closed Closed = true
slot_within Closed (Open b) = false
slot_within Closed (Maybe b) = true
slot_within (Open a) Closed = false
slot_within (Open a) (Open b) = held_within a b
slot_within (Open a) (Maybe b) = held_within a b
slot_within (Maybe a) Closed = false
slot_within (Maybe a) (Open b) = false
slot_within (Maybe a) (Maybe b) = held_within a b

-- each element is within the one at its place in the other list
abbrev pub each_within : {A : Type 0} → (A → A → Bool) → List A → List A → Bool
each_within test [] [] = true
each_within test [] (y ∷ ys) = false
each_within test (x ∷ xs) [] = false
each_within test (x ∷ xs) (y ∷ ys) = test x y && each_within test xs ys

abbrev pub bound_within : Bound → Bound → Bool
bound_within a b =
    mode_within a.mode b.mode && each_within interval_within a.registers b.registers
    && each_within slot_within a.slots b.slots

-- what a channel sends: messages without descriptors are within any
abbrev pub sends_within : Option Held → Option Held → Bool
sends_within None b = true
sends_within (Some a) None = false
sends_within (Some a) (Some b) = held_within a b
