-- Which bound is within which, and what each describes, by computation.
use Rattle.std.proofs.Common.{◌≡◌, true, false, [], ◌∷◌, refl}
use Rattle.std.specs.Prelude.{ℕ, Some, None}
use Rattle.std.specs.Str.{bytes_eq}
use Rattle.rights.specs.Classes.{Initial, Made_at}
use Rattle.certificate.specs.Bounds.{Off, On, Either, Interval, Target, In_grant, Any_node, Socket, Unknown, Held, Closed, Open, Maybe}
use Rattle.certificate.specs.Describes.{Holds, Subject, Seen, Node_at, End_of, target_describes, held_describes, slot_describes, mode_describes, interval_describes}
use Rattle.certificate.specs.Order.{mode_within, interval_within, target_within, held_within, slot_within}

-- at least this right, and at most these two
abbrev held : Held
held = record { target = Any_node; least = 1; greatest = 3; least_fcntls = 0; greatest_fcntls = 3 }

abbrev seen : ℕ → Seen
seen rights = record { subject = Node_at []; rights = rights; fcntls = 0 }

abbrev nowhere : Holds
nowhere name place = false

open_is_within_maybe : slot_within (Open held) (Maybe held) ≡ true
open_is_within_maybe = refl

maybe_is_not_within_open : slot_within (Maybe held) (Open held) ≡ false
maybe_is_not_within_open = refl

closed_is_within_maybe : slot_within Closed (Maybe held) ≡ true
closed_is_within_maybe = refl

maybe_is_not_within_closed : slot_within (Maybe held) Closed ≡ false
maybe_is_not_within_closed = refl

maybe_describes_nothing_there : slot_describes nowhere (Maybe held) None ≡ true
maybe_describes_nothing_there = refl

open_describes_something_there : slot_describes nowhere (Open held) None ≡ false
open_describes_something_there = refl

maybe_describes_within_its_rights : slot_describes nowhere (Maybe held) (Some (seen 1)) ≡ true
maybe_describes_within_its_rights = refl

maybe_describes_no_less : slot_describes nowhere (Maybe held) (Some (seen 2)) ≡ false
maybe_describes_no_less = refl

maybe_describes_no_more : slot_describes nowhere (Maybe held) (Some (seen 7)) ≡ false
maybe_describes_no_more = refl

-- each pair of kinds; `wide` has more rights than `held`
abbrev wide : Held
wide = record held { greatest = 7 }

slots_within : (slot_within Closed Closed ≡ true) × (slot_within Closed (Open held) ≡ false)
    × (slot_within (Open held) Closed ≡ false) × (slot_within (Open held) (Open held) ≡ true) × (slot_within (Open wide) (Open held) ≡ false)
    × (slot_within (Open wide) (Maybe held) ≡ false) × (slot_within (Maybe held) (Maybe held) ≡ true) × (slot_within (Maybe wide) (Maybe held) ≡ false)
slots_within = (refl, refl, refl, refl, refl, refl, refl, refl)

slots_describe : (slot_describes nowhere Closed None ≡ true) × (slot_describes nowhere Closed (Some (seen 1)) ≡ false)
    × (slot_describes nowhere (Open held) (Some (seen 1)) ≡ true) × (slot_describes nowhere (Open held) (Some (seen 7)) ≡ false)
slots_describe = (refl, refl, refl, refl)

modes_within : (mode_within Off Off ≡ true) × (mode_within Off On ≡ false) × (mode_within Off Either ≡ true)
    × (mode_within On Off ≡ false) × (mode_within On On ≡ true) × (mode_within Either Off ≡ false) × (mode_within Either On ≡ false)
modes_within = (refl, refl, refl, refl, refl, refl, refl)

modes_describe : (mode_describes Off true ≡ false) × (mode_describes Off false ≡ true) × (mode_describes On true ≡ true)
    × (mode_describes On false ≡ false) × (mode_describes Either true ≡ true)
modes_describe = (refl, refl, refl, refl, refl)

-- grants `a` and `b`, and the ends of pairs of a class
abbrev a : Target
a = In_grant (97 ∷ [])

abbrev b : Target
b = In_grant (98 ∷ [])

abbrev end : ℕ → Target
end side = Socket (Initial 0) side

abbrev other_end : Target
other_end = Socket (Made_at [] 0) 0

grants_within : (target_within a a ≡ true) × (target_within a b ≡ false) × (target_within a Any_node ≡ true) × (target_within a (end 0) ≡ false)
    × (target_within a Unknown ≡ true) × (target_within Any_node a ≡ false) × (target_within Unknown a ≡ false)
grants_within = (refl, refl, refl, refl, refl, refl, refl)

ends_within : (target_within (end 0) (end 0) ≡ true) × (target_within (end 0) (end 1) ≡ false) × (target_within (end 0) other_end ≡ false)
    × (target_within (end 0) a ≡ false) × (target_within (end 0) Any_node ≡ false)
    × (target_within Any_node (end 0) ≡ false) × (target_within Unknown (end 0) ≡ false) × (target_within Unknown Any_node ≡ false)
ends_within = (refl, refl, refl, refl, refl, refl, refl, refl)

-- grant `a` holds each place, and others none
abbrev held_by_a : Holds
held_by_a name place = bytes_eq name (97 ∷ [])

abbrev held_end_of : ℕ → Subject
held_end_of side = End_of (Initial 0) side

targets_describe : (target_describes held_by_a a (Node_at []) ≡ true) × (target_describes held_by_a b (Node_at []) ≡ false)
    × (target_describes held_by_a a (held_end_of 0) ≡ false) × (target_describes held_by_a Any_node (held_end_of 0) ≡ false)
    × (target_describes held_by_a (end 0) (Node_at []) ≡ false) × (target_describes held_by_a (end 0) (held_end_of 0) ≡ true)
    × (target_describes held_by_a (end 0) (held_end_of 1) ≡ false) × (target_describes held_by_a other_end (held_end_of 0) ≡ false)
    × (target_describes held_by_a Unknown (held_end_of 0) ≡ true)
targets_describe = (refl, refl, refl, refl, refl, refl, refl, refl, refl)

-- each part of a descriptor's bound is asked
abbrev strict : Held
strict = record held { least_fcntls = 1; greatest_fcntls = 1 }

parts_within : (held_within held (record held { target = a }) ≡ false) × (held_within held (record held { least = 3 }) ≡ false)
    × (held_within held (record held { greatest = 1 }) ≡ false) × (held_within held (record held { least_fcntls = 1 }) ≡ false)
    × (held_within held (record held { greatest_fcntls = 1 }) ≡ false) × (held_within strict held ≡ true)
parts_within = (refl, refl, refl, refl, refl, refl)

parts_describe : (held_describes nowhere (record held { target = a }) (seen 1) ≡ false)
    × (held_describes nowhere strict (record (seen 1) { fcntls = 0 }) ≡ false) × (held_describes nowhere strict (record (seen 1) { fcntls = 3 }) ≡ false)
    × (held_describes nowhere strict (record (seen 1) { fcntls = 1 }) ≡ true)
parts_describe = (refl, refl, refl, refl)

abbrev from_2_to_4 : Interval
from_2_to_4 = record { low = 2; high = 4 }

intervals : (interval_within from_2_to_4 from_2_to_4 ≡ true) × (interval_within (record { low = 1; high = 4 }) from_2_to_4 ≡ false)
    × (interval_within (record { low = 2; high = 5 }) from_2_to_4 ≡ false) × (interval_describes from_2_to_4 2 ≡ true)
    × (interval_describes from_2_to_4 4 ≡ true) × (interval_describes from_2_to_4 1 ≡ false) × (interval_describes from_2_to_4 5 ≡ false)
intervals = (refl, refl, refl, refl, refl, refl, refl)
