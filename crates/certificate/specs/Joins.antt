-- The join of two bounds, which describes whatever either describes. (own)
use Rattle.std.specs.Prelude.{◌==◌, ◌&&◌, min, max, bit_and, bit_or, List, [], ◌∷◌, Option, Some, None, if◌then◌else◌}
use Rattle.std.specs.Str.{bytes_eq}
use Rattle.certificate.specs.Bounds.{ModeBound, Off, On, Either, Interval, Target, In_grant, Any_node, Socket, Unknown, Held, Slot, Closed, Open, Maybe, Bound}
use Rattle.certificate.specs.Order.{same_class}

-- equal modes stay, others become either
abbrev pub mode_join : ModeBound → ModeBound → ModeBound
mode_join Off Off = Off
mode_join Off On = Either
mode_join On Off = Either
mode_join On On = On
mode_join Either On = Either
mode_join Either Off = Either
mode_join m Either = Either

-- from the lower low end to the higher high end
abbrev pub interval_join : Interval → Interval → Interval
interval_join a b = record { low = min a.low b.low; high = max a.high b.high }

-- Equal contents stay, two different contents that are nodes become any node, and all others unknown.
abbrev pub target_join : Target → Target → Target
target_join (In_grant a) (In_grant b) = if bytes_eq a b then In_grant a else Any_node
target_join (In_grant a) Any_node = Any_node
target_join (In_grant a) (Socket class side) = Unknown
target_join Any_node (In_grant b) = Any_node
target_join Any_node Any_node = Any_node
target_join Any_node (Socket class side) = Unknown
target_join (Socket class side) (In_grant b) = Unknown
target_join (Socket class side) Any_node = Unknown
target_join (Socket class side) (Socket other end) =
    if same_class class other && (side == end) then Socket class side else Unknown
target_join Unknown (In_grant b) = Unknown
target_join Unknown Any_node = Unknown
target_join Unknown (Socket class side) = Unknown
target_join t Unknown = Unknown

-- leasts are intersected, greatests united
abbrev pub held_join : Held → Held → Held
held_join a b = record {
  target = target_join a.target b.target;
  least = bit_and a.least b.least;
  greatest = bit_or a.greatest b.greatest;
  least_fcntls = bit_and a.least_fcntls b.least_fcntls;
  greatest_fcntls = bit_or a.greatest_fcntls b.greatest_fcntls;
}

-- Equal presences stay, others become maybe; beside a closed slot the other's content counts.
abbrev pub slot_join : Slot → Slot → Slot
slot_join Closed Closed = Closed
slot_join Closed (Open b) = Maybe b
slot_join Closed (Maybe b) = Maybe b
slot_join (Open a) Closed = Maybe a
slot_join (Open a) (Open b) = Open (held_join a b)
slot_join (Open a) (Maybe b) = Maybe (held_join a b)
slot_join (Maybe a) Closed = Maybe a
slot_join (Maybe a) (Open b) = Maybe (held_join a b)
slot_join (Maybe a) (Maybe b) = Maybe (held_join a b)

-- place by place
abbrev pub each_join : {A : Type 0} → (A → A → A) → List A → List A → List A
each_join join [] ys = []
each_join join (x ∷ xs) [] = []
each_join join (x ∷ xs) (y ∷ ys) = join x y ∷ each_join join xs ys

abbrev pub bound_join : Bound → Bound → Bound
bound_join a b = record {
  mode = mode_join a.mode b.mode;
  registers = each_join interval_join a.registers b.registers;
  slots = each_join slot_join a.slots b.slots;
}

-- of what two channels send
abbrev pub sends_join : Option Held → Option Held → Option Held
sends_join None b = b
sends_join (Some a) None = Some a
sends_join (Some a) (Some b) = Some (held_join a b)
