-- What a number may have in the mode beyond the policy: rights for what its grant doesn't list. (own)
use Rattle.std.specs.Prelude.{◌&&◌, ◌==◌, not, ℕ, Bool, true, false, List, [], ◌∷◌, Option, Some, None, bit_or, filter, map}
use Rattle.std.specs.List.{slice_get}
use Rattle.certificate.specs.Bounds.{Bound, Held, Target, In_grant, Any_node, Socket, Unknown, held_in, slot}
use Rattle.instruction_set.specs.Programs.{Instruction}
use Rattle.remarks.specs.Remarks.{bound_here, is_halt}
use Rattle.remarks.specs.Ways.{points}
use Rattle.rights.specs.Values.{DescriptorNumber, Name, RightSet}
use Rattle.rights.specs.Operations.{operations_of_rights, Operation}
use Rattle.rights.specs.Sets.{is_within}
use Rattle.rules.specs.Authority.{keeps_ceiling}
use Rattle.rules.specs.Slots.{may_be_on}
use Rattle.task.specs.Plans.{Grant}

abbrev pub union : List RightSet → RightSet
union [] = 0
union (set ∷ sets) = bit_or set (union sets)

-- the right alone is for what the grant doesn't list
abbrev pub is_unlisted : Bool → List Grant → Name → RightSet → Bool
is_unlisted wide grants grant right = not (keeps_ceiling wide grants (record { grant = grant; rights = right }))

-- of some rights those that are held and for what the grant doesn't list
abbrev pub unlisted_among : Bool → List Grant → Name → RightSet → List RightSet → RightSet
unlisted_among wide grants grant held rights = union (filter (λ right. is_within right held && is_unlisted wide grants grant right) rights)

-- the rights that are for an operation of the policy
abbrev pub rights_of_operations : List RightSet
rights_of_operations = map (λ (o : RightSet × Operation). o.0) operations_of_rights

abbrev pub beyond_of_target : Bool → List Grant → RightSet → Target → RightSet
beyond_of_target wide grants held (In_grant grant) = unlisted_among wide grants grant held rights_of_operations
beyond_of_target wide grants held Any_node = 0
beyond_of_target wide grants held (Socket class side) = 0
beyond_of_target wide grants held Unknown = 0

-- what it may have beyond its grant; of what lies in no grant, or is an end of a pair, nothing is
abbrev pub rights_beyond : Bool → List Grant → Held → RightSet
rights_beyond wide grants h = beyond_of_target wide grants h.greatest h.target

-- what a number may hold at a point in the mode; a point that only ends doesn't count
abbrev pub held_if : Bool → Option Held → Option Held
held_if true held = held
held_if false held = None

abbrev pub held_where_on : Option Bound → Option Instruction → DescriptorNumber → Option Held
held_where_on (Some b) (Some i) n = held_if (may_be_on b.mode && not (is_halt i)) (held_in (slot b.slots n))
held_where_on _ _ n = None

abbrev pub held_in_mode : List Instruction → List (Option Bound) → DescriptorNumber → ℕ → Option Held
held_in_mode code bounds n point = held_where_on (bound_here bounds point) (slice_get code point) n

-- what a number may have beyond its grant there
abbrev pub beyond_of : Bool → List Grant → Option Held → RightSet
beyond_of wide grants None = 0
beyond_of wide grants (Some h) = rights_beyond wide grants h

abbrev pub beyond_at : Bool → List Grant → List Instruction → List (Option Bound) → DescriptorNumber → ℕ → RightSet
beyond_at wide grants code bounds n point = beyond_of wide grants (held_in_mode code bounds n point)

-- the points at which it has such rights, and all that it has at some points
abbrev pub points_beyond : Bool → List Grant → List Instruction → List (Option Bound) → DescriptorNumber → List ℕ
points_beyond wide grants code bounds n = filter (λ point. not (beyond_at wide grants code bounds n point == 0)) (points code)

abbrev pub beyond_at_all : Bool → List Grant → List Instruction → List (Option Bound) → DescriptorNumber → List ℕ → RightSet
beyond_at_all wide grants code bounds n at = union (map (beyond_at wide grants code bounds n) at)
