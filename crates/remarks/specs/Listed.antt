-- All that is remarked on a program, in order: each remark with the points at which it holds. (own)
use Rattle.std.specs.Prelude.{◌&&◌, ◌||◌, ◌==◌, ◌++◌, ◌-◌, not, ℕ, Bool, true, false, if◌then◌else◌, List, [], ◌∷◌, Option, Some, None, bit_and, filter, is_some, map, nat_lt}
use Rattle.std.specs.List.{flat_map, list_any, range_with_len, slice_get}
use Rattle.rights.specs.Limits.{most_descriptors}
use Rattle.rights.specs.Sets.{is_within}
use Rattle.rights.specs.Uses.{noted_rights}
use Rattle.rights.specs.Values.{CommandSet, DescriptorNumber, RightSet}
use Rattle.certificate.specs.Bounds.{Bound, Certificate, Held, held_in, slot}
use Rattle.certificate.specs.Order.{slot_within}
use Rattle.instruction_set.specs.Programs.{Instruction, Invoke, Operand, Register, Number}
use Rattle.rules.specs.Needs.{Through, needs}
use Rattle.instruction_set.specs.Successors.{enters_mode}
use Rattle.rules.specs.Slots.{may_be_on}
use Rattle.task.specs.Plans.{NamedProgram, Plan, Start}
use Rattle.remarks.specs.Marked.{skipping_marked, unsettled_marked}
use Rattle.remarks.specs.Remarks.{bound_here, doubled, held_here, idle, is_on_at, is_there, skipping, strays, unsettled}
use Rattle.remarks.specs.Uses.{uses_ahead, uses_at}
use Rattle.remarks.specs.Warnings.{bounds_in}
use Rattle.remarks.specs.Ways.{is_flagged, points, reached}

pub data Remark : Type 0 where
  -- no process of the program enters the mode
  Never_enters : Remark
  -- in the mode it may do anything with what its authority has
  Untrusted : Remark
  -- nothing arrives there, or nothing outside the mode
  Unreached : (outside_alone : Bool) → Remark
  -- a process may be there in the mode or outside it: from these points a way skips the entering
  Unsettled : (from : List ℕ) → Remark
  -- in the mode the number may hold what lies in no grant
  Stray : DescriptorNumber → Remark
  -- in the mode a way begins with the number open, and no instruction from there on names it
  Idle : DescriptorNumber → Remark
  -- it has rights, or commands, that no call from there on can use: these are all that some can
  Rights_left : DescriptorNumber → RightSet → Remark
  Commands_left : DescriptorNumber → CommandSet → Remark
  -- both may be ends of one pair, and stay open
  Both_ends : DescriptorNumber → DescriptorNumber → Remark
  -- it is never open where the instruction names it
  Never_open : DescriptorNumber → Remark

pub record Remarked : Type 0 where
  pub remark : Remark
  pub points : List ℕ

-- a remark, if there are points at which it holds
abbrev pub where_any : Remark → List ℕ → List Remarked
where_any remark [] = []
where_any remark (point ∷ more) = record { remark = remark; points = point ∷ more } ∷ []

abbrev pub where_so : Bool → Remark → List ℕ → List Remarked
where_so false remark points = []
where_so true remark points = where_any remark points

abbrev pub at_point : Remark → ℕ → List Remarked
at_point remark point = where_any remark (point ∷ [])

-- ## No process enters the mode
abbrev pub starts_outside : ℕ → Start → Bool
starts_outside program s = (s.program == program) && not s.mode

-- A process may be there in the mode, or, where the bounds don't tell what comes behind it, enter it.
abbrev pub may_enter_at : List Instruction → List (Option Bound) → Bool → ℕ → Bool
may_enter_at code bounds is_untold point = is_on_at bounds point || (is_untold && is_there code enters_mode point)

abbrev pub never_enters : List Start → ℕ → List Instruction → List (Option Bound) → Bool → Bool
never_enters starts program code bounds is_untold =
    list_any (starts_outside program) starts && not (list_any (may_enter_at code bounds is_untold) (points code))

-- ## Nothing arrives
abbrev pub has_bound : List (Option Bound) → ℕ → Bool
has_bound bounds point = is_some (bound_here bounds point)

-- by the bounds, where there is a certificate, else by the text
abbrev pub arrived : List Instruction → List (Option Bound) → Bool → List Bool
arrived code bounds true = map (has_bound bounds) (points code)
arrived code bounds false = reached code

abbrev pub unreached : List Instruction → List (Option Bound) → Bool → List ℕ
unreached code bounds has_cert = filter (λ point. not (is_flagged (arrived code bounds has_cert) point)) (points code)

-- ## In the mode or outside it
unfoldable pub mixed_remarks : List Instruction → List (Option Bound) → Bool → List Remarked
mixed_remarks code bounds true = where_any (Unsettled (skipping_marked code bounds)) (unsettled_marked code bounds)
mixed_remarks code bounds false = where_any (Unsettled (skipping code bounds)) (unsettled code bounds)

-- ## To what a number could be limited
-- It is in the mode there with the same slot.
abbrev pub has_same : DescriptorNumber → Option Bound → Option Bound → Bool
has_same n (Some b) (Some other) =
    may_be_on other.mode && slot_within (slot b.slots n) (slot other.slots n) && slot_within (slot other.slots n) (slot b.slots n)
has_same n _ _ = false

abbrev pub is_new_there : List (Option Bound) → DescriptorNumber → ℕ → Bool
is_new_there bounds n point = (point == 0) || not (has_same n (bound_here bounds point) (bound_here bounds (point - 1)))

-- what a number may hold at a point in the mode, unless it is the same in the mode at the point before
abbrev pub new_in_mode : List (Option Bound) → DescriptorNumber → ℕ → Option Held
new_in_mode bounds n point = if is_on_at bounds point && is_new_there bounds n point then held_here bounds n point else None

-- Less than it has, and something, where all further rights don't count: where no call needs anything of it any more, nothing is remarked.
abbrev pub right_limit : DescriptorNumber → ℕ → RightSet → RightSet → List Remarked
right_limit n point has used =
    if not (used == 0) && not (is_within (noted_rights has) used) then at_point (Rights_left n (bit_and used has)) point else []

abbrev pub command_limit : DescriptorNumber → ℕ → CommandSet → CommandSet → List Remarked
command_limit n point has used =
    if not (used == 0) && not (is_within has used) then at_point (Commands_left n (bit_and used has)) point else []

abbrev pub held_limits : List Instruction → List (Option Bound) → DescriptorNumber → ℕ → Held → List Remarked
held_limits code bounds n point h =
    right_limit n point h.greatest (uses_at (uses_ahead code bounds h.target) point).rights
    ++ command_limit n point h.greatest_fcntls (uses_at (uses_ahead code bounds h.target) point).commands

abbrev pub new_limits : List Instruction → List (Option Bound) → DescriptorNumber → ℕ → Option Held → List Remarked
new_limits code bounds n point None = []
new_limits code bounds n point (Some h) = held_limits code bounds n point h

abbrev pub limits_at : List Instruction → List (Option Bound) → DescriptorNumber → List ℕ → ℕ → List Remarked
limits_at code bounds n unnamed point =
    if list_any (λ other. other == point) unnamed then [] else new_limits code bounds n point (new_in_mode bounds n point)

unfoldable pub limits : List Instruction → List (Option Bound) → DescriptorNumber → List ℕ → List Remarked
limits code bounds n unnamed = flat_map (limits_at code bounds n unnamed) (points code)

unfoldable pub on_number : List Instruction → List (Option Bound) → DescriptorNumber → List Remarked
on_number code bounds n =
    where_any (Stray n) (strays code bounds n)
    ++ (limits code bounds n (idle code bounds n) ++ where_any (Idle n) (idle code bounds n))

-- ## Both ends of a pair
unfoldable pub on_numbers : List Instruction → List (Option Bound) → DescriptorNumber → DescriptorNumber → List Remarked
on_numbers code bounds n m = where_so (nat_lt n m) (Both_ends n m) (doubled code bounds n m)

unfoldable pub numbers : List DescriptorNumber
numbers = range_with_len 0 most_descriptors

-- ## What is never open
abbrev pub is_closed_in : Bound → DescriptorNumber → Bool
is_closed_in b n = not (is_some (held_in (slot b.slots n)))

abbrev pub closed_by : ℕ → Bound → Operand → List Remarked
closed_by point b (Register register) = []
closed_by point b (Number n) = if is_closed_in b n then at_point (Never_open n) point else []

abbrev pub closed_through : ℕ → Bound → Option Through → List Remarked
closed_through point b None = []
closed_through point b (Some t) = closed_by point b t.operand

abbrev pub closed_there : ℕ → Option Bound → Option Instruction → List Remarked
closed_there point (Some b) (Some (Invoke call otherwise)) =
    closed_through point b (needs call).first ++ closed_through point b (needs call).second
closed_there point _ _ = []

unfoldable pub never_open_at : List Instruction → List (Option Bound) → ℕ → List Remarked
never_open_at code bounds point = closed_there point (bound_here bounds point) (slice_get code point)

-- ## All of them
unfoldable pub on_ends : List Instruction → List (Option Bound) → List Remarked
on_ends code bounds = flat_map (λ n. flat_map (on_numbers code bounds n) numbers) numbers ++ flat_map (never_open_at code bounds) (points code)

unfoldable pub on_held : List Instruction → List (Option Bound) → List Remarked
on_held code bounds = flat_map (on_number code bounds) numbers ++ on_ends code bounds

unfoldable pub on_bounds : List Instruction → List (Option Bound) → Bool → List Remarked
on_bounds code bounds marked = mixed_remarks code bounds marked ++ on_held code bounds

unfoldable pub unreached_remarks : List Instruction → List (Option Bound) → Bool → Bool → List Remarked
unreached_remarks code bounds has_cert marked = where_any (Unreached (has_cert && marked)) (unreached code bounds has_cert)

unfoldable pub on_points : List Instruction → List (Option Bound) → Bool → Bool → List Remarked
on_points code bounds has_cert marked =
    unreached_remarks code bounds has_cert marked ++ (if has_cert then on_bounds code bounds marked else [])

unfoldable pub on_whole : List Start → ℕ → List Instruction → List (Option Bound) → Bool → Bool → List Remarked
on_whole starts program code bounds has_cert marked =
    where_so (never_enters starts program code bounds (not has_cert || marked)) Never_enters (points code)
    ++ where_so marked Untrusted (points code)

unfoldable pub on_code : List Start → ℕ → List Instruction → List (Option Bound) → Bool → Bool → List Remarked
on_code starts program code bounds has_cert marked =
    on_whole starts program code bounds has_cert marked ++ on_points code bounds has_cert marked

unfoldable pub on_program : List Start → ℕ → Bool → Certificate → Option NamedProgram → List Remarked
on_program starts program has_cert c None = []
on_program starts program has_cert c (Some p) = on_code starts program p.code (bounds_in c p) has_cert p.marked

-- those on a program of a task, by its number: with the bounds of a certificate, if there is one
abbrev pub remarks_on : Plan → Certificate → ℕ → Bool → List Remarked
remarks_on plan c program has_cert = on_program plan.starts program has_cert c (slice_get plan.programs program)
