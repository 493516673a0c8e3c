-- What is remarked on a program whose points have bounds: what a yes doesn't say of it, and what could be narrower. Each is a fact with
-- the points at which it holds. (own)
use Rattle.std.specs.Prelude.{◌&&◌, ◌||◌, ◌==◌, not, ℕ, Bool, true, false, List, Option, Some, None, filter, map}
use Rattle.std.specs.List.{list_any, slice_get, slice_index_or}
use Rattle.rights.specs.Values.{DescriptorNumber}
use Rattle.rights.specs.Sides.{other_side}
use Rattle.certificate.specs.Bounds.{Bound, ModeBound, Off, On, Either, Held, Target, In_grant, Any_node, Socket, Unknown, held_in, slot}
use Rattle.certificate.specs.Describes.{interval_describes}
use Rattle.certificate.specs.Order.{same_class}
use Rattle.instruction_set.specs.Programs.{Instruction, Jeq, Jlt, Halt, Invoke, Operand, called}
use Rattle.call_facts.specs.Arguments.{first_operand}
use Rattle.call_facts.specs.Facts.{forks, frees}
use Rattle.std.specs.Option.{option_map_or}
use Rattle.instruction_set.specs.Successors.{enters_mode, successors_at}
use Rattle.rules.specs.Needs.{Through, Passed, Nothing, Sent, Received, needs}
use Rattle.rules.specs.Slots.{may_be_on, operand_interval}
use Rattle.remarks.specs.Ways.{from_which, is_flagged, points}

-- ## A point, its instruction and its bound
abbrev pub bound_here : List (Option Bound) → ℕ → Option Bound
bound_here bounds point = slice_index_or bounds point None

abbrev pub holds_there : (Instruction → Bool) → Option Instruction → Bool
holds_there test None = false
holds_there test (Some i) = test i

-- whether the instruction of a point is so
abbrev pub is_there : List Instruction → (Instruction → Bool) → ℕ → Bool
is_there code test point = holds_there test (slice_get code point)

abbrev pub is_halt : Instruction → Bool
is_halt Halt = true
is_halt _ = false

abbrev pub is_choice : Instruction → Bool
is_choice (Jeq register value target) = true
is_choice (Jlt register value target) = true
is_choice _ = false

abbrev pub is_either : ModeBound → Bool
is_either Off = false
is_either On = false
is_either Either = true

abbrev pub has_mode : (ModeBound → Bool) → Option Bound → Bool
has_mode test None = false
has_mode test (Some b) = test b.mode

-- a process may be there in the mode; it may be in it or not; it is surely outside
abbrev pub is_on_at : List (Option Bound) → ℕ → Bool
is_on_at bounds point = has_mode may_be_on (bound_here bounds point)

abbrev pub is_either_at : List (Option Bound) → ℕ → Bool
is_either_at bounds point = has_mode is_either (bound_here bounds point)

abbrev pub is_off_at : List (Option Bound) → ℕ → Bool
is_off_at bounds point = has_mode (λ mode. not (may_be_on mode)) (bound_here bounds point)

-- what a number may hold there
abbrev pub held_by : Option Bound → DescriptorNumber → Option Held
held_by None n = None
held_by (Some b) n = held_in (slot b.slots n)

abbrev pub held_here : List (Option Bound) → DescriptorNumber → ℕ → Option Held
held_here bounds n point = held_by (bound_here bounds point) n

abbrev pub holds_so : (Held → Bool) → Option Held → Bool
holds_so test None = false
holds_so test (Some h) = test h

-- ## What lies in no grant
abbrev pub lies_nowhere : Target → Bool
lies_nowhere (In_grant name) = false
lies_nowhere (Socket class side) = false
lies_nowhere Any_node = true
lies_nowhere Unknown = true

-- In the mode the number may hold what lies in no grant; a point that only ends doesn't count.
abbrev pub is_stray : List Instruction → List (Option Bound) → DescriptorNumber → ℕ → Bool
is_stray code bounds n point =
    is_on_at bounds point && not (is_there code is_halt point) && holds_so (λ h. lies_nowhere h.target) (held_here bounds n point)

abbrev pub strays : List Instruction → List (Option Bound) → DescriptorNumber → List ℕ
strays code bounds n = filter (is_stray code bounds n) (points code)

-- ## A way that skips cap_enter
-- A process may be there in the mode or outside it, and goes on.
abbrev pub unsettled : List Instruction → List (Option Bound) → List ℕ
unsettled code bounds = filter (λ point. is_either_at bounds point && not (is_there code is_halt point)) (points code)

-- Outside the mode an instruction that doesn't enter it leads to a point where a process may be in the mode or not.
abbrev pub is_skipping : List Instruction → List (Option Bound) → ℕ → Bool
is_skipping code bounds point =
    is_off_at bounds point && not (is_there code enters_mode point) && list_any (is_either_at bounds) (successors_at code point)

abbrev pub skipping : List Instruction → List (Option Bound) → List ℕ
skipping code bounds = filter (is_skipping code bounds) (points code)

-- ## What is held and never named
abbrev pub may_be_number : Bound → DescriptorNumber → Operand → Bool
may_be_number b n x = interval_describes (operand_interval b x) n

abbrev pub may_be_sent : Bound → DescriptorNumber → Passed → Bool
may_be_sent b n Nothing = false
may_be_sent b n Received = false
may_be_sent b n (Sent x) = may_be_number b n x

abbrev pub may_go_through : Bound → DescriptorNumber → Option Through → Bool
may_go_through b n None = false
may_go_through b n (Some t) = may_be_number b n t.operand || may_be_sent b n t.need.passed

abbrev pub may_name_number : DescriptorNumber → Option Bound → Instruction → Bool
may_name_number n (Some b) (Invoke call otherwise) = may_go_through b n (needs call).first || may_go_through b n (needs call).second
may_name_number n _ _ = false

abbrev pub has_work : Option Through → Bool
has_work None = false
has_work (Some t) = t.need.works

-- a call that works on what a descriptor is of: reads, writes, opens beneath it, ..
abbrev pub is_working : Instruction → Bool
is_working (Invoke call otherwise) = has_work (needs call).first
is_working _ = false

-- The flags of points: an instruction there may name the number; one works on a descriptor. A way begins where the program starts, where
-- the mode is entered, and where parent and child part.
abbrev pub naming_points : List Instruction → List (Option Bound) → DescriptorNumber → List Bool
naming_points code bounds n = map (λ point. is_there code (may_name_number n (bound_here bounds point)) point) (points code)

abbrev pub working_points : List Instruction → List Bool
working_points code = map (is_there code is_working) (points code)

-- some point that is so leads to it
abbrev pub is_led_by : List Instruction → (ℕ → Bool) → ℕ → Bool
is_led_by code test point = list_any (λ before. test before && list_any (λ to. to == point) (successors_at code before)) (points code)

abbrev pub is_fork : Instruction → Bool
is_fork (Invoke call otherwise) = forks (called call)
is_fork _ = false

-- a choice right behind a fork: parent and child part there
abbrev pub parts_at : List Instruction → ℕ → Bool
parts_at code point = is_there code is_choice point && is_led_by code (is_there code is_fork) point

abbrev pub begins_way : List Instruction → ℕ → Bool
begins_way code point =
    (point == 0) || is_led_by code (is_there code enters_mode) point || is_led_by code (parts_at code) point

-- In the mode a way begins with the number open: no instruction from there on names it, and some work on others.
abbrev pub stays_idle : List Instruction → List (Option Bound) → List Bool → List Bool → DescriptorNumber → ℕ → Bool
stays_idle code bounds named worked n point =
    is_on_at bounds point && holds_so (λ h. true) (held_here bounds n point) && not (is_flagged named point) && is_flagged worked point
    && begins_way code point

abbrev pub idle : List Instruction → List (Option Bound) → DescriptorNumber → List ℕ
idle code bounds n =
    filter (stays_idle code bounds (from_which code (naming_points code bounds n)) (from_which code (working_points code)) n) (points code)

-- ## Both ends of a pair
abbrev pub are_sides : Target → Target → Bool
are_sides (Socket c s) (Socket d t) = same_class c d && (t == other_side s)
are_sides _ _ = false

abbrev pub are_both : Option Held → Option Held → Bool
are_both (Some h) (Some g) = are_sides h.target g.target
are_both _ _ = false

abbrev pub has_both : List (Option Bound) → DescriptorNumber → DescriptorNumber → ℕ → Bool
has_both bounds n m point = are_both (held_here bounds n point) (held_here bounds m point)

abbrev pub may_close : DescriptorNumber → Option Bound → Instruction → Bool
may_close n (Some b) (Invoke call otherwise) = frees (called call) && option_map_or (may_be_number b n) (first_operand call) false
may_close n _ _ = false

abbrev pub closing_points : List Instruction → List (Option Bound) → DescriptorNumber → List Bool
closing_points code bounds n = map (λ point. is_there code (may_close n (bound_here bounds point)) point) (points code)

-- Both numbers may be ends of one pair, and no instruction from there on closes one of them; a point that only ends doesn't count.
abbrev pub is_doubled : List Instruction → List (Option Bound) → List Bool → List Bool → DescriptorNumber → DescriptorNumber → ℕ → Bool
is_doubled code bounds closed others n m point =
    has_both bounds n m point && not (is_flagged closed point) && not (is_flagged others point)
    && not (is_there code is_halt point)

abbrev pub doubled : List Instruction → List (Option Bound) → DescriptorNumber → DescriptorNumber → List ℕ
doubled code bounds n m =
    filter (is_doubled code bounds (from_which code (closing_points code bounds n)) (from_which code (closing_points code bounds m)) n m) (points code)
