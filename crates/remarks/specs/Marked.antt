-- What is remarked on a marked program, whose bounds say what is so outside the mode alone: where a way skips cap_enter. (own)
use Rattle.std.specs.Prelude.{◌&&◌, not, ℕ, Bool, List, Option, filter, map}
use Rattle.std.specs.List.{list_any}
use Rattle.certificate.specs.Bounds.{Bound}
use Rattle.instruction_set.specs.Programs.{Instruction}
use Rattle.instruction_set.specs.Successors.{enters_mode, successors_at}
use Rattle.remarks.specs.Remarks.{bound_here, has_mode, is_halt, is_there}
use Rattle.remarks.specs.Warnings.{may_be_off}
use Rattle.remarks.specs.Ways.{from_which, is_flagged, only, points}

-- a process may be there outside the mode
abbrev pub is_outside_at : List (Option Bound) → ℕ → Bool
is_outside_at bounds point = has_mode may_be_off (bound_here bounds point)

-- A process enters the mode there, and goes on to a flagged point.
abbrev pub enters_and_leads : List Instruction → List (Option Bound) → List Bool → ℕ → Bool
enters_and_leads code bounds flags point =
    is_outside_at bounds point && is_there code enters_mode point && list_any (is_flagged flags) (successors_at code point)

-- A process comes to the point from where it enters the mode, by the text: a marked program may do anything in the mode, but this is as it is
-- written.
abbrev pub is_entered_at : List Instruction → List (Option Bound) → ℕ → Bool
is_entered_at code bounds point = list_any (enters_and_leads code bounds (from_which code (only code point))) (points code)

-- One may be there outside the mode, and another comes there in it.
abbrev pub is_mixed_at : List Instruction → List (Option Bound) → ℕ → Bool
is_mixed_at code bounds point = is_outside_at bounds point && is_entered_at code bounds point

abbrev pub mixed_points : List Instruction → List (Option Bound) → List Bool
mixed_points code bounds = map (is_mixed_at code bounds) (points code)

-- A process that is there in the mode or outside it goes on.
abbrev pub goes_on_mixed : List Instruction → List Bool → ℕ → Bool
goes_on_mixed code mixed point = is_flagged mixed point && not (is_there code is_halt point)

abbrev pub unsettled_marked : List Instruction → List (Option Bound) → List ℕ
unsettled_marked code bounds = filter (goes_on_mixed code (mixed_points code bounds)) (points code)

-- Outside the mode, where none is in it, an instruction that doesn't enter it leads to such a point.
abbrev pub is_skipping_marked : List Instruction → List (Option Bound) → List Bool → ℕ → Bool
is_skipping_marked code bounds mixed point =
    is_outside_at bounds point && not (is_flagged mixed point) && not (is_there code enters_mode point)
    && list_any (is_flagged mixed) (successors_at code point)

abbrev pub skipping_marked : List Instruction → List (Option Bound) → List ℕ
skipping_marked code bounds = filter (is_skipping_marked code bounds (mixed_points code bounds)) (points code)
