-- What a step of a run breaks: the policy, or that no call is refused for want of a right or by capability mode. (own, after
-- capsicum(4) and rights(4))
use Rattle.std.specs.Prelude.{ℕ, Bool, false, ◌&&◌, nat_eq, List, [], ◌∷◌, Option, Some, None, if◌then◌else◌}
use Rattle.std.specs.List.{list_any}
use Rattle.rights.specs.Values.{Place, PathText}
use Rattle.rights.specs.Errors.{Cause, CapMode, MissingRight}
use Rattle.rights.specs.Operations.{Operation}
use Rattle.rights.specs.OperationLists.{lists}
use Rattle.file_tree.specs.Places.{ends_name, slash}
use Rattle.process.specs.State.{ProcessState}
use Rattle.kernel.specs.Steps.{LineResult, Failed}
use Rattle.syscalls.specs.Shows.{Shown}
use Rattle.task.specs.Plans.{Grant}
use Rattle.simulator.specs.Lines.{ShownStep}

pub data Breach : Type 0 where
  Outside : (operation : Operation) (place : PathText) → Breach  -- in capability mode, an effect that no grant allows
  Missing_right : Breach  -- a call is refused for a right or a command that its descriptor lacks
  Capability_mode : Breach  -- a call is refused since it names what can't be named in capability mode

-- ## Places as texts
-- what a text has behind a beginning, if it begins so
abbrev pub behind : List ℕ → List ℕ → Option (List ℕ)
behind [] text = Some text
behind (b ∷ front) [] = None
behind (b ∷ front) (c ∷ text) = if nat_eq c b then behind front text else None

abbrev pub passes : (PathText → Bool) → Option PathText → Bool
passes test None = false
passes test (Some text) = test text

-- whether a text is that of the place, or of one beneath it, name by name
unfoldable pub is_beneath : Place → PathText → Bool
is_beneath [] text = ends_name text
is_beneath (name ∷ path) text = passes (is_beneath path) (behind (slash ∷ name) text)

-- ## What a step breaks
-- some grant lists the operation whose directory is above the place, or is the place
abbrev pub allows_shown : Shown → Grant → Bool
allows_shown f g = is_beneath g.path f.place && lists g.operations f.operation

-- the first effect that no grant allows
abbrev pub outside : List Grant → List Shown → Option Breach
outside grants [] = None
outside grants (f ∷ effects) = if list_any (allows_shown f) grants then outside grants effects else Some (Outside f.operation f.place)

abbrev pub refusal_for : Cause → Option Breach
refusal_for CapMode = Some Capability_mode
refusal_for MissingRight = Some Missing_right
refusal_for _ = None

abbrev pub refusal : LineResult → Option Breach
refusal (Failed errno cause) = refusal_for cause
refusal _ = None

abbrev pub either_breach : Option Breach → Option Breach → Option Breach
either_breach None other = other
either_breach (Some breach) other = Some breach

-- What the step of a process breaks, which stood so before it. An effect counts in capability mode alone, and a refusal counts of a
-- trusted program alone.
abbrev pub breach_by : List Grant → ProcessState → ShownStep → Option Breach
breach_by grants s a = either_breach (if s.mode then outside grants a.effects else None) (if s.marked then None else refusal a.outcome)

abbrev pub breach_in : List Grant → Option ProcessState → Option ShownStep → Option Breach
breach_in grants (Some s) (Some a) = breach_by grants s a
breach_in grants _ _ = None
