-- Which operations of a grant nothing needs: no call does them there in the mode, and no ceiling of an untrusted program has a right for
-- them. (own)
use Rattle.std.specs.Prelude.{◌&&◌, ◌||◌, not, Bool, List, [], ◌∷◌, filter}
use Rattle.std.specs.List.{list_any}
use Rattle.std.specs.Str.{bytes_eq}
use Rattle.certificate.specs.Bounds.{Authority, Ceiling, Certificate}
use Rattle.remarks.specs.TaskRemarks.{program_does}
use Rattle.rights.specs.OperationLists.{lists, same_operation}
use Rattle.rights.specs.Operations.{Operation, Look, Read, Write, Create, Remove}
use Rattle.rights.specs.Sets.{is_within, lookup_right}
use Rattle.rights.specs.Values.{Name}
use Rattle.rules.specs.Authority.{keeps_ceiling}
use Rattle.task.specs.Plans.{Grant, Plan}

abbrev pub all_operations : List Operation
all_operations = Look ∷ Read ∷ Write ∷ Create ∷ Remove ∷ []

-- a grant of the name that lists all operations but one
abbrev pub is_other : Operation → Operation → Bool
is_other operation other = not (lists (other ∷ []) operation)

abbrev pub others : Operation → List Operation
others operation = filter (is_other operation) all_operations

abbrev pub without : Name → Operation → Grant
without name operation = record { name = name; path = []; operations = others operation }

-- A ceiling on such a grant isn't kept just if it has a right for that operation.
abbrev pub has_right_for : Bool → Operation → List Grant → Ceiling → Bool
has_right_for wide operation grants c = not (keeps_ceiling wide grants c) || (same_operation operation Look && is_within lookup_right c.rights)

-- A ceiling on the grant needs the operation: it has a right for it, by the table of K19, or looks names up, where it is looking.
abbrev pub ceiling_needs : Bool → Name → Operation → List Grant → Ceiling → Bool
ceiling_needs wide grant operation grants c = bytes_eq c.grant grant && has_right_for wide operation grants c

abbrev pub authority_needs : Bool → Name → Operation → List Grant → Authority → Bool
authority_needs wide grant operation grants a = list_any (ceiling_needs wide grant operation grants) a.ceilings

-- no call does it there in the mode, and no authority needs it
abbrev pub is_unneeded : Plan → Certificate → Name → Operation → Bool
is_unneeded plan c grant operation =
    not (list_any (program_does c grant operation) plan.programs)
    && not (list_any (authority_needs plan.wide grant operation (without grant operation ∷ [])) c.authorities)

-- those of some operations that are so
abbrev pub unneeded : Plan → Certificate → Name → List Operation → List Operation
unneeded plan c grant operations = filter (is_unneeded plan c grant) operations
