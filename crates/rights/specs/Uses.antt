-- The call that needs a further right: what else it needs, and what it does. (rights(4); the operations are own)
use Rattle.std.specs.Prelude.{◌==◌, ◌+◌, ◌-◌, ◌&&◌, not, Bool, List, [], ◌∷◌, Option, Some, None, bit_and, if◌then◌else◌}
use Rattle.rights.specs.Values.{RightSet}
use Rattle.rights.specs.Sets.{further_right, further_rights, is_within, lookup_right, plain_rights, read_right, seek_right, write_right}
use Rattle.rights.specs.Operations.{Operation, operations_of_rights}

-- what stands beside a right in a table
abbrev pub beside_in : {A : Type 0} → List (RightSet × A) → RightSet → Option A
beside_in [] right = None
beside_in (row ∷ rows) right = if row.0 == right then Some row.1 else beside_in rows right

-- What else the call needs of the same descriptor: with CONNECTAT, FCHMODAT, FCHOWNAT, FEXECVE, FUTIMESAT, MMAP_R, MMAP_W, MMAP_X.
abbrev pub companions : List (RightSet × RightSet)
companions =
    (further_right 3, lookup_right) ∷ (further_right 8, lookup_right) ∷ (further_right 10, lookup_right)
    ∷ (further_right 11, read_right) ∷ (further_right 16, lookup_right) ∷ (further_right 24, read_right + seek_right)
    ∷ (further_right 25, write_right + seek_right) ∷ (further_right 26, seek_right) ∷ []

abbrev pub or_no_right : Option RightSet → RightSet
or_no_right None = 0
or_no_right (Some rights) = rights

abbrev pub companions_of : RightSet → RightSet
companions_of right = or_no_right (beside_in companions right)

-- Where it needs LOOKUP it acts beneath the descriptor's directory.
abbrev pub acts_beneath : RightSet → Bool
acts_beneath right = is_within lookup_right (companions_of right)

-- what it does at the descriptor's place, or beneath it
abbrev pub operation_of_use : RightSet → Option Operation
operation_of_use right = beside_in operations_of_rights right

-- BIND, CONNECT and FCHDIR reach a global name space.
abbrev pub global_rights : RightSet
global_rights = further_right 1 + further_right 2 + further_right 5

abbrev pub reaches_globally : RightSet → Bool
reaches_globally right = not (bit_and right global_rights == 0)

-- the set without the further rights, where all of these are in it: of a task that asks for none each set has all of them or none (own)
abbrev pub noted_rights : RightSet → RightSet
noted_rights set = if is_within further_rights set then bit_and set plain_rights else set

-- those of a set that a task asks about: all where it asks for further rights, and else those that every task may name
abbrev pub asked_rights : Bool → RightSet → RightSet
asked_rights wide set = if wide then set else bit_and set plain_rights

-- the set is of one further right alone
abbrev pub is_further_right : RightSet → Bool
is_further_right set = is_within set further_rights && not (set == 0) && (bit_and set (set - 1) == 0)
