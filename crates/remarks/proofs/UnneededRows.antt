-- Rows of which operations of a grant nothing needs.
use Rattle.std.proofs.Common.{◌≡◌, true, false, [], ◌∷◌, refl}
use Rattle.std.specs.Prelude.{codes}
use Rattle.certificate.specs.Bounds.{Authority, Certificate, Three}
use Rattle.remarks.specs.Unneeded.{authority_needs, unneeded, without}
use Rattle.rights.specs.Operations.{Look, Read, Write}
use Rattle.rights.specs.Sets.{lookup_right, read_right}
use Rattle.rights.specs.Values.{RightSet}
use Rattle.task.specs.Plans.{Plan, plan_with, unmarked}
use Rattle.task.specs.Policies.{grant_named}

abbrev authority : RightSet → Authority
authority rights = record { program = codes "main"; ceilings = record { grant = codes "work"; rights = rights } ∷ []; holds = [] }

-- A right to read needs reading, and neither looking nor writing; to look names up is to look.
reading : authority_needs false (codes "work") Read (without (codes "work") Read ∷ []) (authority read_right) ≡ true
unfolding grant_named
reading = refl

looking : authority_needs false (codes "work") Look (without (codes "work") Look ∷ []) (authority read_right) ≡ false
unfolding grant_named
looking = refl

looking_up : authority_needs false (codes "work") Look (without (codes "work") Look ∷ []) (authority lookup_right) ≡ true
unfolding grant_named
looking_up = refl

-- a ceiling on another grant needs nothing of this one
elsewhere : authority_needs false (codes "home") Read (without (codes "home") Read ∷ []) (authority read_right) ≡ false
unfolding grant_named
elsewhere = refl

-- Of a program that makes no call, whose authority may read: what is listed beside reading isn't needed.
abbrev main : Plan
main = plan_with [] [] (unmarked (codes "main") [] ∷ []) []

abbrev may_read : Certificate
may_read = record { version = Three; points = []; channels = []; authorities = authority read_right ∷ [] }

all_but_reading : unneeded main may_read (codes "work") (Look ∷ Read ∷ Write ∷ []) ≡ Look ∷ Write ∷ []
unfolding grant_named
all_but_reading = refl
