-- What is within a program's authority, in a world.
use Rattle.std.specs.Prelude.{◌≡◌, ℕ, Bool, true, List, [], ◌∷◌, Some}
use Rattle.std.specs.List.{slice_get}
use Rattle.certificate.specs.Bounds.{Authority, Certificate}
use Rattle.certificate.specs.Describes.{Subject, Node_at, End_of, Own_end}
use Rattle.rights.specs.Sets.{is_within}
use Rattle.rights.specs.Values.{Name, Place, RightSet}
use Rattle.fd_table.specs.Descriptions.{Descriptor, IfHeld}
use Rattle.process.specs.State.{ProcessState}
use Rattle.kernel.specs.World.{World, Choice, IsFresh}
use Rattle.kernel.specs.Answers.{Event, IsEvent}
use Rattle.kernel.specs.Hostile.{Act, IsAct, step_as}
use Rattle.task.specs.Plans.{Grant, Plan, program_name, programs_of_plan}
use Rattle.task.specs.Policies.{grant_holds}
use Rattle.rules.specs.Authority.{authority_at, lists_end, most_in}
use Rattle.rules.specs.Seen.{subject_of}

abbrev pub own_authority : Plan → Certificate → ℕ → Authority
own_authority plan certificate program = authority_at certificate (program_name plan program)

-- A place in a grant up to whose ceiling a descriptor has these rights.
pub record IsBelowCeiling (wide : Bool) (grants : List Grant) (a : Authority) (place : Place) (rights : RightSet) : Type 0 where
  pub name : Name
  pub holds : grant_holds grants name place ≡ true
  pub below : is_within rights (most_in wide a name) ≡ true

-- A node below a ceiling, a listed end, or an end of a pair that the program has made in the mode.
abbrev pub MayHave : Bool → List Grant → Authority → Name → Subject → RightSet → Type 0
MayHave wide grants a own (Node_at place) rights = IsBelowCeiling wide grants a place rights
MayHave wide grants a own (End_of class side) rights = lists_end a.holds class side ≡ true
MayHave wide grants a own (Own_end program side) rights = program ≡ own

-- what a process of this program may have
abbrev pub IsWithinAuthority : Plan → Certificate → World → ℕ → Descriptor → Type 0
IsWithinAuthority plan certificate w program d =
    MayHave plan.wide plan.grants (own_authority plan certificate program) (program_name plan program) (subject_of plan w.tree (w.files.objects d.description)) d.rights

-- so each entry of a table
abbrev pub IsTableWithin : Plan → Certificate → World → ℕ → ℕ → Type 0
IsTableWithin plan certificate w p program = (n : ℕ) → IfHeld (IsWithinAuthority plan certificate w program) (w.files.table p n)

-- A living process of a marked program that is in the mode holds what is within the program's authority.
abbrev pub HoldsWithin : Plan → Certificate → World → Type 0
HoldsWithin plan certificate w =
    (p : ℕ) (s : ProcessState)
    → slice_get w.processes p ≡ Some s
    → s.alive ≡ true
    → s.marked ≡ true
    → s.mode ≡ true
    → IsTableWithin plan certificate w p s.program

-- so in each world of every run of these events, whatever is done at them
abbrev pub StayWithin : Plan → Certificate → World → List (Event × Act) → Type 0
StayWithin plan certificate w [] = HoldsWithin plan certificate w
StayWithin plan certificate w ((e, act) ∷ events) =
    HoldsWithin plan certificate w
    × ((choice : Choice)
    → IsFresh w.files choice
    → IsEvent e
    → IsAct (programs_of_plan plan) w e.process act
    → StayWithin plan certificate (step_as (programs_of_plan plan) w e act choice).world events)
