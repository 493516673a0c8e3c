-- Rows of what a number may have in the mode beyond the policy, each beside one that has nothing beyond it.
use Rattle.std.proofs.Common.{◌≡◌, ◌+◌, List, [], ◌∷◌, refl}
use Rattle.std.specs.Prelude.{true, false, codes, Option, Some}
use Rattle.rights.specs.Classes.{Initial}
use Rattle.rights.specs.Operations.{Look, Read as Read_bytes}
use Rattle.rights.specs.Sets.{all_rights, further_right, read_right, write_right}
use Rattle.rights.specs.Values.{RightSet}
use Rattle.certificate.specs.Bounds.{Bound, ModeBound, Off, On, Held, Target, In_grant, Any_node, Socket, Open, Closed}
use Rattle.instruction_set.specs.Programs.{Instruction, Halt, Invoke, Read, Number}
use Rattle.remarks.specs.Beyond.{beyond_at_all, points_beyond, rights_beyond}
use Rattle.task.specs.Policies.{grant_named}
use Rattle.task.specs.Plans.{Grant}

-- one grant, which lists read and look
abbrev reading : List Grant
reading = record { name = codes "work"; path = codes "srv" ∷ []; operations = Read_bytes ∷ Look ∷ [] } ∷ []

abbrev held : Target → RightSet → Held
held target rights = record { target = target; least = 0; greatest = rights; least_fcntls = 0; greatest_fcntls = 0 }

-- of READ, WRITE and SEEK the second is for writing, which isn't listed; READ and SEEK are for nothing else
writing_is_beyond : rights_beyond false reading (held (In_grant (codes "work")) 7) ≡ write_right
unfolding grant_named
writing_is_beyond = refl

reading_is_not : rights_beyond false reading (held (In_grant (codes "work")) 5) ≡ 0
unfolding grant_named
reading_is_not = refl

-- a grant that isn't there lists nothing
of_no_grant : rights_beyond false reading (held (In_grant (codes "home")) read_right) ≡ read_right
unfolding grant_named
of_no_grant = refl

-- a further right that is for writing is beyond it too, where the task asks for further rights
further_is_beyond : rights_beyond true reading (held (In_grant (codes "work")) (read_right + further_right 7)) ≡ further_right 7
unfolding grant_named
further_is_beyond = refl

further_is_not_asked : rights_beyond false reading (held (In_grant (codes "work")) (read_right + further_right 7)) ≡ 0
unfolding grant_named
further_is_not_asked = refl

-- of what lies in no grant, or is no node, nothing is
any_node_is_not : rights_beyond false reading (held Any_node all_rights) ≡ 0
any_node_is_not = refl

end_is_not : rights_beyond false reading (held (Socket (Initial 0) 0) all_rights) ≡ 0
end_is_not = refl

-- ## By points
abbrev bound : ModeBound → RightSet → Option Bound
bound mode rights = Some (record { mode = mode; registers = []; slots = Open (held (In_grant (codes "work")) rights) ∷ Closed ∷ [] })

abbrev reads_twice : List Instruction
reads_twice = Invoke (Read (Number 0)) 1 ∷ Invoke (Read (Number 0)) 2 ∷ Halt ∷ []

-- in the mode at the second point; at the last one, which only ends, nothing counts
abbrev enters : List (Option Bound)
enters = bound Off 7 ∷ bound On 7 ∷ bound On 7 ∷ []

beyond_inside : points_beyond false reading reads_twice enters 0 ≡ 1 ∷ []
unfolding grant_named
beyond_inside = refl

none_of_the_other : points_beyond false reading reads_twice enters 1 ≡ []
none_of_the_other = refl

none_of_reading : points_beyond false reading reads_twice (bound Off 5 ∷ bound On 5 ∷ bound On 5 ∷ []) 0 ≡ []
unfolding grant_named
none_of_reading = refl

all_of_it : beyond_at_all false reading reads_twice enters 0 (1 ∷ []) ≡ write_right
unfolding grant_named
all_of_it = refl

nothing_outside : beyond_at_all false reading reads_twice enters 0 (0 ∷ 2 ∷ []) ≡ 0
nothing_outside = refl
