-- A task of one or two programs over a small tree with two grants, and certificates of it.
use Rattle.std.specs.Prelude.{◌+◌, ℕ, true, false, List, [], ◌∷◌, ◌++◌, codes, Some}
use Rattle.rights.specs.Sets.{all_rights, all_commands}
use Rattle.rights.specs.Classes.{Initial}
use Rattle.rights.specs.Opens.{OpenRequest, open_request}
use Rattle.rights.specs.Operations.{Operation, Look, Read as Reads, Write as Writes, Create as Creates, Remove as Removes}
use Rattle.instruction_set.specs.Programs.{Instruction, Halt, Invoke, Jmp, Jeq, Number, Cap_enter, Open, Openat, Read, Renameat, Sendfd, Recvfd, Fork, Cap_rights_limit}
use Rattle.certificate.specs.Bounds.{ModeBound, Off, On, In_grant, Any_node, Socket, Held, Slot, Maybe, Bound, with_interval, PointBound, ChannelBound, One, Certificate}
use Rattle.certificate.specs.Bounds as bounds
use Rattle.kernel.proofs.Samples.{base}
use Rattle.task.specs.Plans.{Grant, NamedProgram, FirstObject, On_node, On_end, FirstDescriptor, Start, Plan, unmarked}
use Rattle.rules.specs.Outcomes.{all_held, with_rights, from_to}
use Rattle.rules.specs.Probes.{bound_of_slots, block, channel}

-- ## The task
abbrev pub work_with : List Operation → Grant
work_with operations = record { name = codes "work"; path = codes "work" ∷ []; operations = operations }

abbrev pub work : Grant
work = work_with (Look ∷ Reads ∷ [])

abbrev pub log : Grant
log = record { name = codes "log"; path = codes "log" ∷ []; operations = Creates ∷ Writes ∷ Removes ∷ [] }

abbrev pub given : ℕ → FirstObject → FirstDescriptor
given number object = record { number = number; object = object; rights = all_rights; fcntls = all_commands }

abbrev pub to_read : ℕ → FirstObject
to_read n = On_node n (record { readable = true; writable = false })

-- `/work` at 0 and `/log` at 1, and what more there is
abbrev pub main_start : List FirstDescriptor → Start
main_start more = record { program = 0; mode = false; descriptors = given 0 (to_read 1) ∷ given 1 (to_read 9) ∷ more }

abbrev pub main_program : List Instruction → NamedProgram
main_program code = unmarked (codes "main") code

abbrev pub task_of : Grant → List FirstDescriptor → List Instruction → Plan
task_of grant more code = record {
  nodes = base;
  grants = grant ∷ log ∷ [];
  programs = main_program code ∷ [];
  starts = main_start more ∷ [];
  wide = false;
}

abbrev pub alone : List Instruction → Plan
alone code = task_of work [] code

-- Side a of pair 0 is descriptor 2 of `main`; `child` has side b as descriptor 0, and is in the mode.
abbrev pub joined : List Instruction → List Instruction → Plan
joined main child = record {
  nodes = base;
  grants = work ∷ log ∷ [];
  programs = main_program main ∷ unmarked (codes "child") child ∷ [];
  starts =
      main_start (given 2 (On_end 0 0) ∷ [])
      ∷ record { program = 1; mode = true; descriptors = given 0 (On_end 0 1) ∷ [] }
      ∷ [];
  wide = false;
}

-- ## The programs
abbrev pub reading : OpenRequest
reading = open_request true false false false false

abbrev pub writing : OpenRequest
writing = open_request false true false false false

abbrev pub enters : List Instruction
enters = Invoke Cap_enter 1 ∷ Halt ∷ []

abbrev pub opens_in_the_mode : List Instruction
opens_in_the_mode = Invoke Cap_enter 2 ∷ Invoke (Open (codes "/etc/passwd") reading) 2 ∷ Halt ∷ []

abbrev pub reads_to_the_end : List Instruction
reads_to_the_end =
    Invoke Cap_enter 5 ∷ Invoke (Openat (Number 0) (codes "same") reading) 5 ∷ Invoke (Read (Number 2)) 5
    ∷ Invoke (Read (Number 2)) 5 ∷ Invoke (Read (Number 2)) 5 ∷ Halt ∷ []

-- `LOOKUP,READ`, and with `WRITE`
abbrev pub few_rights : ℕ
few_rights = 0x0081

abbrev pub more_rights : ℕ
more_rights = 0x0083

abbrev pub limits_and_opens : List Instruction
limits_and_opens =
    Invoke (Cap_rights_limit (Number 0) few_rights) 2 ∷ Invoke (Openat (Number 0) (codes "in") writing) 2 ∷ Halt ∷ []

abbrev pub limits_twice : List Instruction
limits_twice =
    Invoke (Cap_rights_limit (Number 0) few_rights) 2 ∷ Invoke (Cap_rights_limit (Number 0) more_rights) 2 ∷ Halt ∷ []

abbrev pub renames_between_grants : List Instruction
renames_between_grants =
    Invoke Cap_enter 2 ∷ Invoke (Renameat (Number 0) (codes "in") (Number 1) (codes "in")) 2 ∷ Halt ∷ []

abbrev pub reads_in_the_mode : List Instruction
reads_in_the_mode = Invoke Cap_enter 2 ∷ Invoke (Read (Number 2)) 2 ∷ Halt ∷ []

abbrev pub child_enters : List Instruction
child_enters = Invoke Fork 4 ∷ Jeq 0 0 3 ∷ Jmp 4 ∷ Invoke Cap_enter 4 ∷ Halt ∷ []

abbrev pub sends_a_file : List Instruction
sends_a_file =
    Invoke (Open (codes "/etc/passwd") reading) 2 ∷ Invoke (Sendfd (Number 2) (Number 3) (Number 0)) 2 ∷ Halt ∷ []

abbrev pub reads_what_comes : List Instruction
reads_what_comes = Invoke (Recvfd (Number 0)) 2 ∷ Invoke (Read (Number 1)) 2 ∷ Halt ∷ []

abbrev pub sends_its_directory : List Instruction
sends_its_directory =
    Invoke (Cap_rights_limit (Number 0) few_rights) 2 ∷ Invoke (Sendfd (Number 2) (Number 0) (Number 0)) 2 ∷ Halt ∷ []

abbrev pub reads_beneath_what_comes : List Instruction
reads_beneath_what_comes =
    Invoke (Recvfd (Number 0)) 3 ∷ Invoke (Openat (Number 1) (codes "in") reading) 3 ∷ Invoke (Read (Number 2)) 3 ∷ Halt ∷ []

-- ## The certificates
abbrev pub in_work : Held
in_work = all_held (In_grant (codes "work"))

abbrev pub in_log : Held
in_log = all_held (In_grant (codes "log"))

abbrev pub any_node : Held
any_node = all_held Any_node

abbrev pub end : ℕ → Slot
end side = bounds.Open (all_held (Socket (Initial 0) side))

abbrev pub is_open : Held → Slot
is_open h = bounds.Open h

-- the points of a program from this one on
abbrev pub blocks_from : List ℕ → ℕ → List Bound → List PointBound
blocks_from name n [] = []
blocks_from name n (b ∷ bounds) = block name n b ∷ blocks_from name (n + 1) bounds

abbrev pub main_blocks : List Bound → List PointBound
main_blocks bounds = blocks_from (codes "main") 0 bounds

abbrev pub certificate_of : List PointBound → List ChannelBound → Certificate
certificate_of points channels = record { version = One; points = points; channels = channels; authorities = [] }

-- at a point of `main`: the directories of both grants, and what more there is
abbrev pub at_main : ModeBound → List Slot → Bound
at_main mode more = bound_of_slots mode (is_open in_work ∷ is_open in_log ∷ more)

-- into the mode at once; with what more there is at each point
abbrev pub entering_with : List Slot → Certificate
entering_with more = certificate_of (main_blocks (at_main Off more ∷ at_main On more ∷ at_main On more ∷ [])) []

abbrev pub entering : Certificate
entering = entering_with []

abbrev pub no_points : Certificate
no_points = certificate_of [] []

-- one file more from point 2 on, and maybe at the end, where the mode is this
abbrev pub opened_file : ModeBound → Certificate
opened_file at_end =
    certificate_of
    (main_blocks
    (at_main Off [] ∷ at_main On [] ∷ at_main On (is_open in_work ∷ []) ∷ at_main On (is_open in_work ∷ [])
    ∷ at_main On (is_open in_work ∷ []) ∷ at_main at_end (Maybe in_work ∷ []) ∷ []))
    []

-- few rights of the first directory from point 1 on
abbrev pub few : Held
few = with_rights in_work few_rights

abbrev pub few_or_all : Held
few_or_all = record in_work { least = few_rights }

abbrev pub limited : Certificate
limited =
    certificate_of
    (main_blocks
    (at_main Off [] ∷ bound_of_slots Off (is_open few ∷ is_open in_log ∷ [])
    ∷ bound_of_slots Off (is_open few_or_all ∷ is_open in_log ∷ Maybe few ∷ []) ∷ []))
    []

-- A file that `main` opens goes to `child`, which takes what comes for this.
abbrev pub passing : Held → Certificate
passing held =
    certificate_of
    (blocks_from (codes "child") 0
    (bound_of_slots On (end 1 ∷ []) ∷ bound_of_slots On (end 1 ∷ is_open held ∷ []) ∷ bound_of_slots On (end 1 ∷ Maybe held ∷ []) ∷ [])
    ++ main_blocks
    (at_main Off (end 0 ∷ []) ∷ at_main Off (end 0 ∷ is_open any_node ∷ []) ∷ at_main Off (end 0 ∷ Maybe any_node ∷ []) ∷ []))
    (channel 0 (Some held) ∷ [])

-- The directory with few rights goes to `child`, over these channels.
abbrev pub handing : List ChannelBound → Certificate
handing channels =
    certificate_of
    (blocks_from (codes "child") 0
    (bound_of_slots On (end 1 ∷ []) ∷ bound_of_slots On (end 1 ∷ is_open few ∷ [])
    ∷ bound_of_slots On (end 1 ∷ is_open few ∷ is_open few ∷ []) ∷ bound_of_slots On (end 1 ∷ Maybe few ∷ Maybe few ∷ []) ∷ [])
    ++ main_blocks
    (at_main Off (end 0 ∷ []) ∷ bound_of_slots Off (is_open few ∷ is_open in_log ∷ end 0 ∷ [])
    ∷ bound_of_slots Off (is_open few_or_all ∷ is_open in_log ∷ end 0 ∷ []) ∷ []))
    channels

-- The parent's answer is taken for the only one at point 1.
abbrev pub parent_alone : Certificate
parent_alone =
    certificate_of
    (block (codes "main") 0 (at_main Off []) ∷ block (codes "main") 1 (with_interval (at_main Off []) 0 (from_to 1 15))
    ∷ block (codes "main") 4 (at_main Off []) ∷ [])
    []
