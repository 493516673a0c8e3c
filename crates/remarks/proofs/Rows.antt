-- Rows of from where points come, of what is remarked and of what is warned, each with one of which it doesn't hold.
use Rattle.std.proofs.Common.{◌≡◌, ℕ, true, false, List, [], ◌∷◌, refl}
use Rattle.std.specs.Prelude.{codes, Option, Some, None}
use Rattle.rights.specs.Classes.{Initial}
use Rattle.rights.specs.Operations.{Operation, Look, Read as Read_bytes}
use Rattle.rights.specs.Sets.{all_commands, all_rights, read_right}
use Rattle.rights.specs.Values.{CommandSet, RightSet}
use Rattle.file_tree.specs.Nodes.{Kind, File, Dir}
use Rattle.certificate.specs.Bounds.{Bound, ModeBound, Off, On, Either, Held, Target, In_grant, Any_node, Socket, Slot, Open, Closed}
use Rattle.instruction_set.specs.Programs.{Instruction, Jmp, Jeq, Halt, Invoke, Cap_enter, Read, Close, Number}
use Rattle.remarks.specs.Marked.{skipping_marked, unsettled_marked}
use Rattle.remarks.specs.Remarks.{doubled, idle, skipping, strays, unsettled}
use Rattle.remarks.specs.TaskRemarks.{lone_sides}
use Rattle.remarks.specs.Warnings.{calls_ahead, goes_on_closing, has_more, starts_listable, takes_directory_at}
use Rattle.lookup.specs.Paths.{is_absolute}
use Rattle.remarks.specs.Ways.{from_which, rounds}
use Rattle.task.specs.Policies.{grant_named}
use Rattle.task.specs.Plans.{FirstDescriptor, On_end, On_node, Plan, Start, plan_with, unmarked}

-- ## From where points come
-- the last point comes from the first through the third, and not from the second, which ends
comes_from : from_which (Jmp 2 ∷ Halt ∷ Jmp 3 ∷ Halt ∷ []) (false ∷ false ∷ false ∷ true ∷ []) ≡ true ∷ false ∷ true ∷ true ∷ []
unfolding rounds
comes_from = refl

-- ## Bounds with two slots
abbrev held : Target → RightSet → CommandSet → Held
held target rights commands = record { target = target; least = rights; greatest = rights; least_fcntls = commands; greatest_fcntls = commands }

abbrev bound : ModeBound → Slot → Slot → Option Bound
bound mode first second = Some (record { mode = mode; registers = []; slots = first ∷ second ∷ [] })

abbrev file : Slot
file = Open (held (In_grant (codes "work")) read_right 0)

abbrev stranger : Slot
stranger = Open (held Any_node read_right 0)

-- In the mode the second number lies in no grant; where the point only ends, or outside the mode, nothing is remarked.
abbrev read_then_halt : List Instruction
read_then_halt = Invoke (Read (Number 0)) 1 ∷ Halt ∷ []

a_stray : strays read_then_halt (bound On file stranger ∷ bound On file stranger ∷ []) 1 ≡ 0 ∷ []
a_stray = refl

no_stray : strays read_then_halt (bound On file stranger ∷ bound On file stranger ∷ []) 0 ≡ []
no_stray = refl

outside_no_stray : strays read_then_halt (bound Off file stranger ∷ bound Off file stranger ∷ []) 1 ≡ []
outside_no_stray = refl

-- A choice skips the entering at point 1, so that point 2 is in the mode or outside it.
abbrev may_skip : List Instruction
may_skip = Jeq 0 7 2 ∷ Invoke Cap_enter 3 ∷ Invoke (Read (Number 0)) 3 ∷ Halt ∷ []

abbrev skipped : List (Option Bound)
skipped = bound Off file Closed ∷ bound Off file Closed ∷ bound Either file Closed ∷ bound Either file Closed ∷ []

is_unsettled : unsettled may_skip skipped ≡ 2 ∷ []
is_unsettled = refl

is_skipped : skipping may_skip skipped ≡ 0 ∷ []
is_skipped = refl

all_enter : unsettled may_skip (bound Off file Closed ∷ bound Off file Closed ∷ bound On file Closed ∷ bound On file Closed ∷ []) ≡ []
all_enter = refl

-- The same of a marked program, whose bounds are outside the mode alone: point 2 has one, since a choice skips the entering.
abbrev outside : Option Bound
outside = bound Off file Closed

is_unsettled_marked : unsettled_marked may_skip (outside ∷ outside ∷ outside ∷ outside ∷ []) ≡ 2 ∷ []
unfolding rounds
is_unsettled_marked = refl

is_skipped_marked : skipping_marked may_skip (outside ∷ outside ∷ outside ∷ outside ∷ []) ≡ 0 ∷ []
unfolding rounds
is_skipped_marked = refl

-- Where all enter, no point behind has a bound; and one that only ends doesn't count.
all_enter_marked : unsettled_marked (Invoke Cap_enter 1 ∷ Invoke (Read (Number 0)) 2 ∷ Halt ∷ []) (outside ∷ None ∷ None ∷ []) ≡ []
unfolding rounds
all_enter_marked = refl

ends_marked : unsettled_marked (Jeq 0 7 3 ∷ Invoke Cap_enter 3 ∷ Invoke (Read (Number 0)) 3 ∷ Halt ∷ []) (outside ∷ outside ∷ None ∷ outside ∷ []) ≡ []
unfolding rounds
ends_marked = refl

-- A way that doesn't come back to where others are in the mode skips nothing.
parts_marked : unsettled_marked (Jeq 0 7 3 ∷ Invoke Cap_enter 2 ∷ Halt ∷ Invoke (Read (Number 0)) 4 ∷ Halt ∷ []) (outside ∷ outside ∷ None ∷ outside ∷ outside ∷ []) ≡ []
unfolding rounds
parts_marked = refl

-- The mode is entered with both numbers, and the first alone is read from there on.
abbrev enter_then_read : List Instruction
enter_then_read = Invoke Cap_enter 2 ∷ Invoke (Read (Number 0)) 2 ∷ Halt ∷ []

abbrev both_open : List (Option Bound)
both_open = bound Off file file ∷ bound On file file ∷ bound On file file ∷ []

second_is_idle : idle enter_then_read both_open 1 ≡ 1 ∷ []
unfolding rounds
second_is_idle = refl

first_is_not : idle enter_then_read both_open 0 ≡ []
unfolding rounds
first_is_not = refl

-- Both ends of a pair are kept, or one is closed.
abbrev side : ℕ → Slot
side s = Open (held (Socket (Initial 0) s) read_right 0)

kept : doubled read_then_halt (bound On (side 0) (side 1) ∷ bound On (side 0) (side 1) ∷ []) 0 1 ≡ 0 ∷ []
unfolding rounds
kept = refl

one_closed : doubled (Invoke (Close (Number 1)) 1 ∷ Halt ∷ []) (bound On (side 0) (side 1) ∷ bound On (side 0) Closed ∷ []) 0 1 ≡ []
unfolding rounds
one_closed = refl

one_side_twice : doubled read_then_halt (bound On (side 0) (side 0) ∷ bound On (side 0) (side 0) ∷ []) 0 1 ≡ []
unfolding rounds
one_side_twice = refl

-- ## First processes
abbrev starts_with_side : ℕ → ℕ → Start
starts_with_side pair s = record {
  program = 0;
  mode = true;
  descriptors = record { number = 0; object = On_end pair s; rights = all_rights; fcntls = all_commands } ∷ [];
}

is_alone : lone_sides (starts_with_side 3 0 ∷ []) 0 ≡ 3 ∷ []
is_alone = refl

has_company : lone_sides (starts_with_side 3 0 ∷ starts_with_side 3 1 ∷ []) 0 ≡ []
has_company = refl

-- ## What FreeBSD does otherwise
absolute : is_absolute (codes "/etc") ≡ true
absolute = refl

relative : is_absolute (codes "etc/") ≡ false
relative = refl

-- The error of closing leads to a call, or to a halt alone.
close_goes_on : goes_on_closing (calls_ahead (Invoke (Close (Number 0)) 1 ∷ Invoke (Read (Number 0)) 2 ∷ Halt ∷ [])) (Invoke (Close (Number 0)) 1) ≡ true
unfolding rounds
close_goes_on = refl

close_ends : goes_on_closing (calls_ahead (Invoke (Close (Number 0)) 2 ∷ Invoke (Read (Number 0)) 2 ∷ Halt ∷ [])) (Invoke (Close (Number 0)) 2) ≡ false
unfolding rounds
close_ends = refl

all_is_more : has_more (held Any_node all_rights 0) ≡ true
all_is_more = refl

some_is_not : has_more (held Any_node read_right all_commands) ≡ false
some_is_not = refl

-- A process starts with a node of a grant with some operations, at the number 0.
abbrev of_node : RightSet → FirstDescriptor
of_node rights = record { number = 0; object = On_node 0 (record { readable = true; writable = false }); rights = rights; fcntls = all_commands }

abbrev starts_with_node : Kind → List Operation → Plan
starts_with_node kind operations =
    plan_with (record { kind = kind; place = codes "work" ∷ []; linked = true; content = [] } ∷ [])
    (record { name = codes "work"; path = codes "work" ∷ []; operations = operations } ∷ []) (unmarked (codes "main") [] ∷ []) (
    record {
      program = 0;
      mode = false;
      descriptors = of_node all_rights ∷ [];
    } ∷ []
    )

abbrev enter_then_close : List Instruction
enter_then_close = Invoke Cap_enter 2 ∷ Invoke (Close (Number 0)) 2 ∷ Halt ∷ []

directory_is_taken : takes_directory_at (starts_with_node Dir (Read_bytes ∷ [])) (codes "main") enter_then_read both_open 0 0 ≡ true
unfolding grant_named
directory_is_taken = refl

file_is_not : takes_directory_at (starts_with_node File (Read_bytes ∷ [])) (codes "main") enter_then_read both_open 0 0 ≡ false
unfolding grant_named
file_is_not = refl

looking_is_listed : takes_directory_at (starts_with_node Dir (Look ∷ Read_bytes ∷ [])) (codes "main") enter_then_read both_open 0 0 ≡ false
unfolding grant_named
looking_is_listed = refl

directory_is_closed : takes_directory_at (starts_with_node Dir (Read_bytes ∷ [])) (codes "main") enter_then_close both_open 0 0 ≡ false
unfolding grant_named
directory_is_closed = refl

mode_is_not_entered : takes_directory_at (starts_with_node Dir (Read_bytes ∷ [])) (codes "main") enter_then_read both_open 0 1 ≡ false
mode_is_not_entered = refl

directory_starts : starts_listable (starts_with_node Dir (Read_bytes ∷ [])) (of_node read_right) ≡ true
directory_starts = refl

file_starts : starts_listable (starts_with_node File (Read_bytes ∷ [])) (of_node read_right) ≡ false
file_starts = refl

looking_is_listed_at_start : starts_listable (starts_with_node Dir (Look ∷ Read_bytes ∷ [])) (of_node read_right) ≡ false
looking_is_listed_at_start = refl

nothing_is_listed_without_rights : starts_listable (starts_with_node Dir (Read_bytes ∷ [])) (of_node 0) ≡ false
nothing_is_listed_without_rights = refl
