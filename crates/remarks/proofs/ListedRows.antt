-- Rows of what is remarked on a program, each with one on which it isn't.
use Rattle.std.proofs.Common.{◌≡◌, ◌+◌, true, false, List, [], ◌∷◌, refl}
use Rattle.std.specs.Prelude.{codes, Option, Some, None}
use Rattle.rights.specs.Sets.{read_right, write_right}
use Rattle.rights.specs.Values.{RightSet}
use Rattle.certificate.specs.Bounds.{Bound, ModeBound, Off, On, Held, In_grant, Slot, Open, Closed}
use Rattle.instruction_set.specs.Programs.{Instruction, Jmp, Halt, Invoke, Cap_enter, Read, Number}
use Rattle.rules.specs.Slots.{slots_in}
use Rattle.task.specs.Plans.{Start}
use Rattle.remarks.specs.Listed.{Never_enters, Untrusted, Rights_left, Never_open, limits, never_enters, never_open_at, on_whole, unreached}
use Rattle.remarks.specs.Ways.{rounds}

abbrev held : RightSet → Held
held rights = record { target = In_grant (codes "work"); least = rights; greatest = rights; least_fcntls = 0; greatest_fcntls = 0 }

abbrev bound : ModeBound → Slot → Option Bound
bound mode first = Some (record { mode = mode; registers = []; slots = first ∷ [] })

abbrev both : Slot
both = Open (held (read_right + write_right))

-- ## No process enters the mode
abbrev starts : List Start
starts = record { program = 0; mode = false; descriptors = [] } ∷ []

abbrev read_alone : List Instruction
read_alone = Invoke (Read (Number 0)) 1 ∷ Halt ∷ []

abbrev enters : List Instruction
enters = Invoke Cap_enter 2 ∷ Invoke (Read (Number 0)) 2 ∷ Halt ∷ []

stays_outside : on_whole starts 0 read_alone (bound Off both ∷ bound Off both ∷ []) true false
    ≡ record { remark = Never_enters; points = 0 ∷ 1 ∷ [] } ∷ []
unfolding on_whole
stays_outside = refl

goes_in : on_whole starts 0 enters (bound Off both ∷ bound On both ∷ bound On both ∷ []) true false ≡ []
unfolding on_whole
goes_in = refl

-- another program's process says nothing of it; a marked program may enter it behind what the bounds tell
no_other : never_enters starts 1 read_alone (bound Off both ∷ bound Off both ∷ []) false ≡ false
no_other = refl

is_marked : on_whole starts 0 enters (bound Off both ∷ None ∷ None ∷ []) true true ≡ record { remark = Untrusted; points = 0 ∷ 1 ∷ 2 ∷ [] } ∷ []
unfolding on_whole
is_marked = refl

-- ## Nothing arrives
abbrev jumps : List Instruction
jumps = Jmp 2 ∷ Jmp 0 ∷ Halt ∷ []

jumped_over : unreached jumps [] false ≡ 1 ∷ []
unfolding rounds
jumped_over = refl

by_bounds : unreached jumps (bound Off both ∷ bound Off both ∷ None ∷ []) true ≡ 2 ∷ []
by_bounds = refl

-- ## To what a number could be limited
-- In the mode it has READ and WRITE, and is read alone: told where it is newly so.
abbrev in_mode : List (Option Bound)
in_mode = bound Off both ∷ bound On both ∷ bound On both ∷ []

could_be_limited : limits enters in_mode 0 [] ≡ record { remark = Rights_left 0 read_right; points = 1 ∷ [] } ∷ []
unfolding limits rounds slots_in
could_be_limited = refl

-- what is limited already, and what no instruction names, isn't told
is_limited : limits enters (bound Off both ∷ bound On (Open (held read_right)) ∷ bound On (Open (held read_right)) ∷ []) 0 [] ≡ []
unfolding limits rounds slots_in
is_limited = refl

is_unnamed : limits enters in_mode 0 (1 ∷ []) ≡ []
unfolding limits rounds slots_in
is_unnamed = refl

-- ## What is never open
is_closed : never_open_at read_alone (bound Off Closed ∷ bound Off Closed ∷ []) 0 ≡ record { remark = Never_open 0; points = 0 ∷ [] } ∷ []
unfolding never_open_at
is_closed = refl

is_open : never_open_at read_alone (bound Off both ∷ bound Off both ∷ []) 0 ≡ []
unfolding never_open_at
is_open = refl
