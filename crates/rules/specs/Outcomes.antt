-- Where an instruction may lead from a point with a bound, and the bound that it has there. (own; after the manual pages of
-- the calls)
use Rattle.std.specs.Prelude.{◌+◌, ◌-◌, ◌++◌, ◌&&◌, not, ℕ, Bool, true, false, List, [], ◌∷◌, Option, Some, None, if◌then◌else◌}
use Rattle.std.specs.List.{flat_map}
use Rattle.std.specs.Str.{bytes_eq}
use Rattle.rights.specs.Values.{Name, PathText, SideNumber, RightSet, CommandSet}
use Rattle.rights.specs.Limits.{most_bytes, most_processes}
use Rattle.rights.specs.Sets.{all_rights, all_commands}
use Rattle.rights.specs.Classes.{Made_at}
use Rattle.rights.specs.Uses.{acts_beneath}
use Rattle.file_tree.specs.Places.{place_text}
use Rattle.rights.specs.Sides.{other_side}
use Rattle.certificate.specs.Bounds.{ModeBound, Off, On, Either, Interval, interval, with_interval, Target, In_grant, Any_node, Socket, Unknown, Held, Closed, with_slot, Bound, Certificate}
use Rattle.certificate.specs.Bounds as bounds
use Rattle.instruction_set.specs.Programs.{Operand, Syscall, Open, Openat, Read, Write, Sendfd, Recvfd, Lseek, Ftruncate, Fsync, Fstat, Fcntl_getfl, Fcntl_setfl, Fstatat, Stat, Mkdirat}
use Rattle.instruction_set.specs.Programs.{Mkdir, Unlinkat, Unlink, Renameat, Dup, Close, Cap_rights_limit}
use Rattle.instruction_set.specs.Programs.{Cap_fcntls_limit, Cap_enter, Cap_getmode, Socketpair, Fork, Use as Call_use, Instruction, Set}
use Rattle.instruction_set.specs.Programs.{Mov, Add, In, Jmp, Jeq, Jlt, Halt, Invoke}
use Rattle.instruction_set.specs.Successors.{enters_mode}
use Rattle.task.specs.Plans.{Grant, Plan, is_marked}
use Rattle.rules.specs.Intervals.{only, sums, equal_part, other_part, lower_part, upper_part}
use Rattle.rules.specs.Slots.{OpenSlot, slots_in, free_numbers}
use Rattle.rules.specs.Uses.{uses}
use Rattle.rules.specs.Channels.{channel_at, all_have_channels}
use Rattle.rules.specs.Demands.{demands, keeps_single}

-- a point, and the bound there
pub record Outcome : Type 0 where
  pub point : ℕ
  pub bound : Bound

abbrev pub outcome_to : ℕ → Bound → List Outcome
outcome_to point b = record { point = point; bound = b } ∷ []

-- with a register in another interval, if there is one
abbrev pub outcomes_in : ℕ → Bound → ℕ → Option Interval → List Outcome
outcomes_in point b r None = []
outcomes_in point b r (Some i) = outcome_to point (with_interval b r i)

-- `jeq` and `jlt` lead to their target, and on, with the part of the register's interval that goes there.
abbrev pub equal_outcomes : ℕ → Bound → ℕ → ℕ → ℕ → List Outcome
equal_outcomes point b r value target =
    outcomes_in target b r (equal_part (interval b.registers r) value)
    ++ outcomes_in (point + 1) b r (other_part (interval b.registers r) value)

abbrev pub less_outcomes : ℕ → Bound → ℕ → ℕ → ℕ → List Outcome
less_outcomes point b r value target =
    outcomes_in target b r (lower_part (interval b.registers r) value)
    ++ outcomes_in (point + 1) b r (upper_part (interval b.registers r) value)

abbrev pub from_to : ℕ → ℕ → Interval
from_to low high = record { low = low; high = high }

-- ## What a new descriptor is bound by
-- It has all rights and commands; or, from a slot of unknown kind, any of them.
abbrev pub all_held : Target → Held
all_held target = record {
  target = target;
  least = all_rights;
  greatest = all_rights;
  least_fcntls = all_commands;
  greatest_fcntls = all_commands;
}

abbrev pub unknown_held : Held
unknown_held = record { target = Unknown; least = 0; greatest = all_rights; least_fcntls = 0; greatest_fcntls = all_commands }

-- What `open` leads to lies in a grant where the path is the grant's, byte for byte; else it is any node.
abbrev pub target_of_path : List Grant → PathText → Target
target_of_path [] path = Any_node
target_of_path (g ∷ grants) path = if bytes_eq (place_text g.path) path then In_grant g.name else target_of_path grants path

-- What is opened beneath a slot is bound like the slot, and is a node; an end of a socket pair has nothing beneath it.
abbrev pub beneath_target : Target → Option Target
beneath_target (In_grant name) = Some (In_grant name)
beneath_target Any_node = Some Any_node
beneath_target (Socket class side) = None
beneath_target Unknown = Some Any_node

-- What a limit leaves: the rights, or the commands, are those that are asked for.
abbrev pub with_rights : Held → RightSet → Held
with_rights h rights = record h { least = rights; greatest = rights }

abbrev pub with_commands : Held → CommandSet → Held
with_commands h commands = record h { least_fcntls = commands; greatest_fcntls = commands }

-- whether a slot may be of an end of a socket pair, and whether it may be of a node
abbrev pub may_be_end : Target → Bool
may_be_end (In_grant name) = false
may_be_end Any_node = false
may_be_end (Socket class side) = true
may_be_end Unknown = true

abbrev pub may_be_node : Target → Bool
may_be_node (In_grant name) = true
may_be_node Any_node = true
may_be_node (Socket class side) = false
may_be_node Unknown = true

-- what `cap_getmode` gives
abbrev pub mode_interval : ModeBound → Interval
mode_interval Off = only 0
mode_interval On = only 1
mode_interval Either = from_to 0 1

abbrev pub is_surely_on : ModeBound → Bool
is_surely_on Off = false
is_surely_on On = true
is_surely_on Either = false

-- Whether the success of a call is formed at all: its slot is a single number where it has to be, the channels that it uses
-- are known, and it isn't surely kept from a global name space by the mode. A call that takes numbers has none either where
-- they aren't determined, or too few are free.
abbrev pub is_formed : Certificate → Bound → Syscall → Bool
is_formed certificate b call =
    keeps_single b call && all_have_channels certificate (uses b call)
    && not (is_surely_on b.mode && (demands call).is_global)

-- the lowest number, or the two lowest, where there are so many
abbrev pub at_lowest : Option (List ℕ) → (ℕ → List Outcome) → List Outcome
at_lowest None rest = []
at_lowest (Some []) rest = []
at_lowest (Some (n ∷ numbers)) rest = rest n

abbrev pub at_pair : Option (List ℕ) → (ℕ → ℕ → List Outcome) → List Outcome
at_pair None rest = []
at_pair (Some []) rest = []
at_pair (Some (n ∷ [])) rest = []
at_pair (Some (n ∷ m ∷ numbers)) rest = rest n m

-- The grants of the policy, the certificate, and the program's name and the point that has this bound.
module _ (grants : List Grant) (certificate : Certificate) (name : List ℕ) (point : ℕ) (b : Bound) where
  -- on to the next point, with register 0 in an interval
  abbrev pub leads_on : Bound → Interval → List Outcome
  leads_on after i = outcome_to (point + 1) (with_interval after 0 i)

  -- through each slot that an operand may name
  abbrev pub through_each : Operand → (OpenSlot → List Outcome) → List Outcome
  through_each x rest = flat_map rest (slots_in b x)

  abbrev pub gives_through : Operand → Interval → List Outcome
  gives_through x i = through_each x (λ (s : OpenSlot). leads_on b i)

  -- through each that may be of a node
  abbrev pub gives_at_node : Operand → List Outcome → List Outcome
  gives_at_node x rest = through_each x (λ (s : OpenSlot). if may_be_node s.held.target then rest else [])

  -- the lowest free number is taken, and given
  abbrev pub takes : Held → List Outcome
  takes h = at_lowest (free_numbers 1 b) (λ n. leads_on (with_slot b n (bounds.Open h)) (only n))

  abbrev pub opens_beneath : Held → Option Target → List Outcome
  opens_beneath h None = []
  opens_beneath h (Some target) = takes (record h { target = target })

  -- what comes from a channel, or from an end of unknown kind
  abbrev pub comes : Option (Option Held) → List Outcome
  comes None = []
  comes (Some None) = []
  comes (Some (Some h)) = takes h

  abbrev pub receives_at : Target → List Outcome
  receives_at (In_grant grant) = []
  receives_at Any_node = []
  receives_at (Socket class side) = comes (channel_at certificate class (other_side side))
  receives_at Unknown = takes unknown_held

  -- both ends of a new pair, of this point's class; register 1 has the second number
  abbrev pub new_end : SideNumber → Held
  new_end side = all_held (Socket (Made_at name point) side)

  abbrev pub with_pair : ℕ → ℕ → Bound
  with_pair first second =
      with_interval (with_slot (with_slot b first (bounds.Open (new_end 0))) second (bounds.Open (new_end 1))) 1 (only second)

  -- The successes of a call: what register 0 gets, and what becomes of the slots. A slot that isn't named stays.
  abbrev pub successes_of : Syscall → List Outcome
  successes_of (Open path f) = takes (all_held (target_of_path grants path))
  successes_of (Openat x path f) = through_each x (λ (s : OpenSlot). opens_beneath s.held (beneath_target s.held.target))
  successes_of (Read x) = gives_through x (from_to 0 256)
  successes_of (Write x v) = gives_through x (only 1)
  successes_of (Sendfd x y v) =
      through_each x (λ (s : OpenSlot). if may_be_end s.held.target then gives_through y (only 1) else [])
  successes_of (Recvfd x) = through_each x (λ (s : OpenSlot). receives_at s.held.target)
  successes_of (Lseek x v) = gives_through x (from_to 0 most_bytes)
  successes_of (Ftruncate x v) = gives_through x (only 0)
  successes_of (Fsync x) = gives_through x (only 0)
  successes_of (Fstat x) = gives_through x (from_to 1 3)
  successes_of (Fcntl_getfl x) = gives_through x (from_to 0 3)
  successes_of (Fcntl_setfl x v) = gives_through x (only 0)
  successes_of (Fstatat x path) = gives_at_node x (leads_on b (from_to 1 2))
  successes_of (Stat path) = leads_on b (from_to 1 2)
  successes_of (Mkdirat x path) = gives_at_node x (leads_on b (only 0))
  successes_of (Mkdir path) = leads_on b (only 0)
  successes_of (Unlinkat x path directory) = gives_at_node x (leads_on b (only 0))
  successes_of (Unlink path directory) = leads_on b (only 0)
  successes_of (Renameat x from y to) = gives_at_node x (gives_at_node y (leads_on b (only 0)))
  successes_of (Dup x) = through_each x (λ (s : OpenSlot). takes s.held)
  successes_of (Close x) = through_each x (λ (s : OpenSlot). leads_on (with_slot b s.number Closed) (only 0))
  successes_of (Cap_rights_limit x rights) =
      through_each x (λ (s : OpenSlot). leads_on (with_slot b s.number (bounds.Open (with_rights s.held rights))) (only 0))
  successes_of (Cap_fcntls_limit x commands) =
      through_each x (λ (s : OpenSlot). leads_on (with_slot b s.number (bounds.Open (with_commands s.held commands))) (only 0))
  successes_of Cap_enter = leads_on (record b { mode = On }) (only 0)
  successes_of Cap_getmode = leads_on b (mode_interval b.mode)
  successes_of Socketpair = at_pair (free_numbers 2 b) (λ first second. leads_on (with_pair first second) (only first))
  successes_of (Call_use x right) = if acts_beneath right then gives_at_node x (leads_on b (only 0)) else gives_through x (only 0)
  successes_of Fork = leads_on b (only 0) ++ leads_on b (from_to 1 (most_processes - 1))

  -- All outcomes but those of errors. `halt` has none.
  unfoldable pub successes : Instruction → List Outcome
  successes (Set r value) = outcome_to (point + 1) (with_interval b r (only value))
  successes (Mov r source) = outcome_to (point + 1) (with_interval b r (interval b.registers source))
  successes (Add r addend) =
      outcome_to (point + 1) (with_interval b r (sums (interval b.registers r) (interval b.registers addend)))
  successes (In r) = outcome_to (point + 1) (with_interval b r (from_to 0 255))
  successes (Jmp target) = outcome_to target b
  successes (Jeq r value target) = equal_outcomes point b r value target
  successes (Jlt r value target) = less_outcomes point b r value target
  successes Halt = []
  successes (Invoke call otherwise) = if is_formed certificate b call then successes_of call else []

-- A process of a marked program isn't followed into capability mode: there its authority bounds it, and not its points.
abbrev pub is_followed : Plan → Name → Instruction → Bool
is_followed plan name i = not (is_marked plan.programs name && enters_mode i)

unfoldable pub successes_in : Plan → Certificate → Name → ℕ → Bound → Instruction → List Outcome
successes_in plan certificate name point b i =
    if is_followed plan name i then successes plan.grants certificate name point b i else []

-- the numbers of errors
abbrev pub error_interval : Interval
error_interval = from_to 1 94

-- A call that fails sets register 7 and goes to its label; all else stays.
unfoldable pub error_outcomes : Bound → Instruction → List Outcome
error_outcomes b (Invoke call otherwise) =
    if (demands call).never_fails then [] else outcome_to otherwise (with_interval b 7 error_interval)
error_outcomes b _ = []
