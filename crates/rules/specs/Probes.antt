-- A task that makes one call, and its certificate: what the rules find there. (own)
use Rattle.std.specs.Prelude.{◌++◌, ◌-◌, ℕ, false, List, [], ◌∷◌, length, codes, Option, Some, None}
use Rattle.rights.specs.Limits.{most_descriptors}
use Rattle.rights.specs.Classes.{Initial}
use Rattle.rights.specs.Operations.{Look, Read as Reads, Create as Creates}
use Rattle.instruction_set.specs.Programs.{Syscall, Instruction, Halt, Invoke}
use Rattle.certificate.specs.Bounds.{ModeBound, Off, Either, In_grant, Any_node, Socket, Held, Slot, Closed, Maybe, Bound, PointBound, ChannelBound, One, Certificate}
use Rattle.certificate.specs.Bounds as bounds
use Rattle.certificate.specs.Growth.{copies, open_bound}
use Rattle.task.specs.Plans.{Plan, unmarked}
use Rattle.task.specs.Breaches.{small_tree}
use Rattle.rules.specs.Outcomes.{all_held, unknown_held}
use Rattle.rules.specs.Verdicts.{first_found}

-- a bound with full registers and these slots, from number 0 on; the others are closed
abbrev pub bound_of_slots : ModeBound → List Slot → Bound
bound_of_slots mode slots = record (open_bound mode) { slots = slots ++ copies (most_descriptors - length slots) Closed }

-- the bound that every other is within
abbrev pub loosest : Bound
loosest = bound_of_slots Either (copies most_descriptors (Maybe unknown_held))

-- What a slot holds: a node of the task's grant, of a grant that the task hasn't, or any; or one side of a pair.
abbrev pub in_work : Held
in_work = all_held (In_grant (codes "work"))

abbrev pub in_log : Held
in_log = all_held (In_grant (codes "log"))

abbrev pub any_node : Held
any_node = all_held Any_node

abbrev pub side_a : Held
side_a = all_held (Socket (Initial 0) 0)

abbrev pub side_b : Held
side_b = all_held (Socket (Initial 0) 1)

abbrev pub with_least : Held → ℕ → ℕ → Held
with_least h rights commands = record h { least = rights; least_fcntls = commands }

abbrev pub all_open : List Held → List Slot
all_open [] = []
all_open (h ∷ held) = bounds.Open h ∷ all_open held

-- what one side sends
abbrev pub channel : ℕ → Option Held → ChannelBound
channel side sends = record { class = Initial 0; side = side; sends = sends }

-- Programs `main`, which ends at once, and `probe`, which has one instruction before its end. The one process runs the
-- program of this number, and has no descriptors. The points have these bounds.
pub record Probe : Type 0 where
  pub started : ℕ
  pub main : Bound
  pub here : Bound
  pub next : Option Bound
  pub channels : List ChannelBound

abbrev pub probed_plan : ℕ → Instruction → Plan
probed_plan started i = record {
  nodes = small_tree;
  grants = record { name = codes "work"; path = codes "work" ∷ []; operations = Look ∷ Reads ∷ Creates ∷ [] } ∷ [];
  programs =
      unmarked (codes "main") (Halt ∷ []) ∷ unmarked (codes "probe") (i ∷ Halt ∷ []) ∷ [];
  starts = record { program = started; mode = false; descriptors = [] } ∷ [];
  wide = false;
}

abbrev pub block : List ℕ → ℕ → Bound → PointBound
block program point bound = record { program = program; point = point; bound = bound }

abbrev pub block_if : List ℕ → ℕ → Option Bound → List PointBound
block_if program point None = []
block_if program point (Some bound) = block program point bound ∷ []

abbrev pub probed_certificate : Probe → Certificate
probed_certificate p = record {
  version = One;
  points = block (codes "main") 0 p.main ∷ block (codes "probe") 0 p.here ∷ block_if (codes "probe") 1 p.next;
  channels = p.channels;
  authorities = [];
}

-- The instruction of `probe` under these bounds.
abbrev pub probed : Probe → Instruction → Option (ℕ × ℕ × ℕ)
probed p i = first_found (probed_plan p.started i) (probed_certificate p)

-- Unless it is said, `main` is run, and any state is good after the instruction.
abbrev pub plain_probe : Bound → Probe
plain_probe here = record { started = 0; main = bound_of_slots Off []; here = here; next = Some loosest; channels = [] }

-- a call with these slots, in the mode or outside it
abbrev pub probe : Syscall → ModeBound → List Held → Option (ℕ × ℕ × ℕ)
probe call mode held = probed (plain_probe (bound_of_slots mode (all_open held))) (Invoke call 1)

abbrev pub probe_over : List ChannelBound → Syscall → ModeBound → List Held → Option (ℕ × ℕ × ℕ)
probe_over channels call mode held =
    probed (record (plain_probe (bound_of_slots mode (all_open held))) { channels = channels }) (Invoke call 1)

-- a rule is broken at point 0 of `probe`
abbrev pub broken : ℕ → Option (ℕ × ℕ × ℕ)
broken rule = Some (1, 0, rule)
