-- The slots of a bound that a call may go through, and those that it takes. (own; that a new descriptor has the lowest free
-- number is of open(2), dup(2) and socketpair(2))
use Rattle.std.specs.Prelude.{◌+◌, ◌==◌, ◌&&◌, ℕ, zero, suc, Bool, true, false, nat_le, List, [], ◌∷◌, ◌++◌, Option, Some, None, option_map, if◌then◌else◌}
use Rattle.rights.specs.Values.{DescriptorNumber}
use Rattle.certificate.specs.Bounds.{ModeBound, Off, On, Either, Interval, interval, Held, Slot, Closed, Open, Maybe, held_in, Bound}
use Rattle.instruction_set.specs.Programs.{Operand, Register, Number}
use Rattle.rules.specs.Intervals.{only}

-- the mode is on or either
abbrev pub may_be_on : ModeBound → Bool
may_be_on Off = false
may_be_on On = true
may_be_on Either = true

-- the numbers that an operand may be
abbrev pub operand_interval : Bound → Operand → Interval
operand_interval b (Register r) = interval b.registers r
operand_interval b (Number n) = only n

abbrev pub is_single : Interval → Bool
is_single i = i.low == i.high

abbrev pub holds_number : Interval → ℕ → Bool
holds_number i n = nat_le i.low n && nat_le n i.high

-- a slot that may be open, with what it holds then
pub record OpenSlot : Type 0 where
  pub number : DescriptorNumber
  pub held : Held

abbrev pub open_slot : ℕ → Option Held → List OpenSlot
open_slot n None = []
open_slot n (Some h) = record { number = n; held = h } ∷ []

-- the slots from this number on that may be open, of numbers in the interval
abbrev pub slots_from : ℕ → Interval → List Slot → List OpenSlot
slots_from n i [] = []
slots_from n i (s ∷ slots) = (if holds_number i n then open_slot n (held_in s) else []) ++ slots_from (n + 1) i slots

-- the slots that an operand may name
unfoldable pub slots_in : Bound → Operand → List OpenSlot
slots_in b x = slots_from 0 (operand_interval b x) b.slots

-- The lowest free numbers from this one on, so many of them or all that there are, where the bound determines them: open slots
-- are passed, closed ones taken, and one that may be either leaves it open.
abbrev pub free_from : ℕ → ℕ → List Slot → Option (List ℕ)
free_from zero n slots = Some []
free_from (suc count) n [] = Some []
free_from (suc count) n (Closed ∷ slots) = option_map (λ numbers. n ∷ numbers) (free_from count (n + 1) slots)
free_from (suc count) n (Open h ∷ slots) = free_from (suc count) (n + 1) slots
free_from (suc count) n (Maybe h ∷ slots) = None

unfoldable pub free_numbers : ℕ → Bound → Option (List ℕ)
free_numbers count b = free_from count 0 b.slots
