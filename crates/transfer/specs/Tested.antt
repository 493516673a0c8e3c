-- The slots that an operand may name, one at a time, and what fails a test.
use Rattle.std.specs.Prelude.{◌≡◌, ℕ, Bool, List, [], ◌∷◌, map, Option, Some, None, if◌then◌else◌}
use Rattle.certificate.specs.Bounds.{Bound, Interval, Slot, held_in}
use Rattle.rules.specs.Needs.{Through}
use Rattle.rules.specs.Slots.{OpenSlot, holds_number, open_slot}
use Rattle.rules.specs.Uses.{Use, use_of, uses_through}

-- a slot that may be open, if its number is in the interval
abbrev pub slot_at : ℕ → Interval → Slot → List OpenSlot
slot_at n i s = if holds_number i n then open_slot n (held_in s) else []

-- those that fail, in order
abbrev pub failing : {A : Type 0} → (A → Bool) → List A → List A
failing test [] = []
failing test (x ∷ xs) = if test x then failing test xs else x ∷ failing test xs

-- of the slots that a call goes through by an operand, if it does, these fail
abbrev pub AreFailing : (Use → Bool) → Bound → Option Through → List OpenSlot → Type 0
AreFailing test b None slots = slots ≡ []
AreFailing test b (Some t) slots = map (use_of b t.need) slots ≡ failing test (uses_through b (Some t))
