-- Which slots a call goes through, and what it needs of each. (own)
use Rattle.std.specs.Prelude.{◌++◌, List, [], map, Option, Some, None}
use Rattle.certificate.specs.Bounds.{Bound}
use Rattle.instruction_set.specs.Programs.{Operand, Syscall}
use Rattle.rules.specs.Slots.{OpenSlot, slots_in}
use Rattle.rules.specs.Needs.{Passed, Nothing, Sent, Received, Need, Through, Needs, needs}

-- What a call does with descriptors and the channel of a socket: it sends one of these slots, or receives.
pub data Passing : Type 0 where
  Passes_none : Passing
  Sends : (slots : List OpenSlot) → Passing
  Receives : Passing

-- A slot that a call may go through, and what the call needs of it.
pub record Use : Type 0 where
  pub slot : OpenSlot
  pub need : Need
  pub targets : List OpenSlot  -- where it may move a name to
  pub passing : Passing

abbrev pub named_slots : Bound → Option Operand → List OpenSlot
named_slots b None = []
named_slots b (Some x) = slots_in b x

abbrev pub passing_in : Bound → Passed → Passing
passing_in b Nothing = Passes_none
passing_in b (Sent x) = Sends (slots_in b x)
passing_in b Received = Receives

abbrev pub use_of : Bound → Need → OpenSlot → Use
use_of b n slot = record { slot = slot; need = n; targets = named_slots b n.targets; passing = passing_in b n.passed }

abbrev pub uses_through : Bound → Option Through → List Use
uses_through b None = []
uses_through b (Some t) = map (use_of b t.need) (slots_in b t.operand)

abbrev pub uses_of : Bound → Needs → List Use
uses_of b n = uses_through b n.first ++ uses_through b n.second

-- the slots that a call may go through
unfoldable pub uses : Bound → Syscall → List Use
uses b call = uses_of b (needs call)
