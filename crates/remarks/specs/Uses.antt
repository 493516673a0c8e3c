-- What calls need of what a descriptor may be of. (own)
use Rattle.std.specs.Prelude.{◌||◌, not, ℕ, Bool, false, if◌then◌else◌, List, [], ◌∷◌, Option, Some, None, bit_or, length, map}
use Rattle.std.specs.List.{list_all, slice_get, slice_index_or}
use Rattle.certificate.specs.Bounds.{Bound, Held, Target}
use Rattle.certificate.specs.Order.{target_within}
use Rattle.instruction_set.specs.Programs.{Instruction, Invoke, Operand}
use Rattle.instruction_set.specs.Successors.{successors_at}
use Rattle.rights.specs.Sets.{all_commands, all_rights}
use Rattle.rights.specs.Values.{CommandSet, RightSet}
use Rattle.rules.specs.Needs.{Need, Through, Passed, Nothing, Sent, Received, needs}
use Rattle.rules.specs.Slots.{OpenSlot, slots_in}
use Rattle.remarks.specs.Ways.{points, rounds}

pub record Uses : Type 0 where
  pub rights : RightSet
  pub commands : CommandSet

abbrev pub no_uses : Uses
no_uses = record { rights = 0; commands = 0 }

abbrev pub all_uses : Uses
all_uses = record { rights = all_rights; commands = all_commands }

abbrev pub both_uses : Uses → Uses → Uses
both_uses a b = record { rights = bit_or a.rights b.rights; commands = bit_or a.commands b.commands }

-- an operand may name a slot of what the target may be
abbrev pub is_related : Target → Held → Bool
is_related t h = target_within h.target t || target_within t h.target

abbrev pub names_target : Bound → Operand → Target → Bool
names_target b x t = not (list_all (λ (s : OpenSlot). not (is_related t s.held)) (slots_in b x))

-- a call sends away what the target may be
abbrev pub sends_target : Bound → Target → Passed → Bool
sends_target b t Nothing = false
sends_target b t Received = false
sends_target b t (Sent x) = names_target b x t

-- what it needs, or keeps by a limit
abbrev pub uses_of_need : Need → Uses
uses_of_need n = record { rights = bit_or (bit_or n.rights n.further) n.kept_rights; commands = bit_or n.commands n.kept_commands }

-- by one of its operands; all where it sends such a descriptor away
abbrev pub uses_by : Bound → Target → Through → Uses
uses_by b t through =
    if sends_target b t through.need.passed then all_uses
    else if names_target b through.operand t then uses_of_need through.need
    else no_uses

abbrev pub uses_through : Bound → Target → Option Through → Uses
uses_through b t None = no_uses
uses_through b t (Some through) = uses_by b t through

-- what the instruction of a point needs of it
abbrev pub uses_of : Instruction → Option Bound → Target → Uses
uses_of (Invoke call otherwise) (Some b) t = both_uses (uses_through b t (needs call).first) (uses_through b t (needs call).second)
uses_of _ _ t = no_uses

-- ## What the calls need that may come from a point on
abbrev pub uses_there : Option Instruction → Option Bound → Target → Uses
uses_there None b t = no_uses
uses_there (Some i) b t = uses_of i b t

abbrev pub uses_on : List Instruction → List (Option Bound) → Target → ℕ → Uses
uses_on code bounds t point = uses_there (slice_get code point) (slice_index_or bounds point None) t

abbrev pub uses_here : List Instruction → List (Option Bound) → Target → List Uses
uses_here code bounds t = map (uses_on code bounds t) (points code)

abbrev pub uses_at : List Uses → ℕ → Uses
uses_at uses point = slice_index_or uses point no_uses

abbrev pub uses_at_all : List Uses → List ℕ → Uses
uses_at_all uses [] = no_uses
uses_at_all uses (point ∷ more) = both_uses (uses_at uses point) (uses_at_all uses more)

-- what each point needs, and those that it leads to
abbrev pub uses_later : List Instruction → List Uses → ℕ → Uses
uses_later code uses point = both_uses (uses_at uses point) (uses_at_all uses (successors_at code point))

abbrev pub or_later : List Instruction → List Uses → List Uses
or_later code uses = map (uses_later code uses) (points code)

-- what all need that come from it: no way to one of them is longer than there are points
abbrev pub uses_ahead : List Instruction → List (Option Bound) → Target → List Uses
uses_ahead code bounds t = rounds (or_later code) (length code) (uses_here code bounds t)
