-- What an attacker has its process do: an instruction, behind which it stands at the start of its program with registers of 0. (own)
use Rattle.std.specs.Prelude.{◌≡◌, ◌<◌, true, false, List, [], ◌∷◌, ◌++◌, length, slice_index_or, Option, Some, None, replicate}
use Rattle.rights.specs.Limits.{most_descriptors, register_count}
use Rattle.rights.specs.Sets.{write_right}
use Rattle.rights.specs.Values.{DescriptorNumber, RightSet}
use Rattle.call_facts.specs.Arguments.{first_operand}
use Rattle.instruction_set.specs.Programs.{Instruction, Invoke, Cap_rights_limit, Number, Operand}
use Rattle.process.specs.State.{Deed}
use Rattle.kernel.specs.Hostile.{Act, Own, Does}
use Rattle.task.specs.Plans.{Plan, none_marked}

abbrev pub deed_by : Instruction → Deed
deed_by i = record { instruction = i; registers = replicate register_count 0; point = 0 }

-- nothing, or this instruction
abbrev pub act_by : Option Instruction → Act
act_by None = Own
act_by (Some i) = Does (deed_by i)

-- ## The deeds that are tried (own)
-- the operand of the descriptor by which an instruction goes, if it is a call that goes by one
abbrev pub descriptor_by : Instruction → Option Operand
descriptor_by (Invoke call otherwise) = first_operand call
descriptor_by _ = None

abbrev pub GoesBy : DescriptorNumber → Instruction → Type 0
GoesBy n i = descriptor_by i ≡ Some (Number n)

abbrev pub GoBy : DescriptorNumber → List Instruction → Type 0
GoBy n [] = Unit {0}
GoBy n (i ∷ deeds) = GoesBy n i × GoBy n deeds

-- a call that limits the descriptor of this number to these rights
abbrev pub limit_by : DescriptorNumber → RightSet → Instruction
limit_by n rights = Invoke (Cap_rights_limit (Number n) rights) 0

-- what it is limited to: nothing, and writing alone
abbrev pub limits_by : DescriptorNumber → List Instruction
limits_by n = limit_by n 0 ∷ limit_by n write_right ∷ []

-- What is tried by this number: calls that go by it, and the limits at last.
pub record IsTriedBy (n : DescriptorNumber) (deeds : List Instruction) : Type 0 where
  pub go : GoBy n deeds
  pub others : List Instruction
  pub limits : deeds ≡ others ++ limits_by n

abbrev pub AreTriedByEach : List (List Instruction) → Type 0
AreTriedByEach deeds = (n : DescriptorNumber) → n < length deeds → IsTriedBy n (slice_index_or deeds n [])

-- What attackers of a task try: nothing where no program is marked, and else calls by each number that a descriptor may have.
pub record AreTried (plan : Plan) (deeds : List (List Instruction)) : Type 0 where
  pub nothing : none_marked plan ≡ true → deeds ≡ []
  pub numbers : none_marked plan ≡ false → length deeds ≡ most_descriptors
  pub calls : AreTriedByEach deeds
