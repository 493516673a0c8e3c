-- Open descriptions, descriptors and messages. (open(2), rights(4), cap_fcntls_limit(2); the parts
-- are own)
use Rattle.std.specs.Prelude.{◌+◌, ◌%◌, ◌==◌, ℕ, Bool, true, false, nat_le, List, [], ◌∷◌, Option, Some, None}
use Rattle.rights.specs.Values.{NodeNumber, DescriptionNumber, PairNumber, SideNumber, RightSet, CommandSet}

-- what a file or directory was opened for
pub record Access : Type 0 where
  pub readable : Bool
  pub writable : Bool

-- where a socket pair was made: an initial pair by its number; a point of a program, by the program's
-- place in the task; or somewhere by a process that doesn't follow its program
pub data PairClass : Type 0 where
  Initial : (pair : PairNumber) → PairClass
  Made_at : (program point : ℕ) → PairClass
  Made_by : (program : ℕ) → PairClass

-- What a description is of, for as long as it is open: a node, or an end of a pair, which is side 0
-- (a) or side 1 (b).
pub data Object : Type 0 where
  At_node : (node : NodeNumber) (access : Access) → Object
  At_end : (pair : PairNumber) (side : SideNumber) (class : PairClass) → Object

-- what calls change of a description: the offset of the next byte, and the status flags
pub record State : Type 0 where
  pub offset : ℕ
  pub append : Bool
  pub nonblock : Bool

-- a descriptor: a description's number, the rights and the fcntl commands, as sets
pub record Descriptor : Type 0 where
  pub description : DescriptionNumber
  pub rights : RightSet
  pub fcntls : CommandSet

-- a byte on its way through a pair, with or without a descriptor
pub record Message : Type 0 where
  pub byte : ℕ
  pub passed : Option Descriptor

-- what holds of a descriptor, where there is one, and of each in the messages of a queue
abbrev pub IfHeld : (Descriptor → Type 0) → Option Descriptor → Type 0
IfHeld Good None = Unit {0}
IfHeld Good (Some d) = Good d

abbrev pub EachPassed : (Descriptor → Type 0) → List Message → Type 0
EachPassed Good [] = Unit {0}
EachPassed Good (m ∷ messages) = IfHeld Good m.passed × EachPassed Good messages

-- The status flags as a number: append 1, nonblock 2. (fcntl(2); the numbers are own)
abbrev pub bit_of : Bool → ℕ → ℕ
bit_of true bit = bit
bit_of false bit = 0

abbrev pub status_number : State → ℕ
status_number state = bit_of state.append 1 + bit_of state.nonblock 2

-- the state with the flags of a number from 0 to 3
abbrev pub with_status : State → ℕ → State
with_status state flags = record state { append = (flags % 2) == 1; nonblock = nat_le 2 flags }

-- A new description is at offset 0; a file's may append.
abbrev pub new_state : Bool → State
new_state append = record { offset = 0; append = append; nonblock = false }

abbrev pub descriptor_of : DescriptionNumber → RightSet → CommandSet → Descriptor
descriptor_of description rights fcntls = record { description = description; rights = rights; fcntls = fcntls }

abbrev pub message_of : ℕ → Option Descriptor → Message
message_of byte passed = record { byte = byte; passed = passed }
