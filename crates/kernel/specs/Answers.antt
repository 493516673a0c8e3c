-- What a system call answers, and the tests that it asks. An answer that is an error has no change, so
-- errors change nothing.
use Rattle.std.specs.Prelude.{◌<◌, ℕ, Bool, true, false, List, [], ◌∷◌, slice_index_or, Option, Some, None}
use Rattle.rights.specs.Values.{Place, Content, NodeNumber, DescriptionNumber, DescriptorNumber, ProcessNumber, PairNumber, SideNumber, RightSet, CommandSet}
use Rattle.rights.specs.Sets.{is_within}
use Rattle.rights.specs.Errors.{Errno, EBADF, EMFILE, ENOENT, ENOTDIR, EINVAL, ELOOP, ENAMETOOLONG, ENOTCAPABLE, ECAPMODE, ENOTSOCK, EAGAIN, Cause, CapMode, BadDescriptor, MissingRight, Full, Refused}
use Rattle.rights.specs.Errors as errors
use Rattle.rights.specs.Operations.{Operation}
use Rattle.file_tree.specs.Nodes.{Kind}
use Rattle.lookup.specs.Answers.{LookupFault, Escape, No_entry, Not_dir, Loop, Too_long, Bad_last}
use Rattle.process.specs.State.{Walking, ProcessState}
use Rattle.instruction_set.specs.Programs.{Operand, Register, Number}
use Rattle.fd_table.specs.Descriptions.{Access, PairClass, Object, At_node, At_end, State, Descriptor, Message}

-- One event is one step of one process: its number, the byte that it may be given, and whether
-- the kernel refuses where it may. (own)
pub record Event : Type 0 where
  pub process : ProcessNumber
  pub input : ℕ
  pub refuse : Bool

-- An event gives a byte.
abbrev pub IsEvent : Event → Type 0
IsEvent e = e.input < 256

abbrev pub AreEvents : List Event → Type 0
AreEvents [] = Unit {0}
AreEvents (e ∷ events) = IsEvent e × AreEvents events

-- an operation at a place, the one at that moment
pub record Effect : Type 0 where
  pub operation : Operation
  pub place : Place

-- A change has a part for each part of the world.
pub data TreeChange : Type 0 where
  Same_tree : TreeChange
  Make : (place : Place) (kind : Kind) → TreeChange  -- an empty file or directory
  Remove : (node : NodeNumber) → TreeChange
  Move : (node : NodeNumber) (place : Place) → TreeChange
  Fill : (node : NodeNumber) (content : Content) → TreeChange

pub data TableChange : Type 0 where
  Same_table : TableChange
  Set_entry : (number : DescriptorNumber) (descriptor : Descriptor) → TableChange
  Clear_entry : (number : DescriptorNumber) → TableChange
  New_file : (number : DescriptorNumber) (node : NodeNumber) (access : Access) (append : Bool) (rights : RightSet) (fcntls : CommandSet) → TableChange  -- with a description of its own
  New_pair : (first second : DescriptorNumber) (class : PairClass) → TableChange  -- both ends of a new pair
  New_process : TableChange  -- a child, with a copy of the table

pub data QueueChange : Type 0 where
  Same_queue : QueueChange
  Push : (pair : PairNumber) (side : SideNumber) (message : Message) → QueueChange  -- behind what the side sent
  Pop : (pair : PairNumber) (side : SideNumber) → QueueChange  -- the front message of what the side sent goes

pub data StateChange : Type 0 where
  Same_state : StateChange
  Set_state : (description : DescriptionNumber) (state : State) → StateChange

pub record Change : Type 0 where
  pub tree : TreeChange
  pub table : TableChange
  pub queue : QueueChange
  pub state : StateChange
  pub enters : Bool  -- the process enters capability mode

pub data Answer : Type 0 where
  Fails : (errno : Errno) (cause : Cause) → Answer
  Waits : Answer
  Gives : (value : ℕ) (change : Change) (effects : List Effect) → Answer
  Walks : (walking : Walking) → Answer  -- names are left for later events

abbrev pub same : Change
same = record { tree = Same_tree; table = Same_table; queue = Same_queue; state = Same_state; enters = false }

-- nothing but a value
abbrev pub gives : ℕ → Answer
gives value = Gives value same []

abbrev pub does : Operation → Place → List Effect
does operation place = record { operation = operation; place = place } ∷ []

-- The tests that a call asks, in its order: each goes on, or the call fails.
unfoldable pub unless : Bool → Errno → Cause → Answer → Answer
unless true errno cause rest = rest
unless false errno cause rest = Fails errno cause

-- a descriptor that is open (EBADF)
unfoldable pub held : Option Descriptor → (Descriptor → Answer) → Answer
held None rest = Fails EBADF BadDescriptor
held (Some d) rest = rest d

-- the rights that are needed (rights(4), ENOTCAPABLE)
abbrev pub granted : RightSet → Descriptor → Answer → Answer
granted need d rest = unless (is_within need d.rights) ENOTCAPABLE MissingRight rest

-- the fcntl command (cap_fcntls_limit(2), ENOTCAPABLE)
abbrev pub commanded : CommandSet → Descriptor → Answer → Answer
commanded command d rest = unless (is_within command d.fcntls) ENOTCAPABLE MissingRight rest

abbrev pub through : RightSet → Option Descriptor → (Descriptor → Answer) → Answer
through need entry rest = held entry (λ d. granted need d (rest d))

-- what the description is of: a node, or an end of a pair
unfoldable pub at_object : Object → (NodeNumber → Access → Answer) → (PairNumber → SideNumber → Answer) → Answer
at_object (At_node n access) on_node on_end = on_node n access
at_object (At_end pair side class) on_node on_end = on_end pair side

-- a number that is free (EMFILE)
unfoldable pub at_number : Option DescriptorNumber → (DescriptorNumber → Answer) → Answer
at_number None rest = Fails EMFILE Full
at_number (Some n) rest = rest n

-- What a fault of a lookup answers. An escape is not a missing right, though its error is the same.
-- (open(2), capsicum(4); EINVAL is own)
abbrev pub lookup_fails : LookupFault → Answer
lookup_fails Escape = Fails ENOTCAPABLE errors.Escape
lookup_fails No_entry = Fails ENOENT errors.Path
lookup_fails Not_dir = Fails ENOTDIR errors.Path
lookup_fails Loop = Fails ELOOP errors.Path
lookup_fails Too_long = Fails ENAMETOOLONG errors.Path
lookup_fails Bad_last = Fails EINVAL errors.Path

-- the value of an operand
abbrev pub operand_value : List ℕ → Operand → ℕ
operand_value registers (Register r) = slice_index_or registers r 0
operand_value registers (Number n) = n

abbrev pub value_of : ProcessState → Operand → ℕ
value_of s x = operand_value s.registers x
