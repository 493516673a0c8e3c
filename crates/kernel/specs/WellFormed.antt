-- Well-formed worlds. (own)
use Rattle.std.specs.Prelude.{◌≡◌, ◌^◌, ◌<◌, ◌≤◌, ℕ, true, false, List, [], ◌∷◌, length, Option, Some, None}
use Rattle.std.specs.List.{slice_get}
use Rattle.rights.specs.Sets.{is_within, all_rights, all_commands}
use Rattle.file_tree.specs.Nodes.{Node, node, is_link}
use Rattle.rights.specs.Limits.{most_bytes, most_messages, most_processes, most_descriptors, register_count}
use Rattle.file_tree.specs.WellFormed.{IsTree}
use Rattle.process.specs.State.{Deed, ProcessState}
use Rattle.instruction_set.specs.Programs.{Instruction, Syscall, is_program}
use Rattle.fd_table.specs.Descriptions.{PairClass, Object, At_node, At_end, State, Descriptor, Message, IfHeld}
use Rattle.kernel.specs.World.{World}
use Rattle.kernel.specs.Steps.{Programs}
use Rattle.kernel.specs.Walks.{IsWalkerIfMade, are_paths, call_in, lookups_of}

-- Each program of a task is valid. Where a task has none, there is the empty list.
abbrev pub IsCode : List Instruction → Type 0
IsCode [] = Unit {0}
IsCode (i ∷ code) = is_program (i ∷ code) ≡ true

abbrev pub ArePrograms : Programs → Type 0
ArePrograms programs = (n : ℕ) → IsCode (programs n)

-- What there is to know of the numbers of descriptions and pairs: those that are named lie below a bound, each
-- end of a pair has one description, and both ends of a pair are of one class.
pub record Numbering : Type 0 where
  pub descriptions : ℕ
  pub pairs : ℕ
  pub holder : ℕ → ℕ → ℕ
  pub class : ℕ → PairClass

-- a description is of a file or directory of the tree, or of an end
abbrev pub IsObject : List Node → Numbering → ℕ → Object → Type 0
IsObject tree numbering description (At_node n access) = is_link (node tree n).kind ≡ false
IsObject tree numbering description (At_end pair side class) =
    (pair < numbering.pairs) × (side < 2) × (numbering.holder pair side ≡ description) × (numbering.class pair ≡ class)

-- A descriptor names a description below the bound, at an offset within the largest file, and its sets are
-- within all.
pub record IsDescriptor (tree : List Node) (numbering : Numbering) (objects : ℕ → Object) (states : ℕ → State) (d : Descriptor) : Type 0 where
  pub number : d.description < numbering.descriptions
  pub rights : is_within d.rights all_rights ≡ true
  pub fcntls : is_within d.fcntls all_commands ≡ true
  pub object : IsObject tree numbering d.description (objects d.description)
  pub offset : (states d.description).offset ≤ most_bytes

-- messages of bytes
abbrev pub EachMessage : (Descriptor → Type 0) → List Message → Type 0
EachMessage Good [] = Unit {0}
EachMessage Good (m ∷ messages) = (m.byte < 256) × IfHeld Good m.passed × EachMessage Good messages

abbrev pub IsPoint : Option Instruction → Type 0
IsPoint None = ⊥
IsPoint (Some i) = Unit {0}

abbrev pub FitsRegister : Option ℕ → Type 0
FitsRegister None = Unit {0}
FitsRegister (Some value) = value < 2 ^ 32

-- What a process of this program may be made to do: any instruction, with eight registers of 32 bits and a point of the program
-- afterwards. Its paths are of the bytes that assembly has in one.
abbrev pub HasPaths : Option Syscall → Type 0
HasPaths None = Unit {0}
HasPaths (Some call) = are_paths (lookups_of call) ≡ true

pub record IsDeed (programs : Programs) (program : ℕ) (deed : Deed) : Type 0 where
  pub paths : HasPaths (call_in (Some deed.instruction))
  pub placed : IsPoint (slice_get (programs program) deed.point)
  pub eight : length deed.registers ≡ register_count
  pub small : (r : ℕ) → FitsRegister (slice_get deed.registers r)

-- A process that is to do a deed is of an untrusted program and in capability mode.
pub record IsKeptDeed (programs : Programs) (s : ProcessState) (deed : Deed) : Type 0 where
  pub marked : s.marked ≡ true
  pub mode : s.mode ≡ true
  pub is : IsDeed programs s.program deed

abbrev pub IfKept : Programs → ProcessState → Option Deed → Type 0
IfKept programs s None = Unit {0}
IfKept programs s (Some deed) = IsKeptDeed programs s deed

-- A process stands at an instruction of its program, also once it has ended. It has eight registers of 32 bits.
pub record IsProcess (programs : Programs) (s : ProcessState) : Type 0 where
  pub placed : IsPoint (slice_get (programs s.program) s.point)
  pub eight : length s.registers ≡ register_count
  pub small : (r : ℕ) → FitsRegister (slice_get s.registers r)
  pub kept : IfKept programs s s.kept

abbrev pub IsProcessIfMade : Programs → Option ProcessState → Type 0
IsProcessIfMade programs None = Unit {0}
IsProcessIfMade programs (Some s) = IsProcess programs s

-- An ended process, and a number of which no process was made, has no entries.
abbrev pub HasNone : Option ProcessState → (ℕ → Option Descriptor) → Type 0
HasNone None row = (n : ℕ) → row n ≡ None
HasNone (Some s) row = s.alive ≡ false → (n : ℕ) → row n ≡ None

-- One to sixteen processes; what each entry and message names is well formed; numbers from 16 on have no entry; queues are
-- bytes with room for no more than sixteen, and beyond the bound on pairs, and from side 2 on, they are empty.
pub record IsWorld (programs : Programs) (numbering : Numbering) (w : World) : Type 0 where
  pub tree : IsTree w.tree
  pub some : 0 < length w.processes
  pub few : length w.processes ≤ most_processes
  pub processes : (p : ℕ) → IsProcessIfMade programs (slice_get w.processes p)
  pub entries : (p n : ℕ) → IfHeld (IsDescriptor w.tree numbering w.files.objects w.files.states) (w.files.table p n)
  pub numbers : (p n : ℕ) → most_descriptors ≤ n → w.files.table p n ≡ None
  pub gone : (p : ℕ) → HasNone (slice_get w.processes p) (w.files.table p)
  pub messages : (pair side : ℕ) → EachMessage (IsDescriptor w.tree numbering w.files.objects w.files.states) (w.files.queue pair side)
  pub short : (pair side : ℕ) → length (w.files.queue pair side) ≤ most_messages
  pub idle : (pair side : ℕ) → w.files.pairs ≤ pair → w.files.queue pair side ≡ []
  pub sides : (pair side : ℕ) → 2 ≤ side → w.files.queue pair side ≡ []

-- A world is well formed if it is so for some numbering, and what its processes have under way is of their calls.
pub record IsWellFormed (programs : Programs) (w : World) : Type 0 where
  pub numbering : Numbering
  pub world : IsWorld programs numbering w
  pub walks : (p : ℕ) → IsWalkerIfMade programs w.tree w.files.objects (w.files.table p) (slice_get w.processes p)

-- Between two steps a process has a deed to do only while it has looked a part of the deed's paths up. In the world in which it is
-- about to do one it has looked nothing up yet.
abbrev pub IsBegun : Option ProcessState → Type 0
IsBegun None = Unit {0}
IsBegun (Some s) = s.walk ≡ None → s.kept ≡ None

-- a well-formed world between two steps
pub record IsBetweenSteps (programs : Programs) (w : World) : Type 0 where
  pub formed : IsWellFormed programs w
  pub begun : (p : ℕ) → IsBegun (slice_get w.processes p)
