-- The lookups of a call, and when what a process has under way is of its call. (own)
use Rattle.std.specs.Prelude.{◌≡◌, ◌&&◌, Bool, true, false, List, Option, Some, None}
use Rattle.std.specs.List.{slice_get}
use Rattle.rights.specs.Values.{PathText, DescriptionNumber, DescriptorNumber}
use Rattle.file_tree.specs.Nodes.{Dir, Node, node}
use Rattle.lookup.specs.Answers.{Beneath, Global, Last, Follow, Keep}
use Rattle.lookup.specs.UnderWay.{IsUnderWay}
use Rattle.lookup.specs.Walks.{WalkState}
use Rattle.process.specs.State.{ProcessState, Walking, One, Two}
use Rattle.instruction_set.specs.Programs.{Instruction, Invoke, Operand, Syscall, Open, Openat, Fstatat, Stat, Mkdirat, Mkdir, Unlinkat, Unlink, Renameat, is_path}
use Rattle.fd_table.specs.Descriptions.{Object, At_node, At_end, Descriptor}
use Rattle.kernel.specs.Answers.{value_of}
use Rattle.kernel.specs.Calls.{last_if}
use Rattle.kernel.specs.Steps.{Programs, next_instruction}

-- what a call looks up: nothing; a path from the root, or beneath the directory of a descriptor; or two of these
pub data Lookups : Type 0 where
  No_path : Lookups
  From_root : (path : PathText) (last : Last) → Lookups
  From_directory : (directory : Operand) (path : PathText) (last : Last) → Lookups
  From_directories : (old : Operand) (from : PathText) (new : Operand) (to : PathText) → Lookups

unfoldable pub lookups_of : Syscall → Lookups
lookups_of (Open path f) = From_root path (last_if f.create)
lookups_of (Openat x path f) = From_directory x path (last_if f.create)
lookups_of (Fstatat x path) = From_directory x path Follow
lookups_of (Stat path) = From_root path Follow
lookups_of (Mkdirat x path) = From_directory x path Keep
lookups_of (Mkdir path) = From_root path Keep
lookups_of (Unlinkat x path directory) = From_directory x path Keep
lookups_of (Unlink path directory) = From_root path Keep
lookups_of (Renameat x from y to) = From_directories x from y to
lookups_of _ = No_path

-- each path that is looked up is one
abbrev pub are_paths : Lookups → Bool
are_paths No_path = true
are_paths (From_root path last) = is_path path
are_paths (From_directory directory path last) = is_path path
are_paths (From_directories old from new to) = is_path from && is_path to

-- what holds of the lookup that is under way, and of the two, if they are
abbrev pub IfOne : (WalkState → Type 0) → Option Walking → Type 0
IfOne Under None = Unit {0}
IfOne Under (Some (One walk)) = Under walk
IfOne Under (Some (Two one other)) = Unit {0}

abbrev pub IfTwo : (WalkState → Type 0) → (WalkState → Type 0) → Option Walking → Type 0
IfTwo First Second None = Unit {0}
IfTwo First Second (Some (One walk)) = Unit {0}
IfTwo First Second (Some (Two one other)) = First one × Second other

-- the call of an instruction, and the one that a process goes on with
abbrev pub call_in : Option Instruction → Option Syscall
call_in (Some (Invoke call otherwise)) = Some call
call_in _ = None

unfoldable pub under_way : Programs → ProcessState → Option Syscall
under_way programs s = call_in (next_instruction s.kept (slice_get (programs s.program) s.point))

-- the descriptor is of a directory
abbrev pub IsDirectoryOf : List Node → Object → Type 0
IsDirectoryOf tree (At_node n access) = (node tree n).kind ≡ Dir
IsDirectoryOf tree (At_end pair side class) = ⊥

abbrev pub IsDirectory : List Node → (DescriptionNumber → Object) → Option Descriptor → Type 0
IsDirectory tree objects None = ⊥
IsDirectory tree objects (Some d) = IsDirectoryOf tree (objects d.description)

-- A process at s, with this tree, these descriptions and this table, has under way what its call looks up. The call's descriptors
-- are open and of directories.
module _ (tree : List Node) (objects : DescriptionNumber → Object) (row : DescriptorNumber → Option Descriptor) (s : ProcessState) where
  abbrev pub FitsLookups : Lookups → Walking → Type 0
  FitsLookups No_path walking = ⊥
  FitsLookups (From_root path last) (One walk) = IsUnderWay tree path Global last walk
  FitsLookups (From_root path last) (Two one other) = ⊥
  FitsLookups (From_directory x path last) (One walk) = IsDirectory tree objects (row (value_of s x)) × IsUnderWay tree path Beneath last walk
  FitsLookups (From_directory x path last) (Two one other) = ⊥
  FitsLookups (From_directories x from y to) (One walk) = ⊥
  FitsLookups (From_directories x from y to) (Two one other) =
      IsDirectory tree objects (row (value_of s x)) × IsDirectory tree objects (row (value_of s y))
      × IsUnderWay tree from Beneath Keep one × IsUnderWay tree to Beneath Keep other

  abbrev pub FitsIfWalking : Option Syscall → Option Walking → Type 0
  FitsIfWalking call None = Unit {0}
  FitsIfWalking None (Some walking) = ⊥
  FitsIfWalking (Some call) (Some walking) = FitsLookups (lookups_of call) walking

-- A process that walks lives, and what it has under way is of its call.
pub record IsWalker (programs : Programs) (tree : List Node) (objects : DescriptionNumber → Object) (row : DescriptorNumber → Option Descriptor) (s : ProcessState) : Type 0 where
  pub lives : s.alive ≡ false → s.walk ≡ None
  pub fits : FitsIfWalking tree objects row s (under_way programs s) s.walk

abbrev pub IsWalkerIfMade : Programs → List Node → (DescriptionNumber → Object) → (DescriptorNumber → Option Descriptor) → Option ProcessState → Type 0
IsWalkerIfMade programs tree objects row None = Unit {0}
IsWalkerIfMade programs tree objects row (Some s) = IsWalker programs tree objects row s
