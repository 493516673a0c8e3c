-- A task as a value: a file tree, a policy, programs, and the first processes with their descriptors. (own, after
-- capsicum(4) and rights(4))
use Rattle.std.specs.Prelude.{◌&&◌, not, ℕ, Bool, false, List, [], Option, Some, None}
use Rattle.std.specs.List.{list_all, list_any, slice_get}
use Rattle.std.specs.Str.{bytes_eq}
use Rattle.rights.specs.Values.{Name, Place, NodeNumber, DescriptorNumber, PairNumber, SideNumber, RightSet, CommandSet}
use Rattle.rights.specs.Operations.{Operation}
use Rattle.file_tree.specs.Nodes.{Node}
use Rattle.instruction_set.specs.Programs.{Instruction}
use Rattle.fd_table.specs.Descriptions.{Access}

-- A grant allows operations at a directory's place and at everything beneath it.
pub record Grant : Type 0 where
  pub name : Name
  pub path : Place
  pub operations : List Operation

-- A program may be marked: then nothing is known of what a process of it executes in capability mode.
pub record NamedProgram : Type 0 where
  pub name : Name
  pub code : List Instruction
  pub marked : Bool

abbrev pub unmarked : Name → List Instruction → NamedProgram
unmarked name code = record { name = name; code = code; marked = false }

-- What a first descriptor is of: a node of the task, by the node's number, that it is for reading or writing; or an end of a
-- socket pair that the task starts with, by the pair's number and the side, 0 (a) or 1 (b). (open(2), socketpair(2))
pub data FirstObject : Type 0 where
  On_node : (node : NodeNumber) (access : Access) → FirstObject
  On_end : (pair : PairNumber) (side : SideNumber) → FirstObject

-- A descriptor that a process starts with. Its rights and fcntl commands are sets. (rights(4), cap_fcntls_limit(2))
pub record FirstDescriptor : Type 0 where
  pub number : DescriptorNumber
  pub object : FirstObject
  pub rights : RightSet
  pub fcntls : CommandSet

-- a first process: its program, by number, whether it starts in capability mode, and its descriptors
pub record Start : Type 0 where
  pub program : ℕ
  pub mode : Bool
  pub descriptors : List FirstDescriptor

-- Nodes are in the order in which they are made, the root first; what is given by number is counted in these lists.
pub record Plan : Type 0 where
  pub nodes : List Node
  pub grants : List Grant
  pub programs : List NamedProgram
  pub starts : List Start
  pub wide : Bool  -- it asks for further rights

abbrev pub plan_in : Bool → List Node → List Grant → List NamedProgram → List Start → Plan
plan_in wide nodes grants programs starts = record { nodes = nodes; grants = grants; programs = programs; starts = starts; wide = wide }

abbrev pub plan_with : List Node → List Grant → List NamedProgram → List Start → Plan
plan_with nodes grants programs starts = plan_in false nodes grants programs starts

-- the code of a program by its number; where a task has none, there is the empty list
abbrev pub code_in : Option NamedProgram → List Instruction
code_in None = []
code_in (Some p) = p.code

abbrev pub programs_of_plan : Plan → ℕ → List Instruction
programs_of_plan plan n = code_in (slice_get plan.programs n)

-- the name of a program by its number; no bytes where a task has none
abbrev pub name_in : Option NamedProgram → Name
name_in None = []
name_in (Some p) = p.name

abbrev pub program_name : Plan → ℕ → Name
program_name plan n = name_in (slice_get plan.programs n)

-- whether a program is marked, by its number
abbrev pub marked_in : Option NamedProgram → Bool
marked_in None = false
marked_in (Some p) = p.marked

-- whether the program of this name is marked
abbrev pub is_marked : List NamedProgram → Name → Bool
is_marked programs name = list_any (λ (p : NamedProgram). p.marked && bytes_eq p.name name) programs

abbrev pub none_marked : Plan → Bool
none_marked plan = list_all (λ (p : NamedProgram). not p.marked) plan.programs
