-- What a valid plan keeps, fact by fact. (own; that a directory is not opened for writing is of open(2))
use Rattle.std.specs.Prelude.{◌≡◌, ◌≢◌, ◌⊎◌, ◌<◌, ◌≤◌, ℕ, true, false, List, [], ◌∷◌, ◌++◌, length, Some, None}
use Rattle.std.specs.List.{slice_get}
use Rattle.rights.specs.Sets.{is_within, all_rights, all_commands}
use Rattle.rights.specs.Limits.{most_word, most_descriptors, most_processes, most_pairs}
use Rattle.file_tree.specs.Places.{begins, is_file_name}
use Rattle.file_tree.specs.Nodes.{Dir, Link, Node, node}
use Rattle.file_tree.specs.Refusals.{created, create_fault}
use Rattle.file_tree.specs.WellFormed.{IsTree, has_directory, is_content}
use Rattle.instruction_set.specs.Languages.{are_spoken}
use Rattle.instruction_set.specs.Programs.{is_program}
use Rattle.fd_table.specs.Descriptions.{Access}
use Rattle.task.specs.Plans.{Grant, NamedProgram, FirstObject, On_node, On_end, FirstDescriptor, Start, Plan, programs_of_plan}
use Rattle.task.specs.Limits.{is_plan}
use Rattle.task.specs.Policies.{grant_named}

-- A name: 1 to 16 bytes, a letter from a to z first, and then such letters, digits and `_`.
abbrev pub IsLetter : ℕ → Type 0
IsLetter b = (97 ≤ b) × (b ≤ 122)

abbrev pub IsNameByte : ℕ → Type 0
IsNameByte b = IsLetter b ⊎ ((48 ≤ b) × (b ≤ 57)) ⊎ (b ≡ 95)

pub record IsShortName (name : List ℕ) : Type 0 where
  pub some : 1 ≤ length name
  pub short : length name ≤ most_word
  pub first : (b : ℕ) → slice_get name 0 ≡ Some b → IsLetter b
  pub bytes : (k b : ℕ) → slice_get name k ≡ Some b → IsNameByte b

-- A node that can be opened so: a file or directory of the tree, for reading or writing; a directory for reading alone.
pub record CanBeOpened (tree : List Node) (n : ℕ) (access : Access) : Type 0 where
  pub there : n < length tree
  pub no_link : (node tree n).kind ≢ Link
  pub used : (access.readable ≡ true) ⊎ (access.writable ≡ true)
  pub directory : (node tree n).kind ≡ Dir → access.writable ≡ false

-- a node, or a side of an initial pair
abbrev pub IsThere : List Node → FirstObject → Type 0
IsThere tree (On_node n access) = CanBeOpened tree n access
IsThere tree (On_end pair side) = (pair < most_pairs) × (side < 2)

pub record IsUsable (tree : List Node) (d : FirstDescriptor) : Type 0 where
  pub number : d.number < most_descriptors
  pub object : IsThere tree d.object
  pub rights : is_within d.rights all_rights ≡ true
  pub fcntls : is_within d.fcntls all_commands ≡ true

-- The place of a grant is one of a linked directory, a name finds its grant, and no place is in two grants.
pub record KeepsGrants (plan : Plan) : Type 0 where
  pub few : length plan.grants ≤ 8
  pub named : (i : ℕ) (g : Grant) → slice_get plan.grants i ≡ Some g → IsShortName g.name
  pub directory : (i : ℕ) (g : Grant) → slice_get plan.grants i ≡ Some g → has_directory plan.nodes g.path ≡ true
  pub names :
      (i j : ℕ) (g h : Grant) → slice_get plan.grants i ≡ Some g → slice_get plan.grants j ≡ Some h → g.name ≡ h.name → i ≡ j
  pub found : (i : ℕ) (g : Grant) → slice_get plan.grants i ≡ Some g → grant_named plan.grants g.name ≡ Some g
  pub places :
      (i j : ℕ) (g h : Grant) (place : List (List ℕ)) → slice_get plan.grants i ≡ Some g → slice_get plan.grants j ≡ Some h
      → begins g.path place ≡ true → begins h.path place ≡ true → i ≡ j

pub record KeepsPrograms (plan : Plan) : Type 0 where
  pub few : length plan.programs ≤ 8
  pub named : (i : ℕ) (p : NamedProgram) → slice_get plan.programs i ≡ Some p → IsShortName p.name
  pub valid : (i : ℕ) (p : NamedProgram) → slice_get plan.programs i ≡ Some p → is_program p.code ≡ true
  pub code : (i : ℕ) (p : NamedProgram) → slice_get plan.programs i ≡ Some p → programs_of_plan plan i ≡ p.code
  pub names :
      (i j : ℕ) (p q : NamedProgram) → slice_get plan.programs i ≡ Some p → slice_get plan.programs j ≡ Some q
      → p.name ≡ q.name → i ≡ j
  pub spoken : (i : ℕ) → are_spoken plan.wide (programs_of_plan plan i) ≡ true

pub record KeepsStarts (plan : Plan) : Type 0 where
  pub some : 1 ≤ length plan.starts
  pub few : length plan.starts ≤ most_processes
  pub program : (p : ℕ) (s : Start) → slice_get plan.starts p ≡ Some s → s.program < length plan.programs
  pub usable :
      (p i : ℕ) (s : Start) (d : FirstDescriptor) → slice_get plan.starts p ≡ Some s → slice_get s.descriptors i ≡ Some d
      → IsUsable plan.nodes d
  pub numbers :
      (p i j : ℕ) (s : Start) (d e : FirstDescriptor) → slice_get plan.starts p ≡ Some s → slice_get s.descriptors i ≡ Some d
      → slice_get s.descriptors j ≡ Some e → d.number ≡ e.number → i ≡ j

pub record KeepsLimits (plan : Plan) : Type 0 where
  pub tree : IsTree plan.nodes
  pub linked : (n : ℕ) → n < length plan.nodes → (node plan.nodes n).linked ≡ true
  pub grants : KeepsGrants plan
  pub programs : KeepsPrograms plan
  pub starts : KeepsStarts plan

-- A node is what `create` makes after those before it, in a directory that is there, and is not refused. (open(2), mkdir(2),
-- symlink(2))
pub record IsMadeAfter (made : List Node) (m : Node) : Type 0 where
  pub directory : ℕ
  pub name : List ℕ
  pub kind : (node made directory).kind ≡ Dir
  pub named : is_file_name name ≡ true
  pub content : is_content m.kind m.content ≡ true
  pub allowed : create_fault made directory name ≡ None
  pub makes : created made directory name m.kind m.content ≡ made ++ m ∷ []

abbrev pub TreesAreMadeInOrder : Type 0
TreesAreMadeInOrder =
    (plan : Plan) (made rest : List Node) (m : Node) → is_plan plan ≡ true → plan.nodes ≡ made ++ m ∷ rest → 0 < length made
    → IsMadeAfter made m

abbrev pub PlansKeepLimits : Type 0
PlansKeepLimits = (plan : Plan) → is_plan plan ≡ true → KeepsLimits plan
