-- How a task's first world is made, node by node and descriptor by descriptor. (own)
use Rattle.std.specs.Prelude.{◌≡◌, ◌<◌, ◌+◌, ◌++◌, ◌||◌, ◌&&◌, ◌==◌, not, ℕ, Bool, true, false, nat_lt, List, [], ◌∷◌, map, length, Option, Some, None, if◌then◌else◌}
use Rattle.std.specs.List.{list_all, slice_index_or}
use Rattle.rights.specs.Limits.{most_descriptors, most_processes, most_pairs}
use Rattle.rights.specs.Maps.{put2}
use Rattle.rights.specs.Sets.{is_within, all_rights, all_commands}
use Rattle.file_tree.specs.Places.{is_file_name}
use Rattle.file_tree.specs.Nodes.{Dir, Node, node}
use Rattle.file_tree.specs.Refusals.{created, create_fault}
use Rattle.file_tree.specs.WellFormed.{is_content}
use Rattle.fd_table.specs.OpenFiles.{OpenFiles}
use Rattle.fd_table.specs.Openings.{with_table}
use Rattle.fd_table.specs.Filled.{Entry}
use Rattle.fd_table.specs.Descriptions.{Descriptor, descriptor_of}
use Rattle.kernel.specs.Renamings.{DiffersInNumbers}
use Rattle.syscalls.specs.Views.{world_with}
use Rattle.task.specs.Plans.{FirstObject, On_node, On_end, FirstDescriptor, Start}
use Rattle.task.specs.Limits.{all_apart}
use Rattle.task.specs.Begins.{end_description, first_entries, first_files}

-- The node is what `create` makes of that name in that directory, and that is not refused.
pub record IsMadeIn (made : List Node) (directory : ℕ) (name : List ℕ) (m : Node) : Type 0 where
  pub kind : (node made directory).kind ≡ Dir
  pub named : is_file_name name ≡ true
  pub content : is_content m.kind m.content ≡ true
  pub allowed : create_fault made directory name ≡ None
  pub makes : created made directory name m.kind m.content ≡ made ++ m ∷ []

-- each number stands at itself
abbrev pub AreNumbers : List ℕ → Type 0
AreNumbers numbers = (k : ℕ) → k < length numbers → slice_index_or numbers k 0 ≡ k

-- a first descriptor, and the process whose it is
pub record OwnedDescriptor : Type 0 where
  pub process : ℕ
  pub given : FirstDescriptor

-- those of all processes from one on, in the order of the task
abbrev pub owned_by : ℕ → List FirstDescriptor → List OwnedDescriptor
owned_by p descriptors = map (λ d. record { process = p; given = d }) descriptors

abbrev pub owned_from : ℕ → List Start → List OwnedDescriptor
owned_from p [] = []
owned_from p (s ∷ starts) = owned_by p s.descriptors ++ owned_from (p + 1) starts

abbrev pub given_in : List OwnedDescriptor → ℕ → ℕ → Option FirstDescriptor
given_in [] p n = None
given_in (g ∷ owned) p n = put2 (given_in owned) g.process g.given.number (Some g.given) p n

-- An owned descriptor is at a number of a table, within all rights and commands; it is for reading or writing, or of a side of an initial
-- pair. No two are at one number.
abbrev pub is_opened : FirstObject → Bool
is_opened (On_node node access) = access.readable || access.writable
is_opened (On_end pair side) = nat_lt pair most_pairs && nat_lt side 2

abbrev pub is_owned : OwnedDescriptor → Bool
is_owned g =
    nat_lt g.process most_processes && nat_lt g.given.number most_descriptors && is_opened g.given.object
    && is_within g.given.rights all_rights && is_within g.given.fcntls all_commands

abbrev pub owned_differ : OwnedDescriptor → OwnedDescriptor → Bool
owned_differ g h = not ((g.process == h.process) && (g.given.number == h.given.number))

abbrev pub are_owned : List OwnedDescriptor → Bool
are_owned owned = list_all is_owned owned && all_apart owned_differ owned

-- if it is of a node, then of one of so many
abbrev pub is_below : ℕ → FirstObject → Bool
is_below nodes (On_node node access) = nat_lt node nodes
is_below nodes (On_end pair side) = true

abbrev pub are_among : ℕ → List OwnedDescriptor → Bool
are_among nodes owned = list_all (λ (g : OwnedDescriptor). is_below nodes g.given.object) owned

-- where the last of some is that is of a side of a pair
abbrev pub entry_of : OwnedDescriptor → Entry
entry_of g = record { process = g.process; number = g.given.number }

abbrev pub is_on : ℕ → ℕ → FirstObject → Bool
is_on pair side (On_node node access) = false
is_on pair side (On_end own its) = (own == pair) && (its == side)

abbrev pub later_or : Option Entry → Bool → OwnedDescriptor → Option Entry
later_or (Some e) here g = Some e
later_or None true g = Some (entry_of g)
later_or None false g = None

unfoldable pub last_owned : ℕ → ℕ → List OwnedDescriptor → Option Entry
last_owned pair side [] = None
last_owned pair side (g ∷ owned) = later_or (last_owned pair side owned) (is_on pair side g.given.object) g

-- Before its turn an entry is free. But the last one of each side has that end from the start, with all rights: the others
-- share its description before it is limited itself.
abbrev pub whole_end : ℕ → ℕ → Descriptor
whole_end pair side = descriptor_of (end_description pair side) all_rights all_commands

abbrev pub whole_or_none : Option Entry → ℕ → ℕ → Option Descriptor
whole_or_none None pair side = Some (whole_end pair side)
whole_or_none (Some e) pair side = None

abbrev pub waiting : List OwnedDescriptor → FirstObject → Option Descriptor
waiting later (On_node node access) = None
waiting later (On_end pair side) = whole_or_none (last_owned pair side later) pair side

-- it is there, and of that side of that pair
abbrev pub IsOwnedEnd : Option OwnedDescriptor → ℕ → ℕ → Type 0
IsOwnedEnd None pair side = ⊥
IsOwnedEnd (Some g) pair side = g.given.object ≡ On_end pair side

-- a table in which these wait
unfoldable pub awaiting : (ℕ → ℕ → Option Descriptor) → List OwnedDescriptor → ℕ → ℕ → Option Descriptor
awaiting table [] = table
awaiting table (g ∷ later) = put2 (awaiting table later) g.process g.given.number (waiting later g.given.object)

-- of a table the entries whose descriptions are below a number
abbrev pub if_below : ℕ → Option Descriptor → Option Descriptor
if_below bound None = None
if_below bound (Some d) = if nat_lt d.description bound then Some d else None

-- What is open differs from the model's in numbers alone, where the model has this table.
abbrev pub HasTable : List OwnedDescriptor → (ℕ → ℕ → Option Descriptor) → OpenFiles → Type 0
HasTable owned table f = DiffersInNumbers (world_with [] (with_table (first_files (given_in owned)) table) []) (world_with [] f [])

-- so many pairs are open, and nothing else
abbrev pub nothing_given : ℕ → ℕ → Option Descriptor
nothing_given p n = None

abbrev pub HasPairs : List OwnedDescriptor → ℕ → OpenFiles → Type 0
HasPairs owned pairs f = HasTable owned (λ p n. if_below (end_description pairs 0) (awaiting nothing_given owned p n)) f

-- these wait, and all others are as they are given
abbrev pub Awaits : List OwnedDescriptor → List OwnedDescriptor → OpenFiles → Type 0
Awaits owned later f = HasTable owned (awaiting (first_entries (given_in owned)) later) f
