-- What is open, as lists, and what they stand for. (own)
use Rattle.std.specs.Prelude.{◌+◌, ◌*◌, ℕ, zero, suc, nat_lt, length, List, [], Option, Some, None, if◌then◌else◌, false}
use Rattle.std.specs.List.{slice_index_or}
use Rattle.rights.specs.Limits.{most_descriptors}
use Rattle.fd_table.specs.Descriptions.{Object, At_node, State, Descriptor, Message, new_state}
use Rattle.fd_table.specs.OpenFiles.{OpenFiles}

pub record Description : Type 0 where
  pub object : Object
  pub state : State

-- an open description, and how many entries and messages name it
pub record Counted : Type 0 where
  pub description : Description
  pub count : ℕ

-- A side of a pair: the number of the description that is of this end, while it is open, and what the
-- side has sent.
pub record Half : Type 0 where
  pub description : Option ℕ
  pub sent : List Message

pub record Pair : Type 0 where
  pub a : Half
  pub b : Half

-- Sixteen entries for each of sixteen processes, the descriptions by number, and the pairs by number.
pub record Kept : Type 0 where
  pub entries : List (Option Descriptor)
  pub descriptions : List (Option Counted)
  pub pairs : List (Option Pair)

abbrev pub entry_at : List (Option Descriptor) → ℕ → ℕ → Option Descriptor
entry_at entries p n = if nat_lt n most_descriptors then slice_index_or entries (p * most_descriptors + n) None else None

-- what is at a number, if anything is
abbrev pub item_at : {A : Type 0} → List (Option A) → ℕ → Option A
item_at slots n = slice_index_or slots n None

-- A number without a description counts as a node that is open for nothing.
abbrev pub object_in : Option Counted → Object
object_in None = At_node 0 (record { readable = false; writable = false })
object_in (Some h) = h.description.object

abbrev pub state_in : Option Counted → State
state_in None = new_state false
state_in (Some h) = h.description.state

abbrev pub no_half : Half
no_half = record { description = None; sent = [] }

abbrev pub half_in : Option Pair → ℕ → Half
half_in None side = no_half
half_in (Some p) zero = p.a
half_in (Some p) (suc zero) = p.b
half_in (Some p) (suc (suc side)) = no_half

abbrev pub queue : List (Option Pair) → ℕ → ℕ → List Message
queue pairs pair side = (half_in (item_at pairs pair) side).sent

-- the description of an end, while it is open
abbrev pub end_of : List (Option Pair) → ℕ → ℕ → Option ℕ
end_of pairs pair side = (half_in (item_at pairs pair) side).description

unfoldable pub open_files : Kept → OpenFiles
open_files k = record {
  objects = λ n. object_in (item_at k.descriptions n);
  states = λ n. state_in (item_at k.descriptions n);
  queue = queue k.pairs;
  pairs = length k.pairs;
  table = entry_at k.entries;
}
