-- What becomes of what is open, call by call. (dup(2), fork(2), close(2), open(2), socketpair(2), sendmsg(2), recvmsg(2),
-- cap_rights_limit(2))
use Rattle.std.specs.Prelude.{◌≡◌, ◌≢◌, ◌++◌, ◌<◌, ℕ, Bool, true, false, nat_lt, List, [], ◌∷◌, length, drop, Option, Some, None, is_some, if◌then◌else◌}
use Rattle.std.specs.List.{slice_get}
use Rattle.std.specs.Option.{option_map}
use Rattle.rights.specs.Limits.{most_messages, most_processes, most_descriptors}
use Rattle.rights.specs.Sets.{all_rights, all_commands, is_within}
use Rattle.rights.specs.Maps.{put, put2}
use Rattle.rights.specs.Sides.{other_side}
use Rattle.fd_table.specs.Descriptions.{Access, PairClass, At_end, State, Descriptor, Message, descriptor_of}
use Rattle.fd_table.specs.Openings.{with_table, with_entry, described, with_opened}
use Rattle.fd_table.specs.OpenFiles.{OpenFiles, IsUnnamed, IsUnused, Alike, is_open}

-- nothing is open and nothing queued
abbrev pub IsEmpty : OpenFiles → Type 0
IsEmpty f = ((p n : ℕ) → f.table p n ≡ None) × ((pair side : ℕ) → f.queue pair side ≡ [])

-- all entries of process p
abbrev pub with_row : OpenFiles → ℕ → (ℕ → Option Descriptor) → OpenFiles
with_row f p row = with_table f (put f.table p row)

abbrev pub with_state : OpenFiles → ℕ → State → OpenFiles
with_state f n state = record f { states = put f.states n state }

abbrev pub with_queue : OpenFiles → ℕ → ℕ → List Message → OpenFiles
with_queue f pair side messages = record f { queue = put2 f.queue pair side messages }

-- the state of a description at another offset, or with other status flags
abbrev pub with_offset : OpenFiles → ℕ → ℕ → OpenFiles
with_offset f n offset = with_state f n (record (f.states n) { offset = offset })

abbrev pub with_flags : OpenFiles → ℕ → Bool → Bool → OpenFiles
with_flags f n append nonblock = with_state f n (record (f.states n) { append = append; nonblock = nonblock })

-- a descriptor with other rights and commands, and whether they are within those that it has
abbrev pub with_limit : OpenFiles → ℕ → ℕ → ℕ → ℕ → OpenFiles
with_limit f p n rights fcntls = with_entry f p n (option_map (λ (d : Descriptor). record d { rights = rights; fcntls = fcntls }) (f.table p n))

abbrev pub MayLimit : Option Descriptor → ℕ → ℕ → Type 0
MayLimit None rights fcntls = ⊥
MayLimit (Some d) rights fcntls = (is_within rights d.rights ≡ true) × (is_within fcntls d.fcntls ≡ true)

pub record Opens (f g : OpenFiles) (p n node : ℕ) (access : Access) (append : Bool) (rights fcntls : ℕ) : Type 0 where
  pub description : ℕ
  pub fresh : IsUnnamed f description
  pub alike : Alike (with_opened f description p n node access append rights fcntls) g

-- Where an end of a pair goes: to an entry, or nowhere.
pub record Entry : Type 0 where
  pub process : ℕ
  pub number : ℕ

abbrev pub end_entered : (ℕ → ℕ → Option Descriptor) → Option Entry → ℕ → ℕ → ℕ → Option Descriptor
end_entered table None description = table
end_entered table (Some e) description = put2 table e.process e.number (Some (descriptor_of description all_rights all_commands))

abbrev pub with_end : OpenFiles → ℕ → Option Entry → OpenFiles
with_end f description to = with_table f (end_entered f.table to description)

-- Both ends of a pair that nobody uses, with all rights.
abbrev pub paired : OpenFiles → ℕ → ℕ → ℕ → PairClass → Option Entry → Option Entry → OpenFiles
paired f first second pair class a b =
    with_end (with_end (described (described f first (At_end pair 0 class) false) second (At_end pair 1 class) false) first a) second b

pub record Pairs (f g : OpenFiles) (class : PairClass) (a b : Option Entry) : Type 0 where
  pub first : ℕ
  pub second : ℕ
  pub pair : ℕ
  pub first_fresh : IsUnnamed f first
  pub second_fresh : IsUnnamed f second
  pub apart : first ≢ second
  pub unused : IsUnused f pair
  pub alike : Alike (paired f first second pair class a b) g

-- Which entries and descriptions are there.
abbrev pub IsFreeAt : OpenFiles → ℕ → ℕ → Type 0
IsFreeAt f p n = (p < most_processes) × (n < most_descriptors) × (f.table p n ≡ None)

abbrev pub IsFree : OpenFiles → Option Entry → Type 0
IsFree f None = Unit {0}
IsFree f (Some e) = IsFreeAt f e.process e.number

abbrev pub AreApart : Option Entry → Option Entry → Type 0
AreApart None None = ⊥
AreApart None (Some b) = Unit {0}
AreApart (Some a) None = Unit {0}
AreApart (Some a) (Some b) = a ≢ b

-- some entry names the description, or some message on its way
pub data IsNamed (f : OpenFiles) (description : ℕ) : Type 0 where
  by_entry : (process number : ℕ) (d : Descriptor) → f.table process number ≡ Some d → d.description ≡ description → IsNamed f description
  by_message : (pair side at : ℕ) (m : Message) (d : Descriptor) → slice_get (f.queue pair side) at ≡ Some m → m.passed ≡ Some d → d.description ≡ description → IsNamed f description

abbrev pub MayPass : OpenFiles → Option Descriptor → Type 0
MayPass f None = Unit {0}
MayPass f (Some d) = IsNamed f d.description

-- some description that is named is of an end of that pair and side
pub record IsEndThere (f : OpenFiles) (pair side : ℕ) : Type 0 where
  pub description : ℕ
  pub class : PairClass
  pub named : IsNamed f description
  pub is : f.objects description ≡ At_end pair side class

-- Sending. A message that finds no other end is told so before a full queue. (own)
pub data SendRefusal : Type 0 where
  Closed : SendRefusal
  Full : SendRefusal

abbrev pub send_refusal : OpenFiles → ℕ → ℕ → Option SendRefusal
send_refusal f pair side =
    if is_open f pair (other_side side)
    then (if nat_lt (length (f.queue pair side)) most_messages then None else Some Full)
    else Some Closed

abbrev pub sent : OpenFiles → ℕ → ℕ → Message → OpenFiles
sent f pair side message = with_queue f pair side (f.queue pair side ++ message ∷ [])

-- Receiving: what a side gets is what the other sent.
pub record Front : Type 0 where
  pub byte : ℕ
  pub carries : Bool  -- whether it carries a descriptor

abbrev pub front_shown : List Message → Option Front
front_shown [] = None
front_shown (m ∷ messages) = Some (record { byte = m.byte; carries = is_some m.passed })

abbrev pub front_byte : List Message → Option ℕ
front_byte [] = None
front_byte (m ∷ messages) = Some m.byte

abbrev pub front_passed : List Message → Option Descriptor
front_passed [] = None
front_passed (m ∷ messages) = m.passed

abbrev pub with_received : OpenFiles → ℕ → ℕ → OpenFiles
with_received f pair side = with_queue f pair (other_side side) (drop 1 (f.queue pair (other_side side)))

abbrev pub taken_to : OpenFiles → ℕ → ℕ → ℕ → ℕ → OpenFiles
taken_to f pair side p n = with_entry (with_received f pair side) p n (front_passed (f.queue pair (other_side side)))
