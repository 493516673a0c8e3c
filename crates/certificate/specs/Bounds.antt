-- What a certificate says: at each point of a program that may be reached, a bound on the process
-- there. (own)
use Rattle.std.specs.Prelude.{◌==◌, ◌&&◌, ◌-◌, ◌^◌, ℕ, Bool, true, false, List, [], ◌∷◌, slice_set, Option, Some, None, if◌then◌else◌}
use Rattle.std.specs.List.{slice_index_or}
use Rattle.std.specs.Str.{bytes_eq}
use Rattle.rights.specs.Values.{Name, DescriptorNumber, SideNumber, RightSet, CommandSet}
use Rattle.rights.specs.Classes.{Class}

-- whether a process is in capability mode
pub data ModeBound : Type 0 where
  Off : ModeBound
  On : ModeBound
  Either : ModeBound

-- the numbers from low to high, both of them too
pub record Interval : Type 0 where
  pub low : ℕ
  pub high : ℕ

-- What a descriptor is of: a node at or beneath the grant of this name, any file or directory, an end
-- of a socket pair of this class and side, or any of these.
pub data Target : Type 0 where
  In_grant : (name : Name) → Target
  Any_node : Target
  Socket : (class : Class) (side : SideNumber) → Target
  Unknown : Target

-- a descriptor's bound: what it is of, and the sets between which its rights and fcntl commands lie
pub record Held : Type 0 where
  pub target : Target
  pub least : RightSet
  pub greatest : RightSet
  pub least_fcntls : CommandSet
  pub greatest_fcntls : CommandSet

-- A number of a process's table is closed, or surely open, or open or closed.
pub data Slot : Type 0 where
  Closed : Slot
  Open : (held : Held) → Slot
  Maybe : (held : Held) → Slot

-- a process at one point: eight registers, and sixteen slots
pub record Bound : Type 0 where
  pub mode : ModeBound
  pub registers : List Interval
  pub slots : List Slot

pub record PointBound : Type 0 where
  pub program : Name
  pub point : ℕ
  pub bound : Bound

-- What one side of the pairs of a class sends: messages without descriptors, or with descriptors
-- within a bound.
pub record ChannelBound : Type 0 where
  pub class : Class
  pub side : SideNumber
  pub sends : Option Held

-- The most rights that a program's descriptors of nodes in a grant may have.
pub record Ceiling : Type 0 where
  pub grant : Name
  pub rights : RightSet

-- one side of the pairs of a class
pub record End : Type 0 where
  pub class : Class
  pub side : SideNumber

-- What a program may hold whatever it does: nodes in these grants with rights up to these, and these ends.
pub record Authority : Type 0 where
  pub program : Name
  pub ceilings : List Ceiling
  pub holds : List End

-- In version 1 each bound is written; in version 2 bounds are carried along between points where ways meet; in version
-- 3 they are too, and programs have authorities; and version 4 says of further rights which of them a descriptor has.
pub data Version : Type 0 where
  One : Version
  Two : Version
  Three : Version
  Four : Version

abbrev pub has_authorities : Version → Bool
has_authorities One = false
has_authorities Two = false
has_authorities Three = true
has_authorities Four = true

abbrev pub tells_further : Version → Bool
tells_further One = false
tells_further Two = false
tells_further Three = false
tells_further Four = true

pub record Certificate : Type 0 where
  pub version : Version
  pub points : List PointBound
  pub channels : List ChannelBound
  pub authorities : List Authority

-- all numbers of a register
abbrev pub full_interval : Interval
full_interval = record { low = 0; high = 2 ^ 32 - 1 }

abbrev pub interval : List Interval → ℕ → Interval
interval registers r = slice_index_or registers r full_interval

abbrev pub slot : List Slot → DescriptorNumber → Slot
slot slots n = slice_index_or slots n Closed

-- the bound with a register in another interval
abbrev pub with_interval : Bound → ℕ → Interval → Bound
with_interval b r i = record b { registers = slice_set b.registers r i }

-- the bound with a number of the table being otherwise
abbrev pub with_slot : Bound → DescriptorNumber → Slot → Bound
with_slot b n s = record b { slots = slice_set b.slots n s }

-- what a slot that may be open holds
abbrev pub held_in : Slot → Option Held
held_in Closed = None
held_in (Open h) = Some h
held_in (Maybe h) = Some h

-- the bound of a point of the program of this name, the first that is listed
unfoldable pub bound_in : List PointBound → Name → ℕ → Option Bound
bound_in [] program point = None
bound_in (b ∷ points) program point =
    if bytes_eq b.program program && (b.point == point) then Some b.bound else bound_in points program point

abbrev pub bound_at : Certificate → Name → ℕ → Option Bound
bound_at certificate program point = bound_in certificate.points program point
