-- What a lookup is asked for, and what it gives.
use Rattle.std.specs.Prelude.{Bool, true, false, List, [], ◌∷◌, if◌then◌else◌}
use Rattle.rights.specs.Values.{Name, NodeNumber}

-- Beneath the directory of a descriptor (capsicum(4); open(2), O_RESOLVE_BENEATH), or in all of the tree.
pub data Way : Type 0 where
  Beneath : Way
  Global : Way

-- Whether a link at the last name is followed, or the last name is kept as it is, a link or a name that no
-- node has yet. (open(2), O_NOFOLLOW; own)
pub data Last : Type 0 where
  Follow : Last
  Keep : Last

-- whether a name is kept, by the names that follow it
abbrev pub is_kept : Last → List Name → Bool
is_kept Follow left = false
is_kept Keep [] = true
is_kept Keep (name ∷ left) = false

-- Why a path leads to nothing: ENOTCAPABLE, ENOENT, ENOTDIR, ELOOP, ENAMETOOLONG (open(2)), and EINVAL
-- for a last name that can't be kept (own).
pub data LookupFault : Type 0 where
  Escape : LookupFault
  No_entry : LookupFault
  Not_dir : LookupFault
  Loop : LookupFault
  Too_long : LookupFault
  Bad_last : LookupFault

-- A node, the directory in which the last name is free, or a fault.
pub data Finding : Type 0 where
  Found_node : NodeNumber → Finding
  Found_free : NodeNumber → Finding
  Not_found : LookupFault → Finding

-- an absent name is free if it is kept, and else there is no such entry
abbrev pub absent : Last → List Name → NodeNumber → Finding
absent last left d = if is_kept last left then Found_free d else Not_found No_entry
