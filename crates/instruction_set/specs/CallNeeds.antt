-- What a call needs of its first descriptor, whatever its process has open.
use Rattle.std.specs.Prelude.{false}
use Rattle.rights.specs.Values.{RightSet, CommandSet}
use Rattle.rights.specs.Opens.{OpenRequest, no_request}
use Rattle.rights.specs.Needs.{First, command_needed, needs_of}
use Rattle.rights.specs.Uses.{companions_of}
use Rattle.instruction_set.specs.Programs.{Syscall, Openat, Use, called}

-- the flags that its needs go by
abbrev pub flags_in : Syscall → OpenRequest
flags_in (Openat x path f) = f
flags_in call = no_request

-- the rights that it needs of its only descriptor, or of the first of two (rights(4))
abbrev pub first_rights : Syscall → RightSet
first_rights (Use x right) = companions_of right
first_rights call = needs_of (called call) (flags_in call) First false

-- the fcntl command that it goes by (cap_fcntls_limit(2))
abbrev pub command_of : Syscall → CommandSet
command_of call = command_needed (called call)

-- the further right that it goes by
abbrev pub further_of : Syscall → RightSet
further_of (Use x right) = right
further_of call = 0
