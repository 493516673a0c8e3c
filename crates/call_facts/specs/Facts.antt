-- What is known of a call before it is given anything. (own, after the manual pages that `Programs` of instruction_set names)
use Rattle.std.specs.Prelude.{◌||◌, ℕ, Bool, true, false, List, [], ◌∷◌, count_by}
use Rattle.rights.specs.Calls.{Call}
use Rattle.rights.specs.Calls as calls

-- What an argument of a call is for.
pub data Role : Type 0 where
  Descriptor : Role
  Path : Role
  Flags : Role  -- how a file is opened
  Rights : Role  -- what a limit leaves, or a use needs
  Commands : Role
  Amount : Role  -- a byte, an offset or a length
  Status : Role  -- status flags
  Choice : Role  -- whether a directory is what is removed

-- What a call works on.
pub data Scope : Type 0 where
  Mode : Scope  -- the mode of its process
  Table : Scope  -- the descriptors of its process, whatever they are of
  Object : Scope  -- what its first descriptor is of
  Of_node : Scope  -- the node that its first descriptor is of: by a socket it fails
  Root : Scope  -- names from the root, a global name space
  Beneath : Scope  -- names beneath its first descriptor, and beneath its second, if it has one
  System : Scope  -- nothing that its process has

-- What its success does to the descriptors of its process, or to the processes.
pub data TableChange : Type 0 where
  Unchanged : TableChange
  Opened : TableChange  -- a descriptor is made, with all rights
  Inherited : TableChange  -- one with the rights of its directory's
  Copied : TableChange  -- a copy of its first descriptor
  Received : TableChange  -- the descriptor of a message
  Pair : TableChange  -- both ends of a pair of sockets
  Child : TableChange  -- a process, with the same descriptors
  Freed : TableChange  -- its first descriptor's number is free
  Limited : TableChange  -- its first descriptor is limited

-- What its success may do to names of the tree.
pub data NameChange : Type 0 where
  Stays : NameChange
  Created : NameChange  -- makes one, where its flags say so
  Made_name : NameChange
  Removed : NameChange
  Moved : NameChange

-- What its success passes, where its first descriptor is an end of a pair.
pub data Passed : Type 0 where
  None_passed : Passed
  Byte_in : Passed
  Byte_out : Passed
  Descriptor_in : Passed
  Descriptor_out : Passed

-- What the number is with which it succeeds.
pub data Answer : Type 0 where
  Zero : Answer
  One : Answer  -- how many bytes it wrote or sent
  Byte : Answer  -- a byte that was read, or 256 at the end
  Offset : Answer
  Kind : Answer  -- a file, a directory or a socket
  Status_flags : Answer
  Mode_bit : Answer
  Number : Answer  -- a descriptor's
  Process : Answer  -- a child's, or 0 in the child

pub record Facts : Type 0 where
  pub roles : List Role  -- of its arguments, in their order
  pub scope : Scope
  pub table : TableChange
  pub names : NameChange
  pub passed : Passed
  pub answer : Answer

-- a call that changes and passes nothing
abbrev pub plain : List Role → Scope → Answer → Facts
plain roles scope answer = record { roles = roles; scope = scope; table = Unchanged; names = Stays; passed = None_passed; answer = answer }

-- one that makes this
abbrev pub making : List Role → Scope → TableChange → Answer → Facts
making roles scope table answer = record (plain roles scope answer) { table = table }

-- one that does this to its descriptor
abbrev pub changing : List Role → TableChange → Facts
changing roles table = record (plain roles Table Zero) { table = table }

-- one that changes names so
abbrev pub naming : List Role → Scope → NameChange → Facts
naming roles scope names = record (plain roles scope Zero) { names = names }

-- one that passes this
abbrev pub passing : List Role → Passed → Answer → Facts
passing roles passed answer = record (plain roles Object answer) { passed = passed }

abbrev pub facts_of : Call → Facts
facts_of calls.Open = record (making (Path ∷ Flags ∷ []) Root Opened Number) { names = Created }
facts_of calls.Openat = record (making (Descriptor ∷ Path ∷ Flags ∷ []) Beneath Inherited Number) { names = Created }
facts_of calls.Read = passing (Descriptor ∷ []) Byte_in Byte
facts_of calls.Write = passing (Descriptor ∷ Amount ∷ []) Byte_out One
facts_of calls.Sendfd = passing (Descriptor ∷ Descriptor ∷ Amount ∷ []) Descriptor_out One
facts_of calls.Recvfd = record (passing (Descriptor ∷ []) Descriptor_in Number) { table = Received }
facts_of calls.Lseek = plain (Descriptor ∷ Amount ∷ []) Of_node Offset
facts_of calls.Ftruncate = plain (Descriptor ∷ Amount ∷ []) Of_node Zero
facts_of calls.Fsync = plain (Descriptor ∷ []) Of_node Zero
facts_of calls.Fstat = plain (Descriptor ∷ []) Object Kind
facts_of calls.Fcntl_getfl = plain (Descriptor ∷ []) Object Status_flags
facts_of calls.Fcntl_setfl = plain (Descriptor ∷ Status ∷ []) Object Zero
facts_of calls.Fstatat = plain (Descriptor ∷ Path ∷ []) Beneath Kind
facts_of calls.Stat = plain (Path ∷ []) Root Kind
facts_of calls.Mkdirat = naming (Descriptor ∷ Path ∷ []) Beneath Made_name
facts_of calls.Mkdir = naming (Path ∷ []) Root Made_name
facts_of calls.Unlinkat = naming (Descriptor ∷ Path ∷ Choice ∷ []) Beneath Removed
facts_of calls.Unlink = naming (Path ∷ Choice ∷ []) Root Removed
facts_of calls.Renameat = naming (Descriptor ∷ Path ∷ Descriptor ∷ Path ∷ []) Beneath Moved
facts_of calls.Dup = making (Descriptor ∷ []) Table Copied Number
facts_of calls.Close = changing (Descriptor ∷ []) Freed
facts_of calls.Cap_rights_limit = changing (Descriptor ∷ Rights ∷ []) Limited
facts_of calls.Cap_fcntls_limit = changing (Descriptor ∷ Commands ∷ []) Limited
facts_of calls.Cap_enter = plain [] Mode Zero
facts_of calls.Cap_getmode = plain [] Mode Mode_bit
facts_of calls.Socketpair = making [] System Pair Number
facts_of calls.Fork = making [] System Child Process
facts_of calls.Use = plain (Descriptor ∷ Rights ∷ []) Object Zero

-- how many of its arguments are descriptors
abbrev pub is_descriptor : Role → Bool
is_descriptor Descriptor = true
is_descriptor _ = false

abbrev pub descriptor_count : Call → ℕ
descriptor_count call = count_by is_descriptor (facts_of call).roles

abbrev pub is_mode : Scope → Bool
is_mode Mode = true
is_mode _ = false

abbrev pub is_limited : TableChange → Bool
is_limited Limited = true
is_limited _ = false

abbrev pub is_freed : TableChange → Bool
is_freed Freed = true
is_freed _ = false

abbrev pub is_child : TableChange → Bool
is_child Child = true
is_child _ = false

abbrev pub is_moved : NameChange → Bool
is_moved Moved = true
is_moved _ = false

-- its descriptor's number is free afterwards; it makes a process; it moves a name; it is of the mode alone
abbrev pub frees : Call → Bool
frees call = is_freed (facts_of call).table

abbrev pub forks : Call → Bool
forks call = is_child (facts_of call).table

abbrev pub moves_name : Call → Bool
moves_name call = is_moved (facts_of call).names

abbrev pub concerns_mode : Call → Bool
concerns_mode call = is_mode (facts_of call).scope

-- it is for capability mode: the mode itself, or what a descriptor keeps in it
abbrev pub is_of_mode : Call → Bool
is_of_mode call = concerns_mode call || is_limited (facts_of call).table

-- the kernel may refuse it, as it takes room (ENFILE, ENOSPC, EAGAIN) or as any call that needs a further right
abbrev pub may_be_refused : Call → Bool
may_be_refused calls.Open = true
may_be_refused calls.Openat = true
may_be_refused calls.Read = false
may_be_refused calls.Write = true
may_be_refused calls.Sendfd = false
may_be_refused calls.Recvfd = false
may_be_refused calls.Lseek = false
may_be_refused calls.Ftruncate = false
may_be_refused calls.Fsync = false
may_be_refused calls.Fstat = false
may_be_refused calls.Fcntl_getfl = false
may_be_refused calls.Fcntl_setfl = false
may_be_refused calls.Fstatat = false
may_be_refused calls.Stat = false
may_be_refused calls.Mkdirat = true
may_be_refused calls.Mkdir = true
may_be_refused calls.Unlinkat = false
may_be_refused calls.Unlink = false
may_be_refused calls.Renameat = false
may_be_refused calls.Dup = false
may_be_refused calls.Close = false
may_be_refused calls.Cap_rights_limit = false
may_be_refused calls.Cap_fcntls_limit = false
may_be_refused calls.Cap_enter = false
may_be_refused calls.Cap_getmode = false
may_be_refused calls.Socketpair = true
may_be_refused calls.Fork = true
may_be_refused calls.Use = true

-- what does beneath a directory what a call by a path alone does; of another call itself
abbrev pub beneath : Call → Call
beneath calls.Open = calls.Openat
beneath calls.Openat = calls.Openat
beneath calls.Read = calls.Read
beneath calls.Write = calls.Write
beneath calls.Sendfd = calls.Sendfd
beneath calls.Recvfd = calls.Recvfd
beneath calls.Lseek = calls.Lseek
beneath calls.Ftruncate = calls.Ftruncate
beneath calls.Fsync = calls.Fsync
beneath calls.Fstat = calls.Fstat
beneath calls.Fcntl_getfl = calls.Fcntl_getfl
beneath calls.Fcntl_setfl = calls.Fcntl_setfl
beneath calls.Fstatat = calls.Fstatat
beneath calls.Stat = calls.Fstatat
beneath calls.Mkdirat = calls.Mkdirat
beneath calls.Mkdir = calls.Mkdirat
beneath calls.Unlinkat = calls.Unlinkat
beneath calls.Unlink = calls.Unlinkat
beneath calls.Renameat = calls.Renameat
beneath calls.Dup = calls.Dup
beneath calls.Close = calls.Close
beneath calls.Cap_rights_limit = calls.Cap_rights_limit
beneath calls.Cap_fcntls_limit = calls.Cap_fcntls_limit
beneath calls.Cap_enter = calls.Cap_enter
beneath calls.Cap_getmode = calls.Cap_getmode
beneath calls.Socketpair = calls.Socketpair
beneath calls.Fork = calls.Fork
beneath calls.Use = calls.Use
