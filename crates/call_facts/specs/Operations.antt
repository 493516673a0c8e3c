-- What a call may do, as a policy counts it, to what each of its descriptors is of, or beneath it; and what may be done by what it opens. (own)
use Rattle.std.specs.Prelude.{◌++◌, Bool, true, false, List, [], ◌∷◌, Option, Some, None}
use Rattle.rights.specs.Calls.{Call}
use Rattle.rights.specs.Calls as calls
use Rattle.rights.specs.Opens.{OpenRequest}
use Rattle.rights.specs.Uses.{operation_of_use}
use Rattle.rights.specs.Values.{RightSet}
use Rattle.rights.specs.Operations.{Operation, Look, Read, Write, Create, Remove}

abbrev pub only_if : Bool → Operation → List Operation
only_if true operation = operation ∷ []
only_if false operation = []

-- opening itself creates and truncates
abbrev pub opening : OpenRequest → List Operation
opening f = only_if f.create Create ++ only_if f.trunc Write

abbrev pub operation_alone : Option Operation → List Operation
operation_alone None = []
operation_alone (Some operation) = operation ∷ []

-- of its only descriptor or the first of two, or of the root; `use` goes by its further right
abbrev pub first_operations : Call → OpenRequest → RightSet → List Operation
first_operations calls.Open f right = opening f
first_operations calls.Openat f right = opening f
first_operations calls.Read f right = Read ∷ []
first_operations calls.Write f right = Write ∷ []
first_operations calls.Sendfd f right = []
first_operations calls.Recvfd f right = []
first_operations calls.Lseek f right = []
first_operations calls.Ftruncate f right = Write ∷ []
first_operations calls.Fsync f right = []
first_operations calls.Fstat f right = Look ∷ []
first_operations calls.Fcntl_getfl f right = []
first_operations calls.Fcntl_setfl f right = []
first_operations calls.Fstatat f right = Look ∷ []
first_operations calls.Stat f right = Look ∷ []
first_operations calls.Mkdirat f right = Create ∷ []
first_operations calls.Mkdir f right = Create ∷ []
first_operations calls.Unlinkat f right = Remove ∷ []
first_operations calls.Unlink f right = Remove ∷ []
first_operations calls.Renameat f right = Remove ∷ []
first_operations calls.Dup f right = []
first_operations calls.Close f right = []
first_operations calls.Cap_rights_limit f right = []
first_operations calls.Cap_fcntls_limit f right = []
first_operations calls.Cap_enter f right = []
first_operations calls.Cap_getmode f right = []
first_operations calls.Socketpair f right = []
first_operations calls.Fork f right = []
first_operations calls.Use f right = operation_alone (operation_of_use right)
