-- The names of the operations, and lists of them.
use Rattle.std.specs.Prelude.{ℕ, Bool, true, false, List, codes}
use Rattle.std.specs.List.{list_any}
use Rattle.rights.specs.Operations.{Operation, Look, Read, Write, Create, Remove}

abbrev pub operation_name : Operation → List ℕ
operation_name Look = codes "look"
operation_name Read = codes "read"
operation_name Write = codes "write"
operation_name Create = codes "create"
operation_name Remove = codes "remove"

abbrev pub same_operation : Operation → Operation → Bool
same_operation Look Look = true
same_operation Read Read = true
same_operation Write Write = true
same_operation Create Create = true
same_operation Remove Remove = true
same_operation _ _ = false

-- whether the operation is among these
abbrev pub lists : List Operation → Operation → Bool
lists operations operation = list_any (same_operation operation) operations
