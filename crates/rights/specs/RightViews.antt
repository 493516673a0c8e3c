-- What the rows of the code's tables by right stand for.
use Rattle.rights.specs.Values.{RightSet}
use Rattle.rights.specs.Operations.{Operation}
use Rattle.rights.specs.Views.{operation_of}
use Rattle.rights.specs.declared.operations.RightOperation.{RightOperation}
use Rattle.rights.specs.declared.uses.Companion.{Companion}

abbrev pub right_operation_seen : RightOperation → (RightSet × Operation)
right_operation_seen row = (row.right.0, operation_of row.operation)

abbrev pub companion_seen : Companion → (RightSet × RightSet)
companion_seen row = (row.right.0, row.beside.0)
