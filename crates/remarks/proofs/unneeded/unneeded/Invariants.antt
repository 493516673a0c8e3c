use Rattle.std.proofs.Common.{◌≡◌, filter, map, take}
use Rattle.rights.specs.Views.{operation_of}
use Rattle.task.specs.Views.{grant_of}
use Rattle.remarks.specs.Unneeded.{is_unneeded}
use Rattle.remarks.proofs.unneeded.unneeded.Given as goal

-- of the operations so far those that nothing needs are there
abbrev pub invariant-loop-operation : goal.invariant-loop-operation
invariant-loop-operation l =
    map operation_of l.found.items
    ≡ filter (is_unneeded l.task l.cert (grant_of l.grant).name) (map operation_of (take l.operation-index l.grant.operations.items))
