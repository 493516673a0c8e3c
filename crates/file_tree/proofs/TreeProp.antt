-- That a list is a tree has one proof at most, so that a type may keep it as a fact.
use Rattle.std.proofs.Common.{List}
use Rattle.std.proofs.Props.{props}
use Rattle.file_tree.specs.Nodes.{Node}
use Rattle.file_tree.specs.WellFormed.{IsTree}

pub IsTree-prop : (t : List Node) → IsProp (IsTree t)
IsTree-prop t = Prim.hlevel props
