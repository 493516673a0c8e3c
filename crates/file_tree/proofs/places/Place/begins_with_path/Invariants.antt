use Rattle.std.proofs.Common.{◌≡◌, ◌≤◌, ◌-◌, take, drop}
use Rattle.file_tree.specs.Places.{begins, names_from, path_components}
use Rattle.file_tree.proofs.places.Place.begins_with_path.Given as goal

-- whether the names that are left begin with what is left of the path decides it
abbrev pub invariant-loop-i : goal.invariant-loop-i
invariant-loop-i l = record {
  within : l.from ≤ l.i;
  same : begins (names_from (take (l.i - l.from) (drop l.from l.path)) (drop l.i l.path)) l.names ≡ begins (path_components l.path) l.fn.self;
}
