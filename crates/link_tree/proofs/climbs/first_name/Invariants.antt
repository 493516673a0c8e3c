use Rattle.std.proofs.Common.{◌≡◌, ◌≤◌, ◌-◌, take, drop}
use Rattle.file_tree.specs.Places.{names_from, path_components}
use Rattle.link_tree.proofs.climbs.first_name.Given as goal

-- the name that is begun, and what is left, are the path's names
abbrev pub invariant-loop-i : goal.invariant-loop-i
invariant-loop-i l = record {
  within : l.from ≤ l.i;
  same : names_from (take (l.i - l.from) (drop l.from l.path)) (drop l.i l.path) ≡ path_components l.path;
}
