use Rattle.std.proofs.Common.{◌≡◌, ◌≤◌, ◌-◌, take, drop}
use Rattle.file_tree.specs.Places.{names_from}
use Rattle.lookup.specs.Paths.{last_or, last_component}
use Rattle.lookup.proofs.paths.last_name.Given as goal

-- the last name of what is left, or else of what was read, is that of all
abbrev pub invariant-loop-i : goal.invariant-loop-i
invariant-loop-i l = record {
  within : l.from ≤ l.i;
  same : last_or l.last (names_from (take (l.i - l.from) (drop l.from l.path)) (drop l.i l.path)) ≡ last_component l.path;
}
