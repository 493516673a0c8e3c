use Rattle.std.proofs.Common.{◌≡◌, ◌++◌, drop}
use Rattle.follow.specs.Numbers.{child_mappings}
use Rattle.follow.specs.Views.{mappings_seen}
use Rattle.follow.proofs.numbers.child_mappings.Given as goal

-- what is added, and then the mappings that are left
abbrev pub invariant-loop-mapping : goal.invariant-loop-mapping
invariant-loop-mapping l =
    mappings_seen l.added.items ++ child_mappings (mappings_seen (drop l.mapping-index l.mappings)) l.parent l.child ≡ child_mappings (mappings_seen l.mappings) l.parent l.child
