use Rattle.std.proofs.Common.{◌≡◌, drop}
use Rattle.follow.specs.Numbers.{named, named_from}
use Rattle.follow.specs.Views.{mappings_seen}
use Rattle.follow.proofs.numbers.named.Given as goal

-- what was found so far, and then the mappings that are left
abbrev pub invariant-loop-mapping : goal.invariant-loop-mapping
invariant-loop-mapping l =
    named_from l.model (mappings_seen (drop l.mapping-index l.mappings)) l.process l.real ≡ named (mappings_seen l.mappings) l.process l.real
