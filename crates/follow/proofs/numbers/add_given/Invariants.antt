use Rattle.std.proofs.Common.{◌≡◌, ◌++◌, drop, map}
use Rattle.task.specs.Views.{first_descriptor_of}
use Rattle.follow.specs.Numbers.{given_mappings}
use Rattle.follow.specs.Views.{mappings_seen}
use Rattle.follow.proofs.numbers.add_given.Given as goal

-- what is added, and then the descriptors that are left
abbrev pub invariant-loop-given : goal.invariant-loop-given
invariant-loop-given l =
    mappings_seen l.mappings.items ++ given_mappings l.process (map first_descriptor_of (drop l.given-index l.descriptors))
    ≡ mappings_seen l.fn.mappings.items ++ given_mappings l.process (map first_descriptor_of l.descriptors)
