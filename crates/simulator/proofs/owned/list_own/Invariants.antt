use Rattle.std.proofs.Common.{◌≡◌, ◌++◌, drop, map}
use Rattle.task.specs.Views.{first_descriptor_of}
use Rattle.simulator.specs.OwnedViews.{owned_descriptors_of}
use Rattle.simulator.specs.Starts.{owned_by}
use Rattle.simulator.proofs.owned.list_own.Given as goal

-- what was listed, and then what is left
abbrev pub invariant-loop-given : goal.invariant-loop-given
invariant-loop-given l =
    owned_descriptors_of l.owned.items ++ owned_by l.process (map first_descriptor_of (drop l.given-index l.descriptors))
    ≡ owned_descriptors_of l.initial.owned.items ++ owned_by l.process (map first_descriptor_of l.descriptors)
