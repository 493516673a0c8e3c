use Rattle.fd_table.specs.Kept.{open_files}
use Rattle.simulator.specs.OwnedViews.{owned_descriptors_of}
use Rattle.simulator.specs.Starts.{HasPairs}
use Rattle.simulator.proofs.starting.open_initials.Given as goal

-- the pairs before this one are open
abbrev pub invariant-loop-pair : goal.invariant-loop-pair
invariant-loop-pair l = HasPairs (owned_descriptors_of l.owned) l.pair (open_files l.files)
