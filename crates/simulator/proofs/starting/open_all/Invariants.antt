use Rattle.std.proofs.Common.{drop}
use Rattle.fd_table.specs.Kept.{open_files}
use Rattle.simulator.specs.OwnedViews.{owned_descriptors_of}
use Rattle.simulator.specs.Starts.{Awaits}
use Rattle.simulator.proofs.starting.open_all.Given as goal

-- the descriptors before this one are open
abbrev pub invariant-loop-at : goal.invariant-loop-at
invariant-loop-at l = Awaits (owned_descriptors_of l.owned.items) (drop l.at (owned_descriptors_of l.owned.items)) (open_files l.files)
