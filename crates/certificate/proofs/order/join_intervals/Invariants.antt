use Rattle.std.proofs.Common.{length, ◌-◌}
use Rattle.certificate.specs.Joins.{interval_join}
use Rattle.certificate.specs.Views.{interval_of}
use Rattle.certificate.proofs.Joining.{JoinedTo}
use Rattle.certificate.proofs.order.join_intervals.Given as goal

-- the places before this one are joined
abbrev pub invariant-loop-at : goal.invariant-loop-at
invariant-loop-at l = JoinedTo interval_of interval_join l.at l.intervals l.others l.fn.intervals

abbrev pub decreases-loop-at : goal.decreases-loop-at
decreases-loop-at l = length l.others - l.at
