use Rattle.kernel.proofs.LaterEvents.{later_events_fail_late}
use Rattle.kernel.proofs.laws.later_events_fail_late.Goals as goal

pub returns : goal.returns
returns c = later_events_fail_late
