use Rattle.lookup.specs.Views.{fault_of}
use Rattle.lookup.specs.Walks.{handled}
use Rattle.syscalls.proofs.Walked.{lost_of}
use Rattle.syscalls.proofs.lookups.step_before_last.Goals as goal

pub returns-in-Err : goal.returns-in-Err
returns-in-Err g c = lost_of c.refusal_of.result (fault_of c.in-Err.fault) c.refusal_of.ensures (handled (g.T.Tree.nodes c.args.tree.now) c.args.walk) c.in-Err.ensures.event
