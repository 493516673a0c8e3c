use Rattle.lookup.specs.Views.{fault_of}
use Rattle.lookup.specs.Walks.{handled}
use Rattle.syscalls.proofs.Walked.{last_of_fault}
use Rattle.syscalls.proofs.lookups.step_last.Goals as goal

pub returns : goal.returns
returns g c = last_of_fault c.refusal_of.result (fault_of c.in-Err.fault) c.refusal_of.ensures (handled (g.T.Tree.nodes c.args.tree.now) c.args.walk) c.in-Err.ensures.event
