use Rattle.fd_table.specs.Kept.{open_files}
use Rattle.syscalls.proofs.Targets.{target_there}
use Rattle.syscalls.proofs.kernels.Kernel.reach_through.Goals as goal

pub returns-clause-ready : goal.returns-clause-ready
returns-clause-ready g c =
    let k = c.args.self.now in
    let held = c.in_ok-held.ensures.held in
    record {
      named = held.named;
      ready = held.ready;
      there = target_there (g.T.Tree.nodes k.tree.now) (open_files k.files.now) c.in_ok-held.held.description c.target_of-target.result c.target_of-target.ensures held.named held.ready.0;
    }
