use Rattle.std.proofs.Common.{ap}
use Rattle.std.proofs.lemmas.Result.{IfOk-weaker}
use Rattle.lookup.specs.Views.{found_of, last_of, way_of}
use Rattle.lookup.proofs.UnderWay.{Sure}
use Rattle.process.specs.Views.{walking_in}
use Rattle.syscalls.proofs.Finding.{found_so, look_sure}
use Rattle.syscalls.proofs.kernels.Kernel.look_up.Goals as goal

pub returns : goal.returns
returns g c =
    let t = g.T.Tree.nodes c.args.self.now.tree.now in
    let path = c.args.path.now in
    let last = last_of c.args.last in
    let r = c.step_of.result in
    let sure = look_sure t c.args.start path (way_of c.args.way) last (walking_in c.args.walk) r c.requires.tree c.requires.opened c.requires.under c.step_of.ensures in
    record {
      finds = c.step_of.ensures;
      found = IfOk-weaker r _ _ (λ found (is : Sure t path last (found_of found)). found_so t path last found is) sure;
      named = λ keep. IfOk-weaker r _ _ (λ found (is : Sure t path last (found_of found)). is.named (ap last_of keep)) sure;
    }
