use Rattle.lookup.specs.UnderWay.{IsUnderWay}
use Rattle.lookup.specs.Views.{last_of, way_of}
use Rattle.lookup.proofs.UnderWay.{under_way_in_tree}
use Rattle.syscalls.proofs.Walked.{one_is}
use Rattle.syscalls.proofs.kernels.Kernel.step_of.Goals as goal

pub step_on-requires : goal.step_on-requires
step_on-requires g c =
    let t = g.T.Tree.nodes c.args.self.now.tree.now in
    let path = c.args.path.now in
    let way = way_of c.args.way in
    let last = last_of c.args.last in
    under_way_in_tree t path way last c.in-One.walk (one_is (IsUnderWay t path way last) c.args.walk c.in-Some.walking c.in-One.walk c.in-Some.is c.in-One.is c.requires.under)
