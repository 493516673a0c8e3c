use Rattle.std.proofs.Common.{ap, sym, subst, ◌∙◌, [], ◌∷◌, arith}
use Rattle.std.specs.Prelude.{not}
use Rattle.rights.specs.Operations as operations
use Rattle.file_tree.specs.Nodes.{Dir, node}
use Rattle.file_tree.specs.Places.{at_name}
use Rattle.lookup.specs.Promises.{IsFindingThere, IsFreeName}
use Rattle.lookup.specs.Paths.{last_component}
use Rattle.lookup.specs.Views.{found_of}
use Rattle.kernel.specs.Answers.{Make}
use Rattle.kernel.specs.Changes.{tree_after}
use Rattle.syscalls.specs.Shows.{shown_at}
use Rattle.syscalls.specs.AnswerViews.{world_at}
use Rattle.syscalls.proofs.Keeping.{meets_with, tree_succeeds, free_creates}
use Rattle.syscalls.proofs.Tests.{passes, below}
use Rattle.syscalls.proofs.kernels.Kernel.make_directory.Goals as goal

pub create_node-requires-clause-allowed : goal.create_node-requires-clause-allowed
create_node-requires-clause-allowed g c =
    let t = g.T.Tree.nodes c.args.self.tree.now in
    let there = subst (λ x. IsFindingThere t (found_of x)) c.in-Free.is c.requires.found.there in
    let free = subst (λ x. IsFreeName t c.args.path.now (found_of x)) c.in-Free.is c.requires.found.free in
    rw c.last_name.ensures (free_creates t c.in-Free.dir (last_component c.args.path.now) there.linked free.absent (omega arith))

pub returns : goal.returns
returns g c = λ s processes e same.
    let p = c.args.self.caller.number in
    let t = g.T.Tree.nodes c.args.self.tree.now in
    let name = last_component c.args.path.now in
    rw c.in-Free.is
    (meets_with c.with_effects.ensures c.in_ok-n.ensures.there
    (tree_succeeds (world_at g.T.Tree.nodes c.args.self processes) p _ 0 _ _ (Make (at_name (node t c.in-Free.dir).place name) Dir) _ c.requires.ready.idle
    (passes _ _ _ _ (below _ 1024 (omega arith)) ∙ passes _ _ _ _ (ap not (same ∙ c.if-self.false)))
    (sym (ap (λ p. shown_at operations.Create p ∷ []) (c.in_ok-n.ensures.place ∙ ap (at_name (node t c.in-Free.dir).place) c.last_name.ensures)))
    (c.in_ok-n.ensures.tree ∙ ap (λ n. tree_after t (Make (at_name (node t c.in-Free.dir).place n) Dir)) c.last_name.ensures)))
