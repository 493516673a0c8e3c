use Rattle.std.proofs.Common.{◌≡◌, List, [], ap, refl, sym, ◌∙◌, subst}
use Rattle.std.specs.Prelude.{◌||◌, not, Bool, option_map}
use Rattle.rights.specs.Uses.{acts_beneath}
use Rattle.rights.specs.Views.{operation_of}
use Rattle.file_tree.specs.Nodes.{is_dir, node}
use Rattle.fd_table.specs.Kept.{open_files}
use Rattle.kernel.specs.Answers.{Effect, does}
use Rattle.kernel.specs.Calls.{effects_by, effects_of_use, used}
use Rattle.syscalls.specs.AnswerViews.{Meets, world_at}
use Rattle.syscalls.proofs.kernels.Kernel.use_node.Goals as goal

pub returns-in-None : goal.returns-in-None
returns-in-None g c = λ s processes e same.
    let place = (node (g.T.Tree.nodes c.args.self.tree.now) c.args.n).place in
    let fits = not (acts_beneath c.args.right.0) || is_dir (node (g.T.Tree.nodes c.args.self.tree.now) c.args.n).kind in
    let w = world_at g.T.Tree.nodes c.args.self processes in
    let p = c.args.self.caller.number in
    let nothing : effects_of_use c.args.right.0 place ≡ [] =
    ap (λ o. effects_by o place) (sym c.operation_of_use.ensures ∙ ap (option_map operation_of) c.in-None.is) in
    let after = Meets w p (g.T.Tree.nodes c.used.new.self.0) (open_files c.used.new.self.1.0) c.used.result in
    subst (λ (did : List Effect). after (used w p s e fits did)) (sym nothing)
    (subst (λ (b : Bool). after (used w p s e b [])) c.fits-fits.ensures (c.used.ensures [] refl s processes e same))

pub returns-in-Some : goal.returns-in-Some
returns-in-Some g c = λ s processes e same.
    let place = (node (g.T.Tree.nodes c.args.self.tree.now) c.args.n).place in
    let fits = not (acts_beneath c.args.right.0) || is_dir (node (g.T.Tree.nodes c.args.self.tree.now) c.args.n).kind in
    let w = world_at g.T.Tree.nodes c.args.self processes in
    let p = c.args.self.caller.number in
    let one = does (operation_of c.in-Some.operation) place in
    let it : effects_of_use c.args.right.0 place ≡ one =
    ap (λ o. effects_by o place) (sym c.operation_of_use.ensures ∙ ap (option_map operation_of) c.in-Some.is) in
    let after = Meets w p (g.T.Tree.nodes c.used-in-Some.new.self.0) (open_files c.used-in-Some.new.self.1.0) c.used-in-Some.result in
    subst (λ (did : List Effect). after (used w p s e fits did)) (sym it)
    (subst (λ (b : Bool). after (used w p s e b one)) c.fits-fits.ensures (c.used-in-Some.ensures one refl s processes e same))
