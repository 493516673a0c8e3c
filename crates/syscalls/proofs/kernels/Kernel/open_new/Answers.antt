use Rattle.std.proofs.Common.{[], ◌∷◌, sym, subst, ap, ◌∙◌, length, arith}
use Rattle.std.specs.Prelude.{not}
use Rattle.rights.specs.Operations as operations
use Rattle.file_tree.specs.Nodes.{File, node}
use Rattle.file_tree.specs.Places.{at_name}
use Rattle.fd_table.specs.Views.{access_asked}
use Rattle.fd_table.specs.Filled.{Opens}
use Rattle.fd_table.specs.Kept.{open_files}
use Rattle.kernel.specs.Answers.{Make}
use Rattle.syscalls.specs.Shows.{shown_at}
use Rattle.syscalls.specs.AnswerViews.{world_at}
use Rattle.syscalls.proofs.Tests.{passes, below}
use Rattle.syscalls.proofs.Keeping.{meets_with, open_succeeds, free_creates}
use Rattle.syscalls.proofs.kernels.Kernel.open_new.Goals as goal

pub create_node-requires-clause-allowed : goal.create_node-requires-clause-allowed
create_node-requires-clause-allowed g c = free_creates (g.T.Tree.nodes c.args.self.tree.now) c.args.dir c.args.name.now c.requires.linked c.requires.absent (omega arith)

pub returns : goal.returns
returns g c = λ s processes e same.
    let t = g.T.Tree.nodes c.args.self.tree.now in
    let w = world_at g.T.Tree.nodes c.args.self processes in
    let how = c.args.how.now in
    let place = at_name (node t c.args.dir).place c.args.name.now in
    let left = open_files c.open_node.new.self in
    let p = c.args.self.caller.number in
    meets_with c.with_effects.ensures c.in_ok-n.ensures.there
    (open_succeeds w p _ _ _ _ _ (Make place File) c.in_ok-number.number (length t) (access_asked how.flags) how.flags.append how.rights.0 how.fcntls.0 _
    (c.in_ok-number.ensures.passes _ ∙ passes _ _ _ _ (below _ 1024 (omega arith)) ∙ passes _ _ _ _ (ap not (same ∙ c.if-self.false)))
    (sym (ap (λ p. shown_at operations.Create p ∷ []) c.in_ok-n.ensures.place)) c.in_ok-n.ensures.tree
    (subst (λ n. Opens (open_files c.args.self.files.now) left p c.in_ok-number.number n
    (access_asked how.flags) how.flags.append how.rights.0 how.fcntls.0) c.in_ok-n.ensures.number c.in_ok-open_node.ensures.ok))
