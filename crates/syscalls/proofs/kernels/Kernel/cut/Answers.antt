use Rattle.std.proofs.Common.{[], ◌∷◌, subst, ◌∙◌, arith}
use Rattle.rights.specs.Operations as operations
use Rattle.file_tree.specs.Nodes.{node}
use Rattle.file_tree.specs.Changes.{resized}
use Rattle.fd_table.specs.Views.{access_seen}
use Rattle.kernel.specs.Answers.{Fill}
use Rattle.kernel.specs.Calls.{resizes}
use Rattle.fd_table.specs.Kept.{open_files}
use Rattle.syscalls.specs.Shows.{shown_at}
use Rattle.syscalls.specs.AnswerViews.{Succeeds, world_at}
use Rattle.syscalls.proofs.Tests.{passes, kept, at_most, mapped}
use Rattle.syscalls.proofs.Keeping.{filled_shows, filled_there, meets_with, tree_succeeds}
use Rattle.syscalls.specs.declared.outcomes.Besides.TheVariants as besides
use Rattle.syscalls.proofs.kernels.Kernel.cut.Goals as goal

pub returns : goal.returns
returns g c = λ s processes e same.
    let f = open_files c.args.self.files.now in
    let p = c.args.self.caller.number in
    let t = g.T.Tree.nodes c.args.self.tree.now in
    let w = world_at g.T.Tree.nodes c.args.self processes in
    let n = c.args.file.node in
    let access = access_seen c.args.file.access in
    let len = c.value_of-len.result in
    let after = g.T.Tree.nodes c.truncate.new.self in
    let cut = mapped _ _ c.truncate.result c.map_err.result c.map_err.ensures.cases c.map_err.ensures.variant c.in_ok-map_err.was c.truncate.ensures.ok in
    meets_with c.with_effects.ensures (filled_there t after n _ c.requires.there cut)
    (subst (λ v. Succeeds w p after f 0 besides.Nothing (shown_at operations.Write (node after n).place ∷ []) (resizes w p s e n access v)) c.value_of-len.ensures
    (tree_succeeds w p _ 0 _ _ (Fill n (resized (node t n).content len)) _ c.requires.idle
    (passes _ _ _ _ (kept _ c.if-not-file.false) ∙ passes _ _ _ _ (at_most len 4096 (omega arith)))
    (filled_shows t after n _ operations.Write c.requires.there cut) cut))
