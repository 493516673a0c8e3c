use Rattle.std.proofs.Common.{[], ◌∷◌, ap, refl, sym, subst, ◌∙◌}
use Rattle.rights.specs.Operations as operations
use Rattle.file_tree.specs.Nodes.{node}
use Rattle.file_tree.proofs.TreeLaws.{removed_length, removed_same}
use Rattle.lookup.specs.Promises.{IsFindingThere, IsUnderName}
use Rattle.lookup.specs.Views.{found_of}
use Rattle.kernel.specs.Answers.{Remove}
use Rattle.syscalls.specs.Shows.{shown_at}
use Rattle.syscalls.specs.AnswerViews.{world_at}
use Rattle.syscalls.proofs.Tests.{same_from}
use Rattle.syscalls.proofs.Keeping.{meets_with, tree_succeeds}
use Rattle.syscalls.proofs.Removing.{removes, refuses_full, told_full}
use Rattle.syscalls.proofs.Growth.{but_full, removal}
use Rattle.syscalls.proofs.kernels.Kernel.remove.Goals as goal

pub returns-in-Ok : goal.returns-in-Ok
returns-in-Ok g c = λ s processes e same.
    let p = c.args.self.caller.number in
    let t = g.T.Tree.nodes c.args.self.tree.now in
    let w = world_at g.T.Tree.nodes c.args.self processes in
    let there = subst (λ x. IsFindingThere t (found_of x)) c.in-Node.is c.requires.there in
    rw c.in-Node.is
    (meets_with c.with_effects.ensures (rw c.in-Ok.ensures.ok (rw (removed_length t c.in-Node.n) there.there)) (tree_succeeds w p _ 0 _ _ (Remove c.in-Node.n) _ c.requires.ready.idle
    (removes w p s e c.args.directory c.in-Node.n _
    (sym c.is_directory-is_directory.ensures ∙ same_from _ _ c.if-directory-is_directory.false) c.in-Ok.ensures.allowed)
    (sym (ap (λ after. shown_at operations.Remove (node after c.in-Node.n).place ∷ []) c.in-Ok.ensures.ok
    ∙ ap (λ m. shown_at operations.Remove m.place ∷ []) (removed_same t c.in-Node.n there.there)))
    c.in-Ok.ensures.ok))

pub returns-in-NotEmpty : goal.returns-in-NotEmpty
returns-in-NotEmpty g c = λ s processes e same.
    let p = c.args.self.caller.number in
    let t = g.T.Tree.nodes c.args.self.tree.now in
    let w = world_at g.T.Tree.nodes c.args.self processes in
    let there = subst (λ x. IsFindingThere t (found_of x)) c.in-Node.is c.requires.there in
    let named = subst (λ x. IsUnderName t c.requires.named.0 (found_of x)) c.in-Node.is c.requires.named.1 in
    rw c.in-Node.is (
      refuses_full w p s e c.args.directory c.in-Node.n _ _ c.requires.ready.tree there.linked named
          (sym c.is_directory-is_directory.ensures ∙ same_from _ _ c.if-directory-is_directory.false)
          (told_full _ _ c.in-Err.ensures.refused c.in-NotEmpty.is),
      record { tree = c.in-Err.ensures.err; files = refl },
    )

pub unreachable-requires : goal.unreachable-requires
unreachable-requires g c =
    let there = subst (λ x. IsFindingThere (g.T.Tree.nodes c.args.self.tree.now) (found_of x)) c.in-Node.is c.requires.there in
    let other = but_full c.in-Err.fault c.in-Exists.is in
    other.1 (removal (g.T.Tree.nodes c.args.self.tree.now) c.in-Node.n c.in-Err.fault there.linked other.0 c.in-Err.ensures.refused)
