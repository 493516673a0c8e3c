use Rattle.std.proofs.Common.{[], ◌∷◌, ◌+◌, ◌%◌, sym, ap, subst, ◌∙◌, arith}
use Rattle.std.specs.Prelude.{not}
use Rattle.file_tree.specs.Nodes.{node}
use Rattle.file_tree.specs.Changes.{written}
use Rattle.rights.specs.Operations as operations
use Rattle.syscalls.specs.Shows.{shown_at}
use Rattle.fd_table.specs.Kept.{open_files}
use Rattle.kernel.specs.Answers.{Fill}
use Rattle.kernel.specs.Calls.{write_at}
use Rattle.syscalls.specs.AnswerViews.{Succeeds, value_at, world_at}
use Rattle.syscalls.proofs.Tests.{passes, kept, below, mapped}
use Rattle.syscalls.proofs.Keeping.{filled_shows, filled_there, meets_with, write_succeeds}
use Rattle.syscalls.specs.declared.outcomes.Besides.TheVariants as besides
use Rattle.syscalls.proofs.kernels.Kernel.write_node.Goals as goal

pub returns : goal.returns
returns g c = λ s processes e same.
    let t = g.T.Tree.nodes c.args.self.tree.now in
    let p = c.args.self.caller.number in
    let f = open_files c.args.self.files.now in
    let w = world_at g.T.Tree.nodes c.args.self processes in
    let d = c.args.description in
    let n = c.args.found.node in
    let offset = c.write_offset-offset.result in
    let byte = c.byte_of-byte.result in
    let after = g.T.Tree.nodes c.put_byte.new.self in
    let left = open_files c.set_offset.new.self in
    let shows = shown_at operations.Write (node after n).place ∷ [] in
    let put = mapped _ _ c.put_byte.result c.map_err.result c.map_err.ensures.cases c.map_err.ensures.variant c.in_ok-map_err.was c.put_byte.ensures.ok in
    meets_with c.with_effects.ensures (filled_there t after n _ c.requires.there put) (subst (Succeeds w p after left 1 besides.Nothing shows)
    (sym (passes _ _ _ _ (ap not (sym c.is_directory.ensures ∙ c.if-is_directory.false)) ∙ passes _ _ _ _ (kept _ c.if-not-found.false)))
    (subst (λ o. Succeeds w p after left 1 besides.Nothing shows (write_at w p s e d n o (value_at c.args.self c.args.value % 256))) c.write_offset-offset.ensures
    (subst (λ v. Succeeds w p after left 1 besides.Nothing shows (write_at w p s e d n offset v)) c.byte_of-byte.ensures
    (write_succeeds w p after left 1 shows _ (Fill n (written (node t n).content offset byte)) c.args.description (record (f.states c.args.description) { offset = offset + 1 }) _
    (passes _ _ _ _ (below offset 4096 (omega arith)) ∙ passes _ _ _ _ (ap not (same ∙ c.if-self.false)))
    (filled_shows t after n _ operations.Write c.requires.there put) put c.set_offset.ensures))))
