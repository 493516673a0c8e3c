use Rattle.std.proofs.Common.{◌≡◌, refl, sym, ◌+◌, ap, subst, ◌∙◌}
use Rattle.std.specs.Prelude.{not, None, Some}
use Rattle.fd_table.specs.OpenFiles.{Alike}
use Rattle.fd_table.specs.Filled.{with_offset}
use Rattle.fd_table.specs.Kept.{open_files}
use Rattle.file_tree.specs.Nodes.{node, byte_of}
use Rattle.kernel.specs.Calls.{read_byte}
use Rattle.syscalls.specs.AnswerViews.{world_at}
use Rattle.syscalls.proofs.Tests.{passes, kept}
use Rattle.syscalls.proofs.Keeping.{meets_with, same_succeeds, state_succeeds}
use Rattle.syscalls.proofs.kernels.Kernel.read_node.Goals as goal

pub returns-in-None : goal.returns-in-None
returns-in-None g c = λ s processes e same.
    let t = g.T.Tree.nodes c.args.self.tree.now in
    let p = c.args.self.caller.number in
    let w = world_at g.T.Tree.nodes c.args.self processes in
    let byte : byte_of t c.args.found.node ((open_files c.args.self.files.now).states c.args.description).offset ≡ None = ap
    (byte_of t c.args.found.node) (sym c.offset_of-offset.ensures) ∙ sym c.in-None.ensures in
    meets_with c.with_effects.ensures c.requires.there (same_succeeds w p _ _ _ _ c.requires.idle (passes _ _ _ _ (ap not (sym c.is_directory.ensures ∙ c.if-is_directory.false))
    ∙ passes _ _ _ _ (kept _ c.if-not-found.false) ∙ ap (read_byte w p s e c.args.description (node t c.args.found.node).place) byte)
    refl)

pub returns-in-Some : goal.returns-in-Some
returns-in-Some g c = λ s processes e same.
    let t = g.T.Tree.nodes c.args.self.tree.now in
    let p = c.args.self.caller.number in
    let w = world_at g.T.Tree.nodes c.args.self processes in
    let byte : byte_of t c.args.found.node ((open_files c.args.self.files.now).states c.args.description).offset ≡ Some c.in-Some.byte = ap
    (byte_of t c.args.found.node) (sym c.offset_of-offset.ensures) ∙ sym c.in-Some.ensures in
    meets_with c.with_effects-in-Some.ensures c.requires.there (state_succeeds w p _ _ _ _ c.args.description _ _ (passes _ _ _ _ (ap not (sym c.is_directory.ensures ∙ c.if-is_directory.false))
    ∙ passes _ _ _ _ (kept _ c.if-not-found.false) ∙ ap (read_byte w p s e c.args.description (node t c.args.found.node).place) byte)
    refl
    (subst (λ o. Alike (with_offset (open_files c.args.self.files.now) c.args.description (o + 1)) (open_files c.set_offset.new.self)) c.offset_of-offset.ensures c.set_offset.ensures))
