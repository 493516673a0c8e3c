use Rattle.std.proofs.Common.{◌≡◌, false, sym, refl, ap}
use Rattle.std.specs.Prelude.{not}
use Rattle.file_tree.specs.Nodes.{node}
use Rattle.file_tree.specs.Places.{at_name, same_place}
use Rattle.file_tree.proofs.TreeLaws.{renamed_length}
use Rattle.file_tree.proofs.KeptByRename.{may_rename}
use Rattle.kernel.specs.Answers.{Move}
use Rattle.syscalls.specs.AnswerViews.{world_at}
use Rattle.syscalls.proofs.Tests.{passes, fails}
use Rattle.syscalls.proofs.Renaming.{told_into, into_itself, other_place, free_place, renamed_place}
use Rattle.syscalls.proofs.Keeping.{meets_with, tree_succeeds}
use Rattle.syscalls.proofs.Growth.{but_into, into_free}
use Rattle.syscalls.proofs.kernels.Kernel.rename_free.Goals as goal

pub returns-in-IntoItself : goal.returns-in-IntoItself
returns-in-IntoItself g c = λ s processes e same.
    let t = g.T.Tree.nodes c.args.self.tree.now in
    (fails _ _ _ _ (ap not (into_itself t c.args.n c.args.dir c.args.name.now (told_into _ _ c.in-Err.ensures.refused c.in-IntoItself.is))), record { tree = c.in-Err.ensures.err; files = refl })

pub returns : goal.returns
returns g c = λ s processes e same.
    let p = c.args.self.caller.number in
    let t = g.T.Tree.nodes c.args.self.tree.now in
    let n = c.args.n in
    let d = c.args.dir in
    let name = c.args.name.now in
    let place = at_name (node t d).place name in
    let other : same_place place (node t n).place ≡ false = other_place t n place c.requires.linked (free_place t d name c.requires.dir_linked c.requires.free) in
    meets_with c.with_effects.ensures (rw (c.in-Ok.ensures.ok, renamed_length t n d name) c.requires.there)
    (tree_succeeds (world_at g.T.Tree.nodes c.args.self processes) p _ 0 _ _ (Move n place) _ c.requires.ready.idle
    (passes _ _ _ _ (ap not (may_rename t n d name c.in-Ok.ensures.allowed other).apart))
    (sym (rw (c.in_ok-from.ensures, c.in-Ok.ensures.ok, renamed_place t n d name c.requires.linked other) refl))
    c.in-Ok.ensures.ok)

pub unreachable-requires : goal.unreachable-requires
unreachable-requires g c =
    let other = but_into c.in-Err.fault c.in-Exists.is in
    other.1 (into_free (g.T.Tree.nodes c.args.self.tree.now) c.args.n c.args.dir c.args.name.now c.in-Err.fault c.requires.ready.tree c.requires.linked
    c.requires.dir_linked c.requires.free other.0 c.in-Err.ensures.refused)
