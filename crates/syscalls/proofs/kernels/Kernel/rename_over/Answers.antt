use Rattle.std.proofs.Common.{◌≡◌, false, sym, refl, ap, ◌∙◌}
use Rattle.std.specs.Prelude.{not}
use Rattle.file_tree.specs.Nodes.{node, has_below}
use Rattle.file_tree.specs.Places.{at_name, begins, same_place}
use Rattle.file_tree.proofs.TreeLaws.{renamed_length, parent_is, parent_is_directory}
use Rattle.file_tree.proofs.NodeLaws.{linked_there}
use Rattle.file_tree.proofs.KeptByRename.{may_rename}
use Rattle.kernel.specs.Answers.{Move}
use Rattle.kernel.specs.Changes.{tree_after}
use Rattle.syscalls.specs.AnswerViews.{world_at}
use Rattle.syscalls.proofs.Tests.{passes, fails, same_from}
use Rattle.syscalls.proofs.Renaming.{told_full, is_full, over_rest, apart_places, named_place, renamed_place}
use Rattle.syscalls.proofs.Keeping.{meets_with, tree_succeeds}
use Rattle.syscalls.proofs.Growth.{but_full, over_node}
use Rattle.syscalls.proofs.kernels.Kernel.rename_over.Goals as goal

pub rename-requires-clause-dir_there : goal.rename-requires-clause-dir_there
rename-requires-clause-dir_there g c =
    let t = g.T.Tree.nodes c.args.self.tree.now in
    linked_there t c.in-Some.dir (parent_is t c.args.over c.in-Some.dir (sym c.in-Some.ensures)).holder.linked

pub rename-requires-clause-directory : goal.rename-requires-clause-directory
rename-requires-clause-directory g c = parent_is_directory (g.T.Tree.nodes c.args.self.tree.now) c.args.over c.in-Some.dir c.requires.ready.tree (sym c.in-Some.ensures)

pub returns-in-NotEmpty : goal.returns-in-NotEmpty
returns-in-NotEmpty g c = λ s processes e same.
    let p = c.args.self.caller.number in
    let t = g.T.Tree.nodes c.args.self.tree.now in
    let n = c.args.n in
    let m = c.args.over in
    let d = c.in-Some.dir in
    let name = c.args.name.now in
    let place : (node t m).place ≡ at_name (node t d).place name = named_place t m d name c.requires.named c.in-Some.ensures in
    let full : has_below t (node t m).place ≡ has_below t (at_name (node t d).place name) = ap (has_below t) place in (
      over_rest (world_at g.T.Tree.nodes c.args.self processes) p s e n m (sym c.is_within.ensures ∙ c.if-is_within.false)
          (sym c.is_directory-moves_directory.ensures ∙ sym (same_from _ _ c.if-moves_directory-is_directory.false) ∙ c.is_directory.ensures)
          ∙ fails _ _ _ _ (ap not (full ∙ is_full t n d name (told_full _ _ c.in-Err.ensures.refused c.in-NotEmpty.is))),
      record { tree = c.in-Err.ensures.err; files = refl },
    )

pub returns : goal.returns
returns g c = λ s processes e same.
    let p = c.args.self.caller.number in
    let t = g.T.Tree.nodes c.args.self.tree.now in
    let n = c.args.n in
    let m = c.args.over in
    let d = c.in-Some.dir in
    let name = c.args.name.now in
    let to = at_name (node t d).place name in
    let place : (node t m).place ≡ to = named_place t m d name c.requires.named c.in-Some.ensures in
    let other : same_place to (node t n).place ≡ false = ap (λ p. same_place p (node t n).place) (sym place)
    ∙ apart_places t n m c.requires.ready.tree c.requires.linked c.requires.over_linked c.requires.other in
    let may = may_rename t n d name c.in-Ok.ensures.allowed other in
    meets_with c.with_effects.ensures (rw (c.in-Ok.ensures.ok, renamed_length t n d name) c.requires.there)
    (tree_succeeds (world_at g.T.Tree.nodes c.args.self processes) p _ 0 _ _ (Move n (node t m).place) _ c.requires.ready.idle
    (over_rest (world_at g.T.Tree.nodes c.args.self processes) p s e n m (sym c.is_within.ensures ∙ c.if-is_within.false)
    (sym c.is_directory-moves_directory.ensures ∙ sym (same_from _ _ c.if-moves_directory-is_directory.false) ∙ c.is_directory.ensures)
    ∙ passes _ _ _ _ (ap not (ap (has_below t) place ∙ may.empty)))
    (sym (rw (c.in_ok-from.ensures, c.in-Ok.ensures.ok, renamed_place t n d name c.requires.linked other, place) refl))
    (c.in-Ok.ensures.ok ∙ ap (λ p. tree_after t (Move n p)) (sym place)))

pub unreachable-requires-in-Exists : goal.unreachable-requires-in-Exists
unreachable-requires-in-Exists g c =
    let t = g.T.Tree.nodes c.args.self.tree.now in
    let place : (node t c.args.over).place ≡ at_name (node t c.in-Some.dir).place c.args.name.now = named_place t c.args.over c.in-Some.dir c.args.name.now c.requires.named c.in-Some.ensures in
    let other = but_full c.in-Err.fault c.in-Exists.is in
    other.1 (over_node t c.args.n c.in-Some.dir c.args.name.now c.in-Err.fault c.requires.linked (parent_is t c.args.over c.in-Some.dir (sym c.in-Some.ensures)).holder.linked
    (ap (begins (node t c.args.n).place) (sym place) ∙ sym c.is_within.ensures ∙ c.if-is_within.false) other.0 c.in-Err.ensures.refused)
