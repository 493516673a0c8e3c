use Rattle.std.proofs.Common.{◌<◌, sym, subst, ◌∙◌, ap, length, take}
use Rattle.std.specs.List.{slice_index_or}
use Rattle.file_tree.specs.Nodes.{Node, node}
use Rattle.file_tree.specs.Changes.{filled, written}
use Rattle.file_tree.proofs.TreeLaws.{filled_length, filled_same}
use Rattle.simulator.proofs.Built.{byte_more, filled_own}
use Rattle.simulator.proofs.building.write_content.Goals as goal

pub loop-at-init : goal.loop-at-init
loop-at-init g c = filled_own (g.T.Tree.nodes c.args.tree.now) c.args.file _ c.requires.empty

pub put_byte-requires-clause-there : goal.put_byte-requires-clause-there
put_byte-requires-clause-there g c = subst (λ n. c.args.file < n)
    (sym (ap length c.loop-at.invariant ∙ filled_length (g.T.Tree.nodes c.args.tree.now) c.args.file (take c.loop-at.at c.args.content.now)))
    c.requires.there

pub put_byte-requires-clause-file : goal.put_byte-requires-clause-file
put_byte-requires-clause-file g c =
    ap (λ t. (node t c.args.file).kind) c.loop-at.invariant
    ∙ ap (λ (m : Node). m.kind) (filled_same (g.T.Tree.nodes c.args.tree.now) c.args.file (take c.loop-at.at c.args.content.now) c.requires.there) ∙ c.requires.file

pub loop-at-preserved : goal.loop-at-preserved
loop-at-preserved g c =
    c.in-Ok.ensures.ok
    ∙ ap (λ t. filled t c.args.file (written (node t c.args.file).content c.loop-at.at (slice_index_or c.args.content.now c.loop-at.at 0))) c.loop-at.invariant
    ∙ byte_more (g.T.Tree.nodes c.args.tree.now) c.args.file c.loop-at.at c.args.content.now c.requires.there c.loop-at-test.true
