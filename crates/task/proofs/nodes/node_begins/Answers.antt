use Rattle.std.proofs.Common.{◌≡◌, [], ap, ◌∙◌, arith}
use Rattle.std.proofs.lemmas.Grind.{common_steps}
use Rattle.file_tree.specs.Nodes.{node}
use Rattle.file_tree.specs.Places.{begins}
use Rattle.file_tree.proofs.PlaceLaws.{begins_root}
use Rattle.task.specs.Views.{nodes_of}
use Rattle.task.proofs.nodes.node_begins.Goals as goal

pub returns-in-None : goal.returns-in-None
returns-in-None c =
    let nowhere : [] ≡ (node (nodes_of c.args.nodes.now) c.args.number).place = grind (arith, common_steps) in
    c.is_root.ensures ∙ begins_root c.args.front.now ∙ ap (begins c.args.front.now) nowhere
