use Rattle.std.proofs.Common.{ap, sym, subst, ◌∙◌}
use Rattle.std.proofs.lemmas.Result.{err_from_is_err_and}
use Rattle.task_reader.specs.FaultViews.{FaultIs}
use Rattle.task_reader.specs.Reading.{Wrong_node, or_mistake, tree_from}
use Rattle.task_reader.specs.WrittenViews.{nodes_seen}
use Rattle.task_reader.proofs.trees.make_tree.Goals as goal

pub returns-in_err-add_nodes-clause-tree : goal.returns-in_err-add_nodes-clause-tree
returns-in_err-add_nodes-clause-tree c =
    let p = err_from_is_err_and c.from_residual-in_err-add_nodes.result c.from_residual-in_err-add_nodes.ensures.1 in
    let error = c.in_err-add_nodes.field-0.0 in
    rw (p.1, p.2) (subst (λ root. FaultIs error (or_mistake Wrong_node (tree_from root (nodes_seen c.args.written.now)))) c.in_ok-tree.ensures.nodes c.in_err-add_nodes.ensures.tree)

pub returns-clause-tree : goal.returns-clause-tree
returns-clause-tree c =
    ap (λ root. or_mistake Wrong_node (tree_from root (nodes_seen c.args.written.now))) (sym c.in_ok-tree.ensures.nodes) ∙ c.in_ok-add_nodes.ensures.tree
