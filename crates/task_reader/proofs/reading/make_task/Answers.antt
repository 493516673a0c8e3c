use Rattle.std.proofs.Common.{◌≡◌, Some, Ok, List, ap, sym, subst, ◌∙◌}
use Rattle.std.proofs.lemmas.Result.{err_from_is_err_and}
use Rattle.file_tree.specs.Nodes.{Node}
use Rattle.task_reader.specs.FaultViews.{FaultIs}
use Rattle.task_reader.specs.PlacedViews.{plan_on}
use Rattle.task_reader.specs.Reading.{Wrong_node, or_mistake, tree_of}
use Rattle.task_reader.specs.declared.written.WrittenNode.{WrittenNode as NodeCode}
use Rattle.task_reader.specs.declared.written.WrittenTask.{WrittenTask as TaskCode}
use Rattle.task.specs.Views.{nodes_of}
use Rattle.task_reader.specs.WrittenViews.{nodes_seen, task_seen}
use Rattle.task_reader.proofs.EachItem.{some_from}
use Rattle.task_reader.proofs.WrittenLaws.{task-written}
use Rattle.task_reader.proofs.ValidPlans.{plan-valid}
use Rattle.task_reader.proofs.Stages.{fails-tree}
use Rattle.task_reader.proofs.reading.make_task.Goals as goal

tree-made : (w : TaskCode) (ns : List NodeCode) (nodes : List Node) → ns ≡ w.nodes.items → or_mistake Wrong_node (tree_of (nodes_seen ns)) ≡ Ok nodes
    → tree_of (task_seen w).nodes ≡ Some nodes
tree-made w ns nodes same is = ap (λ xs. tree_of (nodes_seen xs)) (sym same) ∙ some_from Wrong_node _ _ is

-- a mistake of a stage is the task's
pub returns-in_err-tree : goal.returns-in_err-tree
returns-in_err-tree c =
    let p = err_from_is_err_and c.from_residual.result c.from_residual.ensures.1 in
    let error = c.in_err-tree.field-0.0 in
    let task = task_seen c.args.written.now in
    let told : FaultIs error (or_mistake Wrong_node (tree_of task.nodes)) =
    subst (λ ns. FaultIs error (or_mistake Wrong_node (tree_of (nodes_seen ns)))) c.deref.ensures.value c.in_err-tree.ensures.tree in
    rw (p.1, p.2) (fails-tree task error told)

pub make_parts-requires : goal.make_parts-requires
make_parts-requires c = record {
  document = c.requires;
  tree = tree-made c.args.written.now _ (nodes_of c.in_ok-tree.tree.nodes.items) c.deref.ensures.value c.in_ok-tree.ensures.tree;
  index = c.in_ok-tree.ensures.index;
}

pub new-requires : goal.new-requires
new-requires c =
    let task = task_seen c.args.written.now in
    plan-valid task (plan_on c.args.written.now.further_rights (nodes_of c.in_ok-tree.tree.nodes.items) c.in_ok-parts.parts) (task-written c.requires.0 task c.requires.1) c.in_ok-parts.ensures

pub returns : goal.returns
returns c = c.in_ok-parts.ensures ∙ ap Ok (sym c.new.ensures)
