use Rattle.std.proofs.Common.{◌≡◌, ℕ, ◌+◌, ◌<◌, List, [], ◌∷◌, ◌++◌, Option, Some, None, length, get_or, drop, option_map, sym, ap, ◌∙◌}
use Rattle.std.specs.Prelude.{option_and_then}
use Rattle.std.proofs.lemmas.List.{at_drop_all, at_drop_more, map-append}
use Rattle.file_tree.specs.Nodes.{Node}
use Rattle.task.specs.Views.{node_of, nodes_of}
use Rattle.task_reader.specs.declared.written.WrittenNode.{WrittenNode as NodeCode}
use Rattle.task_reader.specs.Reading.{Wrong_node, node_made, or_mistake, tree_from}
use Rattle.task_reader.specs.WrittenViews.{node_seen, nodes_seen}
use Rattle.task_reader.proofs.trees.add_nodes.Goals as goal

-- the tree with what the next node is
next : (whole : Option (List Node)) (made : List Node) (written : List NodeCode) (i : ℕ) (d : NodeCode) (made_next : Option Node) →
    whole ≡ tree_from made (nodes_seen (drop i written)) → i < length written → node_made made (node_seen (get_or written i d)) ≡ made_next →
    whole ≡ option_and_then (λ m. tree_from (made ++ m ∷ []) (nodes_seen (drop (i + 1) written))) made_next
next whole made written i d made_next so_far within is =
    so_far
    ∙ at_drop_more (λ (ns : List NodeCode). tree_from made (nodes_seen ns)) written i d within
    ∙ ap (option_and_then (λ m. tree_from (made ++ m ∷ []) (nodes_seen (drop (i + 1) written)))) is

pub loop-node-preserved : goal.loop-node-preserved
loop-node-preserved c =
    let written = c.args.written.now in
    let i = c.loop-node.node-index in
    let before = c.loop-node.tree.nodes.items in
    let added = c.in_ok-add_node-in-Some.ensures in (
      next _ (nodes_of before) written i _ (Some (node_of c.in-Some.made)) c.loop-node.invariant.0 c.loop-node-test.true
          (sym c.in_ok-made.ensures ∙ ap (option_map node_of) c.in-Some.is)
          ∙ ap (λ made. tree_from made (nodes_seen (drop (i + 1) written))) (sym (ap nodes_of added.nodes ∙ map-append node_of before (c.in-Some.made ∷ []))),
      added.index,
    )

pub returns-in-None-clause-tree : goal.returns-in-None-clause-tree
returns-in-None-clause-tree c =
    ap (or_mistake Wrong_node) (next _ (nodes_of c.loop-node.tree.nodes.items) c.args.written.now c.loop-node.node-index _ None
    c.loop-node.invariant.0 c.loop-node-test.true (sym c.in_ok-made.ensures ∙ ap (option_map node_of) c.in-None.is))

pub returns-clause-tree : goal.returns-clause-tree
returns-clause-tree c =
    ap (or_mistake Wrong_node) (c.loop-node.invariant.0
    ∙ at_drop_all (λ (ns : List NodeCode). tree_from (nodes_of c.loop-node.tree.nodes.items) (nodes_seen ns)) c.args.written.now c.loop-node.node-index c.loop-node-test.false)
