use Rattle.std.proofs.Common.{◌≡◌, ◌<◌, length, arith, rules}
use Rattle.file_tree.specs.Nodes.{node}
use Rattle.file_tree.specs.Changes.{filled, resized}
use Rattle.link_tree.specs.Links.{linked_nodes, IsLinkedTree}
use Rattle.link_tree.specs.LinkViews.{links_of}
use Rattle.file_tree.proofs.VectorLaws.{in_items}
use Rattle.file_tree.proofs.KeptByFill.{resized_is_tree}
use Rattle.link_tree.proofs.LinkEntryLaws.{count_nodes}
use Rattle.link_tree.proofs.LinkedAfter.{refilled_linked}
use Rattle.link_tree.proofs.creates.truncate_in.Goals as goal
use Rattle.link_tree.proofs.creates.truncate_in.Goals.{In_ok-resize_to}

pub returns-clause-allowed : goal.returns-clause-allowed
returns-clause-allowed c = search rules

after : (c : In_ok-resize_to) → IsLinkedTree (links_of c.resize_to.new.entries.items)
    × (linked_nodes (links_of c.resize_to.new.entries.items) ≡ filled (linked_nodes (links_of c.args.entries.now.items)) c.args.n
    (resized (node (linked_nodes (links_of c.args.entries.now.items)) c.args.n).content c.args.len))
after c =
    let there : c.args.n < length (linked_nodes (links_of c.args.entries.now.items)) = omega
    (arith, in_items c.args.entries.now c.args.n c.requires.there, count_nodes c.args.entries.now.items c.requires.linked) in
    refilled_linked (links_of c.args.entries.now.items) (links_of c.resize_to.new.entries.items) c.args.n (λ content. resized content c.args.len) c.requires.linked there
    (resized_is_tree (linked_nodes (links_of c.args.entries.now.items)) c.args.n c.args.len c.requires.linked.tree c.requires.file there (returns-clause-allowed c)) c.in_ok-resize_to.ensures.ok

pub returns-clause-ok : goal.returns-clause-ok
returns-clause-ok c = (after c).1

pub returns-clause-linked : goal.returns-clause-linked
returns-clause-linked c = (after c).0
