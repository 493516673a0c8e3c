use Rattle.std.proofs.Common.{◌≡◌, ◌<◌, length, arith, rules}
use Rattle.file_tree.specs.Nodes.{node}
use Rattle.file_tree.specs.Changes.{filled, written}
use Rattle.link_tree.specs.Links.{linked_nodes, IsLinkedTree}
use Rattle.link_tree.specs.LinkViews.{links_of}
use Rattle.file_tree.proofs.VectorLaws.{in_items}
use Rattle.file_tree.proofs.KeptByFill.{written_is_tree}
use Rattle.link_tree.proofs.LinkEntryLaws.{count_nodes}
use Rattle.link_tree.proofs.LinkedAfter.{refilled_linked}
use Rattle.link_tree.proofs.creates.put_in.Goals as goal
use Rattle.link_tree.proofs.creates.put_in.Goals.{In_ok-put_at}

pub returns-clause-allowed : goal.returns-clause-allowed
returns-clause-allowed c = search rules

after : (c : In_ok-put_at) → IsLinkedTree (links_of c.put_at.new.entries.items)
    × (linked_nodes (links_of c.put_at.new.entries.items) ≡ filled (linked_nodes (links_of c.args.entries.now.items)) c.args.n
    (written (node (linked_nodes (links_of c.args.entries.now.items)) c.args.n).content c.args.at c.args.b))
after c =
    let there : c.args.n < length (linked_nodes (links_of c.args.entries.now.items)) = omega
    (arith, in_items c.args.entries.now c.args.n c.requires.there, count_nodes c.args.entries.now.items c.requires.linked) in
    refilled_linked (links_of c.args.entries.now.items) (links_of c.put_at.new.entries.items) c.args.n (λ content. written content c.args.at c.args.b) c.requires.linked there
    (written_is_tree (linked_nodes (links_of c.args.entries.now.items)) c.args.n c.args.at c.args.b c.requires.linked.tree c.requires.file there
    c.ranges.b.fits (returns-clause-allowed c)) c.in_ok-put_at.ensures.ok

pub returns-clause-ok : goal.returns-clause-ok
returns-clause-ok c = (after c).1

pub returns-clause-linked : goal.returns-clause-linked
returns-clause-linked c = (after c).0
