use Rattle.std.proofs.Common.{◌≡◌, true, false, arith}
use Rattle.std.specs.Prelude.{is_some}
use Rattle.file_tree.specs.Nodes.{node, child_of}
use Rattle.file_tree.specs.Refusals.{created}
use Rattle.link_tree.specs.Links.{linked_nodes, IsLinkedTree}
use Rattle.file_tree.specs.Views.{new_kind, new_content}
use Rattle.link_tree.specs.LinkViews.{link_of, links_of}
use Rattle.link_tree.proofs.LinkEntryLaws.{count_nodes}
use Rattle.link_tree.proofs.LinkedAfter.{made_linked, create_allowed}
use Rattle.file_tree.proofs.Tried.{new_fits}
use Rattle.link_tree.proofs.creates.create_in.Goals as goal
use Rattle.link_tree.proofs.creates.create_in.Goals.{After-at}

pub returns-clause-allowed : goal.returns-clause-allowed
returns-clause-allowed c =
    let count = count_nodes c.args.entries.now.items c.requires.linked in
    let linked : (node (linked_nodes (links_of c.args.entries.now.items)) c.args.dir).linked ≡ true = grind arith in
    let free : is_some (child_of (linked_nodes (links_of c.args.entries.now.items)) c.args.dir c.args.name.now) ≡ false = grind arith in
    create_allowed (linked_nodes (links_of c.args.entries.now.items)) c.args.dir c.args.name.now linked free (omega (arith, c.len-number.ensures, c.args.entries.now.ok.0))

after : (c : After-at) → IsLinkedTree (links_of c.push_under.new.entries.items)
    × (linked_nodes (links_of c.push_under.new.entries.items) ≡ created (linked_nodes (links_of c.args.entries.now.items)) c.args.dir c.args.name.now
    (new_kind c.args.what) (new_content c.args.what))
after c =
    made_linked (links_of c.args.entries.now.items)
    (links_of c.push_under.new.entries.items) c.args.dir c.args.name.now c.in_ok-from_slice.field-0.items (link_of c.in_ok-made.made)
    (new_kind c.args.what) (new_content c.args.what)
    c.requires.linked c.requires.directory c.requires.name (new_fits c.args.what c.requires.target) c.in_ok-made.ensures.bytes
    (returns-clause-allowed c) c.in_ok-made.ensures.made c.in_ok-from_slice.ensures.items c.in_ok-push_under.ensures.ok

pub returns-clause-ok : goal.returns-clause-ok
returns-clause-ok c = (omega (arith, c.at.ensures, c.len-number.ensures, c.args.entries.now.ok.0, count_nodes c.args.entries.now.items c.requires.linked), (after c).1)

pub returns-clause-linked : goal.returns-clause-linked
returns-clause-linked c = (after c).0
