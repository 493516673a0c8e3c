use Rattle.std.proofs.Common.{ap}
use Rattle.file_tree.specs.Nodes.{node}
use Rattle.link_tree.specs.Links.{linked_nodes}
use Rattle.link_tree.specs.LinkViews.{links_of, stand_of}
use Rattle.link_tree.proofs.LinkEntryLaws.{entry_held}
use Rattle.file_tree.proofs.PlaceTexts.{told_at}
use Rattle.link_tree.proofs.climbs.+append_linked_names.Goals as goal

pub returns-in_ok-append_linked_names-in-In-clause-ok : goal.returns-in_ok-append_linked_names-in-In-clause-ok
returns-in_ok-append_linked_names-in-In-clause-ok t c =
    let held = entry_held c.args.entries.now c.requires.linked c.args.n c.index-entries-n.result c.in-In.parent c.in-In.name.items c.requires.there c.index-entries-n.is (ap stand_of c.in-In.is) in
    told_at c.append_name.result c.args.out.now.items c.append_linked_names.new.out.items c.append_name.new.out.items
    (node (linked_nodes (links_of c.args.entries.now)) c.in-In.parent).place (node (linked_nodes (links_of c.args.entries.now)) c.args.n).place
    c.in-In.name.items c.as_slice.result.now held.place c.as_slice.ensures.value c.in_ok-append_linked_names-in-In.ensures.ok c.append_name.ensures.ok
