use Rattle.std.proofs.Common.{◌≡◌, length, arith, ◌∙◌, ap, Some}
use Rattle.file_tree.specs.Nodes.{node, child_of}
use Rattle.file_tree.specs.Places.{at_name}
use Rattle.link_tree.specs.Links.{linked_nodes}
use Rattle.link_tree.specs.LinkViews.{links_of}
use Rattle.link_tree.proofs.LinkEntryLaws.{count_links}
use Rattle.link_tree.proofs.LinkChanges.{filed_length}
use Rattle.link_tree.proofs.LinkRenames.{way_some, blocked_some}
use Rattle.link_tree.proofs.renames.make_way.Goals as goal

pub replace_stand-requires : goal.replace_stand-requires
replace_stand-requires c =
    let same = ap length c.in_ok-file_under-in-Some.ensures.ok ∙ filed_length (links_of c.args.entries.now.items) c.args.dir c.in_ok-key.key.items (Some c.args.n) in
    omega (arith, same, count_links c.args.entries.now.items, count_links c.file_under-in-Some.new.entries.items, c.file_under-in-Some.new.entries.ok.0, c.in-Some.ensures.there, c.deref.ensures.len)

pub returns-in_ok-file_under-in-Some-clause-ok : goal.returns-in_ok-file_under-in-Some-clause-ok
returns-in_ok-file_under-in-Some-clause-ok c =
    let t = linked_nodes (links_of c.args.entries.now.items) in
    let found : Some c.in-Some.old ≡ child_of (linked_nodes (links_of c.args.entries.now.items)) c.args.dir c.args.name.now = rw c.deref.ensures.value at c.in-Some.ensures.found in
    let place : c.in_ok-place-in-Some.place ≡ (node (linked_nodes (links_of c.args.entries.now.items)) c.in-Some.old).place =
    rw c.deref-in-Some.ensures.value at c.in_ok-place-in-Some.ensures in
    way_some (links_of c.args.entries.now.items) (links_of c.file_under-in-Some.new.entries.items) (links_of c.replace_stand.new.entries.items)
    (child_of t c.args.dir c.args.name.now) c.in-Some.old c.in_ok-place-in-Some.place
    (at_name (node t c.args.dir).place c.args.name.now) c.args.dir c.args.name.now c.in_ok-key.key.items c.args.n
    found c.in_ok-file_under-in-Some.ensures.ok c.in_ok-key.ensures.items c.replace_stand.ensures.changed (place ∙ (blocked_some t c.args.dir c.in-Some.old c.args.name.now found).1)
