use Rattle.std.proofs.Common.{◌∙◌, ap}
use Rattle.std.specs.Prelude.{not}
use Rattle.std.specs.Str.{bytes_eq}
use Rattle.file_tree.specs.Nodes.{node}
use Rattle.file_tree.specs.Places.{path_components}
use Rattle.link_tree.specs.Links.{linked_nodes}
use Rattle.link_tree.specs.LinkViews.{links_of, stand_of}
use Rattle.link_tree.proofs.LinkEntryLaws.{entry_held}
use Rattle.link_tree.proofs.PathMatches.{none_left, other_name, same_name, different, equal}
use Rattle.link_tree.proofs.climbs.+match_place.Goals as goal

pub returns-then-ne : goal.returns-then-ne
returns-then-ne t c =
    let held = entry_held c.args.entries.now c.requires.linked c.args.n c.index-entries-n.result c.in-In.parent c.in-In.name.items c.requires.there c.index-entries-n.is (ap stand_of c.in-In.is) in
    other_name (path_components c.args.path.now) (node (linked_nodes (links_of c.args.entries.now)) c.in-In.parent).place (node (linked_nodes (links_of c.args.entries.now)) c.args.n).place
    c.in-In.name.items held.place (path_components c.in-Left.rest.now)
    (path_components c.in-Some.left.now) c.in-Some.first.now c.in-Left.ensures c.in-Some.ensures
    (different _ _ _ (c.ne.ensures ∙ ap (λ y. not (bytes_eq c.in-Some.first.now y)) c.as_slice.ensures.value) c.if-ne.true)

pub returns-in-None : goal.returns-in-None
returns-in-None t c =
    let held = entry_held c.args.entries.now c.requires.linked c.args.n c.index-entries-n.result c.in-In.parent c.in-In.name.items c.requires.there c.index-entries-n.is (ap stand_of c.in-In.is) in
    none_left (path_components c.args.path.now) (node (linked_nodes (links_of c.args.entries.now)) c.in-In.parent).place (node (linked_nodes (links_of c.args.entries.now)) c.args.n).place
    c.in-In.name.items held.place (path_components c.in-Left.rest.now) c.in-Left.ensures c.in-None.ensures

pub returns-else-ne : goal.returns-else-ne
returns-else-ne t c =
    let held = entry_held c.args.entries.now c.requires.linked c.args.n c.index-entries-n.result c.in-In.parent c.in-In.name.items c.requires.there c.index-entries-n.is (ap stand_of c.in-In.is) in
    same_name (path_components c.args.path.now) (node (linked_nodes (links_of c.args.entries.now)) c.in-In.parent).place (node (linked_nodes (links_of c.args.entries.now)) c.args.n).place
    c.in-In.name.items held.place (path_components c.in-Left.rest.now)
    (path_components c.in-Some.left.now) c.in-Some.first.now c.in-Left.ensures c.in-Some.ensures
    (equal _ _ _ (c.ne.ensures ∙ ap (λ y. not (bytes_eq c.in-Some.first.now y)) c.as_slice.ensures.value) c.if-ne.false)
