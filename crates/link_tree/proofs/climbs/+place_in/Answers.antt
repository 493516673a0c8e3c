use Rattle.std.proofs.Common.{◌≡◌, ◌<◌, true, length, ap, subst, sym, ◌∙◌}
use Rattle.file_tree.specs.Nodes.{node}
use Rattle.file_tree.specs.PlaceViews.{is_one_name}
use Rattle.file_tree.proofs.PlaceTexts.{last_one}
use Rattle.link_tree.specs.Links.{linked_nodes}
use Rattle.link_tree.specs.LinkViews.{links_of, stand_of}
use Rattle.link_tree.proofs.LinkEntryLaws.{count_links, entry_held}
use Rattle.link_tree.proofs.climbs.+place_in.Goals as goal

pub push-requires : goal.push-requires
push-requires t c =
    let t = linked_nodes (links_of c.args.entries.now) in
    let held = entry_held c.args.entries.now c.requires.linked c.args.n c.index-entries-n.result c.in-In.parent c.in-In.name.items c.requires.there c.index-entries-n.is (ap stand_of c.in-In.is) in
    let there : c.args.n < length t = subst (λ k. c.args.n < k) (sym (count_links c.args.entries.now) ∙ c.requires.linked.fits.count) c.requires.there in
    ap is_one_name c.deref.ensures.value ∙ last_one t c.args.n (node t c.in-In.parent).place c.in-In.name.items (c.requires.linked.tree.limits c.args.n there) held.place
