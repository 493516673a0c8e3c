use Rattle.std.proofs.Common.{sym, ◌∙◌, ap}
use Rattle.std.specs.Str.{bytes_eq}
use Rattle.std.proofs.lemmas.Bool.{ne_eqb}
use Rattle.link_tree.specs.Links.{linked_nodes}
use Rattle.link_tree.specs.LinkViews.{links_of, stand_of}
use Rattle.link_tree.proofs.LinkEntryLaws.{entry_held}
use Rattle.link_tree.proofs.LinkRenames.{same_dir, other_dir}
use Rattle.link_tree.proofs.renames.is_named.Goals as goal

pub returns-then-parent-dir : goal.returns-then-parent-dir
returns-then-parent-dir c =
    let held = entry_held c.args.entries.now c.requires.linked c.args.n c.index-entries-n.result c.in-In.parent c.in-In.own.items c.requires.there c.index-entries-n.is (ap stand_of c.in-In.is) in
    c.eq.ensures ∙ ap (λ own. bytes_eq own c.args.name.now) c.as_slice.ensures.value
    ∙ same_dir (linked_nodes (links_of c.args.entries.now)) c.args.n c.in-In.parent c.args.dir c.in-In.own.items c.args.name.now c.requires.linked.tree held c.requires.dir_linked c.if-parent-dir.true

pub returns-else-parent-dir : goal.returns-else-parent-dir
returns-else-parent-dir c =
    let held = entry_held c.args.entries.now c.requires.linked c.args.n c.index-entries-n.result c.in-In.parent c.in-In.own.items c.requires.there c.index-entries-n.is (ap stand_of c.in-In.is) in
    ne_eqb c.in-In.parent c.args.dir c.if-parent-dir.false
    ∙ sym (other_dir (linked_nodes (links_of c.args.entries.now)) c.args.n c.in-In.parent c.args.dir c.in-In.own.items c.args.name.now
    c.requires.linked.tree held c.requires.dir_linked c.if-parent-dir.false)
