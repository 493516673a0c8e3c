use Rattle.std.proofs.Common.{Some, ap, refl}
use Rattle.file_tree.specs.Nodes.{link_target}
use Rattle.link_tree.proofs.LinkEntryLaws.{entry_fits}
use Rattle.link_tree.proofs.links.target_in.Goals as goal

pub returns-in-Link : goal.returns-in-Link
unfolding link_target
returns-in-Link c =
    let fit = entry_fits c.args.entries.now c.requires.linked c.args.n c.index-entries-n.result c.requires.there c.index-entries-n.is in
    rw (← fit.kind, ← fit.content, c.in-Link.is) (ap Some c.as_slice.ensures.value)

pub returns-in-File : goal.returns-in-File
unfolding link_target
returns-in-File c =
    let fit = entry_fits c.args.entries.now c.requires.linked c.args.n c.index-entries-n.result c.requires.there c.index-entries-n.is in
    rw (← fit.kind, c.in-File.is) refl

pub returns-in-Dir : goal.returns-in-Dir
unfolding link_target
returns-in-Dir c =
    let fit = entry_fits c.args.entries.now c.requires.linked c.args.n c.index-entries-n.result c.requires.there c.index-entries-n.is in
    rw (← fit.kind, c.in-Dir.is) refl
