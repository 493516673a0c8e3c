use Rattle.std.proofs.Common.{◌≡◌, ◌∙◌}
use Rattle.std.specs.List.{each_same}
use Rattle.link_tree.specs.LinkViews.{link_of, named_in, stand_of}
use Rattle.link_tree.proofs.Copying.{children_same}
use Rattle.link_tree.proofs.copies.copy_entry.Goals as goal

pub returns : goal.returns
returns c =
    let entry = c.args.entry.now in
    let stand : stand_of c.in_ok-stand.stand ≡ stand_of entry.stand = c.in_ok-stand.ensures in
    let children : named_in c.in_ok-children.children ≡ named_in entry.children =
    children_same _ (λ v w clone. each_same v.items w.items clone.0) entry.children c.in_ok-children.children c.in_ok-children.ensures.cases in
    let content : c.in_ok-content.content.items ≡ entry.content.items = c.in_ok-content.ensures.items ∙ c.deref.ensures.value in
    λ i. record { kind = (link_of entry).kind; stand = stand i; child = children i; content = content i }
