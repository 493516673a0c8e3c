use Rattle.file_tree.proofs.NewTree.{new_is_tree}
use Rattle.place_tree.proofs.PlaceTreeTree.new.Goals as goal

pub invariant_of-result : goal.invariant_of-result
invariant_of-result c =
    let pushed = c.in_ok-push.ensures.items in
    rw (pushed, c.new-entries.ensures.items, c.root.ensures, c.new.ensures.items) new_is_tree
