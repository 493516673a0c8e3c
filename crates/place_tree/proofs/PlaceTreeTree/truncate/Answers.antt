use Rattle.file_tree.proofs.KeptByFill.{resized_is_tree}
use Rattle.file_tree.proofs.Tried.{kept_by}
use Rattle.place_tree.proofs.PlaceTreeTree.truncate.Goals as goal

pub invariant_of-self : goal.invariant_of-self
invariant_of-self c =
    kept_by _ _ _ _ c.truncate_in.result c.self.invariant c.truncate_in.ensures.ok c.truncate_in.ensures.allowed c.truncate_in.ensures.err
    (λ allowed. resized_is_tree _ _ _ c.self.invariant (rw (c.self.view_is, c.number.ensures) c.requires.file) (rw (c.self.view_is, c.number.ensures) c.requires.there) allowed)
