use Rattle.file_tree.proofs.KeptByRemove.{removed_is_tree}
use Rattle.file_tree.proofs.Tried.{kept_by}
use Rattle.place_tree.proofs.PlaceTreeTree.remove.Goals as goal

pub invariant_of-self : goal.invariant_of-self
invariant_of-self c =
    kept_by _ _ _ _ c.remove_in.result c.self.invariant c.remove_in.ensures.ok c.remove_in.ensures.allowed c.remove_in.ensures.err
    (λ allowed. removed_is_tree _ _ c.self.invariant allowed)
