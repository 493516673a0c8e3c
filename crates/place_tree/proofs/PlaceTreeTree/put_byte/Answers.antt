use Rattle.file_tree.proofs.KeptByFill.{written_is_tree}
use Rattle.file_tree.proofs.Tried.{kept_by}
use Rattle.place_tree.proofs.PlaceTreeTree.put_byte.Goals as goal

pub invariant_of-self : goal.invariant_of-self
invariant_of-self c =
    kept_by _ _ _ _ c.put_in.result c.self.invariant c.put_in.ensures.ok c.put_in.ensures.allowed c.put_in.ensures.err
    (λ allowed. written_is_tree _ _ _ _ c.self.invariant (rw (c.self.view_is, c.number.ensures) c.requires.file) (rw (c.self.view_is, c.number.ensures) c.requires.there) c.ranges.b.fits allowed)
