use Rattle.file_tree.proofs.PlaceNames.{same-text}
use Rattle.file_tree.proofs.places.Place.is_same.Goals as goal

pub returns : goal.returns
returns c =
    rw (c.eq.ensures, c.as_slice.ensures.value, c.as_slice-2.ensures.value, ← c.self.view_is, ← c.other.view_is)
    (same-text c.self.inside.text.items c.other.inside.text.items c.self.invariant c.other.invariant)
