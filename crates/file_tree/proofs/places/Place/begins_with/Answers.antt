use Rattle.file_tree.proofs.PlaceNames.{begins-text}
use Rattle.file_tree.proofs.places.Place.begins_with.Goals as goal

pub returns : goal.returns
returns c =
    rw (c.lies_at.ensures, c.deref.ensures.value, c.deref-2.ensures.value, ← c.front.view_is, ← c.self.view_is)
    (begins-text c.front.inside.text.items c.self.inside.text.items c.front.invariant c.self.invariant)
