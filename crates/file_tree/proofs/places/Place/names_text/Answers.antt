use Rattle.std.proofs.Common.{sym, ◌∙◌}
use Rattle.file_tree.proofs.PlaceNames.{text-of}
use Rattle.file_tree.proofs.places.Place.names_text.Goals as goal

pub returns : goal.returns
returns c = rw (← c.self.view_is) (c.deref.ensures.value ∙ sym (text-of c.self.inside.text.items c.self.invariant))
