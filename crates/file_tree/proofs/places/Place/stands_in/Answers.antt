use Rattle.std.proofs.Common.{◌≡◌, ap, ◌∙◌}
use Rattle.file_tree.specs.PlaceViews.{names_of}
use Rattle.file_tree.specs.Places.{above, same_place}
use Rattle.file_tree.proofs.PlaceNames.{same-text}
use Rattle.file_tree.proofs.places.Place.stands_in.Goals as goal

pub returns : goal.returns
returns c =
    let names : names_of c.text_above.result.now ≡ above (names_of c.self.inside.text.items) = rw c.deref.ensures.value at c.text_above.ensures.names in
    rw (c.eq.ensures, c.as_slice.ensures.value, ← c.self.view_is, ← c.directory.view_is)
    (same-text c.text_above.result.now c.directory.inside.text.items c.text_above.ensures.text c.directory.invariant
    ∙ ap (λ place. same_place place (names_of c.directory.inside.text.items)) names)
