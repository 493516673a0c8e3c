use Rattle.file_tree.specs.PlaceViews.{LastName}
use Rattle.file_tree.proofs.PlaceNames.{last-of}
use Rattle.file_tree.proofs.places.Place.name.Goals as goal

pub returns-in-Some : goal.returns-in-Some
returns-in-Some c =
    let last : LastName c.self.inside.text.items c.in-Some._above.now c.in-Some.name.now = rw c.deref.ensures.value at c.in-Some.ensures in
    rw (← c.self.view_is) (last-of c.self.inside.text.items c.in-Some._above.now c.in-Some.name.now last)
