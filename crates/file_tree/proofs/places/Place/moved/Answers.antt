use Rattle.std.proofs.Common.{◌≡◌, true, ap, ◌∙◌, sym}
use Rattle.file_tree.specs.Places.{begins}
use Rattle.file_tree.specs.PlaceViews.{is_place_text, names_of}
use Rattle.file_tree.proofs.PlaceNames.{Moved, moved-text}
use Rattle.file_tree.proofs.places.Place.moved.Goals as goal

pub moved_text-requires : goal.moved_text-requires
moved_text-requires c =
    let begins_so : begins (names_of c.from.inside.text.items) (names_of c.self.inside.text.items) ≡ true = rw (c.from.view_is, c.self.view_is) c.requires in
    rw (c.deref.ensures.value, c.deref-3.ensures.value)
    (moved-text c.from.inside.text.items c.to.inside.text.items c.self.inside.text.items c.from.invariant c.to.invariant c.self.invariant begins_so).within

pub invariant_of-result : goal.invariant_of-result
invariant_of-result c =
    let begins_so : begins (names_of c.from.inside.text.items) (names_of c.self.inside.text.items) ≡ true = rw (c.from.view_is, c.self.view_is) c.requires in
    rw (c.in_ok-text.ensures, c.deref.ensures.value, c.deref-2.ensures.value, c.deref-3.ensures.value)
    (moved-text c.from.inside.text.items c.to.inside.text.items c.self.inside.text.items c.from.invariant c.to.invariant c.self.invariant begins_so).is

pub returns : goal.returns
returns c =
    let begins_so : begins (names_of c.from.inside.text.items) (names_of c.self.inside.text.items) ≡ true = rw (c.from.view_is, c.self.view_is) c.requires in
    rw (c.in_ok-text.ensures, c.deref.ensures.value, c.deref-2.ensures.value, c.deref-3.ensures.value, ← c.from.view_is, ← c.to.view_is, ← c.self.view_is)
    (moved-text c.from.inside.text.items c.to.inside.text.items c.self.inside.text.items c.from.invariant c.to.invariant c.self.invariant begins_so).names
