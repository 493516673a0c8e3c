use Rattle.std.proofs.Common.{◌≡◌, [], ap, ◌∙◌, sym}
use Rattle.std.specs.Prelude.{◌&&◌, true}
use Rattle.std.specs.Str.{bytes_eq}
use Rattle.file_tree.specs.PlaceViews.{LastName, names_of}
use Rattle.file_tree.proofs.PlaceNames.{child-of, no-child}
use Rattle.file_tree.proofs.places.Place.is_child.Goals as goal

pub returns-in-None : goal.returns-in-None
returns-in-None c =
    let empty : c.self.inside.text.items ≡ [] = rw c.deref.ensures.value at c.in-None.ensures in
    let none : names_of c.self.inside.text.items ≡ [] = ap names_of empty in
    rw (← c.self.view_is, none) (no-child c.args.directory.now c.args.name.now)

pub returns-then-eq : goal.returns-then-eq
returns-then-eq c =
    let last : LastName c.self.inside.text.items c.in-Some.above.now c.in-Some.last.now = rw c.deref.ensures.value at c.in-Some.ensures in
    let first : bytes_eq c.directory.inside.text.items c.in-Some.above.now ≡ true = rw c.as_slice.ensures.value at (sym c.eq.ensures ∙ c.if-eq.true) in
    rw (c.eq-then-eq.ensures, ← c.self.view_is, ← c.directory.view_is)
    (ap (λ same. same && bytes_eq c.args.name.now c.in-Some.last.now) (sym first)
    ∙ child-of c.directory.inside.text.items c.self.inside.text.items c.in-Some.above.now c.args.name.now c.in-Some.last.now c.directory.invariant last)

pub returns-else-eq : goal.returns-else-eq
returns-else-eq c =
    let last : LastName c.self.inside.text.items c.in-Some.above.now c.in-Some.last.now = rw c.deref.ensures.value at c.in-Some.ensures in
    let first : bytes_eq c.directory.inside.text.items c.in-Some.above.now ≡ c.eq.result = rw c.as_slice.ensures.value at (sym c.eq.ensures) in
    rw (← c.self.view_is, ← c.directory.view_is)
    (c.if-eq.false ∙ ap (λ same. same && bytes_eq c.args.name.now c.in-Some.last.now) (sym (first ∙ c.if-eq.false))
    ∙ child-of c.directory.inside.text.items c.self.inside.text.items c.in-Some.above.now c.args.name.now c.in-Some.last.now c.directory.invariant last)
