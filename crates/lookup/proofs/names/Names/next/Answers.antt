use Rattle.std.proofs.Common.{◌≡◌, ◌-◌, Some, length, refl, rules}
use Rattle.std.specs.Prelude.{slice_get}
use Rattle.lookup.proofs.NameLaws.{within_last}
use Rattle.lookup.proofs.names.Names.next.Goals as goal

pub name_in-requires : goal.name_in-requires
name_in-requires c =
    let last : slice_get c.self.inside.spans.items (length c.self.inside.spans.items - 1) ≡ Some c.in-Some.span.now = search rules in
    rw c.deref-in-Some.ensures.value (within_last c.self.inside.text.items c.self.inside.spans.items _ c.in-Some.span.now refl last c.self.invariant)
