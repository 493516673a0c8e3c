use Rattle.std.proofs.Common.{◌≡◌, ◌-◌, ◌<◌, Some, length, refl, sym, ◌∙◌, rules}
use Rattle.std.specs.Prelude.{slice_get}
use Rattle.std.proofs.lemmas.Option.{slice_get_read}
use Rattle.lookup.proofs.NameLaws.{name_behind, within_at}
use Rattle.lookup.proofs.names.Names.get.Goals as goal

pub name_in-requires : goal.name_in-requires
name_in-requires c =
    let spans = c.self.inside.spans in
    let read = c.in-Some.ensures.lookup in
    let there = slice_get_read c.deref.result.now _ _ c.in-Some.span.now refl read.3.0 read.1 in
    rw c.deref-in-Some.ensures.value (within_at c.self.inside.text.items spans.items _ c.in-Some.span.now (rw c.deref.ensures.value at there) c.self.invariant)

pub returns-in-Some : goal.returns-in-Some
returns-in-Some c =
    let spans = c.self.inside.spans in
    let low : c.args.at < length spans.items = search rules in
    let count : c.len-2.result ≡ length spans.items = search rules in
    let read = c.in-Some.ensures.lookup in
    let there = slice_get_read c.deref.result.now _ _ c.in-Some.span.now refl read.3.0 read.1 in
    rw (c.name_in.ensures, c.deref-in-Some.ensures.value, ← c.self.view_is)
    (sym (name_behind c.self.inside.text.items spans.items c.args.at c.in-Some.span.now low (rw (c.deref.ensures.value, count) at there)))
