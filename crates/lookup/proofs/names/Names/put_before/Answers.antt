use Rattle.std.proofs.Common.{◌≡◌, ◌++◌, length, rules}
use Rattle.lookup.proofs.NameLaws.{put_first, put_within}
use Rattle.lookup.proofs.names.Names.put_before.Goals as goal

pub invariant_of-self-2 : goal.invariant_of-self-2
invariant_of-self-2 c =
    let whole : c.extend_from_slice.new.self.items ≡ c.self.inside.text.items ++ c.args.path.now = c.in_ok-extend_from_slice.ensures.items in
    put_within c.self.inside.text.items c.args.path.now c.extend_from_slice.new.self.items c.self.inside.spans.items c.put_names.new.spans.items
    whole c.self.invariant (rw c.deref.ensures.value at c.put_names.ensures.within)

pub returns : goal.returns
returns c =
    let whole : c.extend_from_slice.new.self.items ≡ c.self.inside.text.items ++ c.args.path.now = c.in_ok-extend_from_slice.ensures.items in
    let from : c.len-from.result ≡ length c.self.inside.text.items = search rules in
    put_first c.self.inside.text.items c.args.path.now c.extend_from_slice.new.self.items c.len-from.result c.self.inside.spans.items c.put_names.new.spans.items _ c.put_names.result
    whole from c.self.invariant c.self.view_is (rw c.deref.ensures.value at c.put_names.ensures.names)
