use Rattle.std.proofs.Common.{◌≡◌, [], ◌∷◌, ◌++◌}
use Rattle.lookup.specs.declared.names.Span.{Span}
use Rattle.lookup.proofs.NameLaws.{put_some, within_push}
use Rattle.lookup.proofs.names.put_name.Goals as goal

pub returns-clause-names : goal.returns-clause-names
returns-clause-names c = λ text high.
    let span : Span = record { start = c.args.start; end = c.args.end } in
    put_some text c.args.spans.now.items c.push.new.self.items span c.in_ok-push.ensures.items c.requires c.if-start-end.false high

pub returns-clause-within : goal.returns-clause-within
returns-clause-within c = λ text high all.
    let span : Span = record { start = c.args.start; end = c.args.end } in
    let is : c.push.new.self.items ≡ c.args.spans.now.items ++ span ∷ [] = c.in_ok-push.ensures.items in
    rw is (within_push text c.args.spans.now.items span all (c.requires, high))
