use Rattle.std.proofs.Common.{map, rules, sym, ap, ◌∙◌}
use Rattle.std.specs.Ordering.{is_lt}
use Rattle.std.proofs.lemmas.List.Sorted.{answers_always}
use Rattle.task_reader.specs.ApartViews.{none_begins_so}
use Rattle.task_reader.proofs.ApartLaws.{place_cmp, places-order, sorted-places}
use Rattle.task_reader.proofs.placed_grants.are_apart.Goals as goal

pub returns-clause-apart : goal.returns-clause-apart
returns-clause-apart c =
    let sorted =
    c.in_ok-sort_by.ensures.sorted (λ x y. is_lt (place_cmp x.now y.now)) (places-order (λ p. p.now)) (answers_always _ _ _ (λ f a r g called. search rules)) in
    c.none_begins_so.ensures ∙ ap (λ ps. none_begins_so (map (λ p. p.now) ps)) c.deref.ensures.value
    ∙ sym (sorted-places (λ p. p.now) c.args.places.items c.sort_by.new.self.items c.sort_by.ensures.permutation sorted)
