use Rattle.std.proofs.Common.{◌≡◌, ◌∙◌, List, ap, filter, map, subst, sym}
use Rattle.remarks.specs.Warnings.{starts_listable, starts_with_more}
use Rattle.task.specs.Plans.{FirstDescriptor}
use Rattle.task.specs.Views.{first_descriptor_of}
use Rattle.explain.specs.Observed.{beyond_its_calls, each_at, more_rights, warned_at_start}
use Rattle.explain.specs.ObservedViews.{AddsObserved}
use Rattle.remarks.proofs.Lists.{filtered_map}
use Rattle.explain.proofs.Observing.{adds_both, on_ok}
use Rattle.explain.proofs.warning.add_start.Goals as goal

pub returns : goal.returns
unfolding warned_at_start
returns c =
    let items = c.args.start.now.descriptors.items in
    let more = filter starts_with_more (map first_descriptor_of items) in
    let directories = filter (starts_listable c.args.task.now) (map first_descriptor_of items) in
    let before = c.args.list.now.items in
    let between = c.add_first.new.list.items in
    let after = c.add_first-2.new.list.items in
    let first : map first_descriptor_of c.deref.result.now ≡ more =
    ap (map first_descriptor_of) (c.deref.ensures.value ∙ c.in_ok-more.ensures) ∙ sym (filtered_map starts_with_more first_descriptor_of items) in
    let second : map first_descriptor_of c.deref-2.result.now ≡ directories =
    ap (map first_descriptor_of) (c.deref-2.ensures.value ∙ c.in_ok-directories.ensures)
    ∙ sym (filtered_map (starts_listable c.args.task.now) first_descriptor_of items) in
    on_ok c.add_first-2.result _ _
    (λ added. adds_both before between after (each_at 0 more_rights more) (each_at 0 beyond_its_calls directories)
    (subst (λ (list : List FirstDescriptor). AddsObserved before between (each_at 0 more_rights list)) first c.in_ok-add_first.ensures)
    (subst (λ (list : List FirstDescriptor). AddsObserved between after (each_at 0 beyond_its_calls list)) second added))
    c.add_first-2.ensures
