use Rattle.std.proofs.Common.{◌≡◌, None, Some, refl, ap, sym, ◌∙◌}
use Rattle.std.proofs.lemmas.Result.{err_from_is_err_and}
use Rattle.toml.specs.View.{items_view, view}
use Rattle.toml.specs.declared.value.Value.{Value}
use Rattle.task_reader.specs.Documents.{each_item}
use Rattle.task_reader.specs.Reading.{Wrong_field, or_mistake}
use Rattle.task_reader.specs.Written.{written_descriptor}
use Rattle.task_reader.specs.WrittenViews.{descriptor_seen}
use Rattle.task_reader.proofs.EachItem.{some_from}
use Rattle.task_reader.proofs.FieldFaults.{field-fault}
use Rattle.task_reader.proofs.OneByOne.{goes-on, stops, ends}
use Rattle.task_reader.proofs.readers.descriptor_list.Goals as goal

pub returns-in_err-written_descriptor : goal.returns-in_err-written_descriptor
returns-in_err-written_descriptor c =
    let p = err_from_is_err_and c.from_residual-in_err-written_descriptor.result c.from_residual-in_err-written_descriptor.ensures.1 in
    let error = c.in_err-written_descriptor.field-0.0 in
    let v = c.value-item.result in
    let vs = c.args.values.now in
    let none : written_descriptor c.args.further (view v) ≡ None → each_item (written_descriptor c.args.further) (items_view vs) ≡ None =
    λ refused. stops {S = Value} (λ vs. each_item (written_descriptor c.args.further) (items_view vs)) (λ v. written_descriptor c.args.further (view v)) descriptor_seen (λ x xs. refl)
    _ vs c.loop-value.value-index v c.loop-value.descriptors.items
    c.loop-value.invariant c.loop-value-test.true (ap (λ v. written_descriptor c.args.further (view v)) (sym c.value-item.is) ∙ refused) in
    rw (p.1, p.2) (field-fault error (written_descriptor c.args.further (view v)) (each_item (written_descriptor c.args.further) (items_view vs)) none c.in_err-written_descriptor.ensures)

pub loop-value-preserved : goal.loop-value-preserved
loop-value-preserved c =
    let is : written_descriptor c.args.further (view c.value-item.result) ≡ Some (descriptor_seen c.in_ok-written_descriptor.field-0) = some_from Wrong_field _ _ c.in_ok-written_descriptor.ensures in
    goes-on {S = Value} (λ vs. each_item (written_descriptor c.args.further) (items_view vs)) (λ v. written_descriptor c.args.further (view v)) descriptor_seen (λ x xs. refl)
    _ c.args.values.now c.loop-value.value-index c.value-item.result
    c.loop-value.descriptors.items _ c.in_ok-written_descriptor.field-0
    c.loop-value.invariant c.loop-value-test.true (ap (λ v. written_descriptor c.args.further (view v)) (sym c.value-item.is) ∙ is) c.in_ok-push.ensures.items

pub returns : goal.returns
returns c =
    ap (or_mistake Wrong_field) (ends {S = Value} (λ vs. each_item (written_descriptor c.args.further) (items_view vs)) (λ v. written_descriptor c.args.further (view v)) descriptor_seen (λ x xs. refl)
    _ c.args.values.now
    c.loop-value.value-index c.loop-value.descriptors.items c.loop-value.invariant c.loop-value-test.false refl)
