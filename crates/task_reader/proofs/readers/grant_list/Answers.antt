use Rattle.std.proofs.Common.{◌≡◌, None, Some, refl, ap, sym, ◌∙◌}
use Rattle.std.proofs.lemmas.Result.{err_from_is_err_and}
use Rattle.toml.specs.View.{items_view, view}
use Rattle.toml.specs.declared.value.Value.{Value}
use Rattle.task_reader.specs.Documents.{each_item}
use Rattle.task_reader.specs.Reading.{Wrong_field, or_mistake}
use Rattle.task_reader.specs.Written.{written_grant}
use Rattle.task_reader.specs.WrittenViews.{grant_seen}
use Rattle.task_reader.proofs.EachItem.{some_from}
use Rattle.task_reader.proofs.FieldFaults.{field-fault}
use Rattle.task_reader.proofs.OneByOne.{goes-on, stops, ends}
use Rattle.task_reader.proofs.readers.grant_list.Goals as goal

pub returns-in_err-written_grant : goal.returns-in_err-written_grant
returns-in_err-written_grant c =
    let p = err_from_is_err_and c.from_residual-in_err-written_grant.result c.from_residual-in_err-written_grant.ensures.1 in
    let error = c.in_err-written_grant.field-0.0 in
    let v = c.value-item.result in
    let vs = c.args.values.now in
    let none : written_grant (view v) ≡ None → each_item written_grant (items_view vs) ≡ None =
    λ refused. stops {S = Value} (λ vs. each_item written_grant (items_view vs)) (λ v. written_grant (view v)) grant_seen (λ x xs. refl)
    _ vs c.loop-value.value-index v c.loop-value.grants.items
    c.loop-value.invariant c.loop-value-test.true (ap (λ v. written_grant (view v)) (sym c.value-item.is) ∙ refused) in
    rw (p.1, p.2) (field-fault error (written_grant (view v)) (each_item written_grant (items_view vs)) none c.in_err-written_grant.ensures)

pub loop-value-preserved : goal.loop-value-preserved
loop-value-preserved c =
    let is : written_grant (view c.value-item.result) ≡ Some (grant_seen c.in_ok-written_grant.field-0) = some_from Wrong_field _ _ c.in_ok-written_grant.ensures in
    goes-on {S = Value} (λ vs. each_item written_grant (items_view vs)) (λ v. written_grant (view v)) grant_seen (λ x xs. refl)
    _ c.args.values.now c.loop-value.value-index c.value-item.result
    c.loop-value.grants.items _ c.in_ok-written_grant.field-0
    c.loop-value.invariant c.loop-value-test.true (ap (λ v. written_grant (view v)) (sym c.value-item.is) ∙ is) c.in_ok-push.ensures.items

pub returns : goal.returns
returns c =
    ap (or_mistake Wrong_field) (ends {S = Value} (λ vs. each_item written_grant (items_view vs)) (λ v. written_grant (view v)) grant_seen (λ x xs. refl)
    _ c.args.values.now
    c.loop-value.value-index c.loop-value.grants.items c.loop-value.invariant c.loop-value-test.false refl)
