use Rattle.std.proofs.Common.{refl, ap, sym, ◌∙◌}
use Rattle.toml.specs.View.{items_view, view}
use Rattle.toml.specs.declared.value.Value.{Value}
use Rattle.task_reader.specs.Documents.{each_item}
use Rattle.task_reader.specs.Reading.{Wrong_field, or_mistake}
use Rattle.toml.specs.Data.{as_str}
use Rattle.task_reader.proofs.OneByOne.{goes-on, stops, ends}
use Rattle.task_reader.proofs.documents.read_texts.Goals as goal

pub loop-value-preserved : goal.loop-value-preserved
loop-value-preserved c =
    goes-on {S = Value} (λ vs. each_item as_str (items_view vs)) (λ v. as_str (view v)) (λ w. w.now) (λ x xs. refl)
    _ c.args.values.now c.loop-value.value-index c.value-item.result c.loop-value.texts.items _ c.in-Some.text
    c.loop-value.invariant c.loop-value-test.true (ap (λ v. as_str (view v)) (sym c.value-item.is) ∙ sym c.in-Some.ensures) c.in_ok-push-in-Some.ensures.items

pub returns-in-None : goal.returns-in-None
returns-in-None c =
    ap (or_mistake Wrong_field) (stops {S = Value} (λ vs. each_item as_str (items_view vs)) (λ v. as_str (view v)) (λ w. w.now) (λ x xs. refl)
    _ c.args.values.now c.loop-value.value-index c.value-item.result c.loop-value.texts.items
    c.loop-value.invariant c.loop-value-test.true (ap (λ v. as_str (view v)) (sym c.value-item.is) ∙ sym c.in-None.ensures))

pub returns : goal.returns
returns c =
    ap (or_mistake Wrong_field) (ends {S = Value} (λ vs. each_item as_str (items_view vs)) (λ v. as_str (view v)) (λ w. w.now) (λ x xs. refl)
    _ c.args.values.now c.loop-value.value-index c.loop-value.texts.items c.loop-value.invariant c.loop-value-test.false refl)
