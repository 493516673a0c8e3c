use Rattle.std.proofs.Common.{refl, sym, ◌∙◌, subst}
use Rattle.std.specs.Prelude.{Some}
use Rattle.std.specs.Option.{option_map}
use Rattle.std.proofs.lemmas.Map.Text.{hash_map_updates_str}
use Rattle.prog_asm.specs.declared.drafts.Draft.{Draft}
use Rattle.prog_asm.specs.DraftViews.{LabelAdded}
use Rattle.prog_asm.specs.LineViews.{span_seen}
use Rattle.prog_asm.proofs.JudgedCode.{label-added}
use Rattle.prog_asm.proofs.drafts.Draft.add_label.Goals as goal

pub returns : goal.returns
returns c =
    let before = c.args.self.now in
    let name = c.in-Some.name.now in
    let after : Draft = record { labels = c.insert.new.self; steps = before.steps; faults = before.faults } in
    let added : LabelAdded before after c.args.number (Some name) (span_seen c.args.span) =
    label-added before after c.args.number name c.len-point.result (span_seen c.args.span) (sym c.contains_key.ensures ∙ c.if-contains_key.false)
    (c.len-point.ensures ∙ before.steps.ok.0) (hash_map_updates_str name before.labels c.insert.new.self _ c.in_ok-insert.ensures.updates) refl refl
    in
    subst (λ label. LabelAdded before after c.args.number (option_map (λ name. name.now) label) (span_seen c.args.span)) (sym c.in-Some.is) added
