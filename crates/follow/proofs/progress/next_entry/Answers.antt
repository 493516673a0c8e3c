use Rattle.std.proofs.Common.{◌≡◌, ◌∙◌, ap, length, refl, sym, Some, None}
use Rattle.std.specs.Prelude.{if◌then◌else◌}
use Rattle.std.specs.List.{slice_get}
use Rattle.std.proofs.lemmas.Option.{slice_get_read}
use Rattle.records.specs.EntryViews.{record_entry_seen}
use Rattle.follow.proofs.Entries.{next-behind}
use Rattle.follow.proofs.progress.next_entry.Goals as goal

pub returns-then-may_come-clause-entry : goal.returns-then-may_come-clause-entry
returns-then-may_come-clause-entry c =
    let there : slice_get c.args.left.now c.args.at ≡ Some c.in_ok-entry.entry.now =
    slice_get_read c.args.left.now (length c.args.left.now) c.args.at c.in_ok-entry.entry.now refl c.in_ok-entry.ensures.lookup.3.0 c.in_ok-entry.ensures.lookup.1
    in
    sym (next-behind c.args.left.now c.args.at c.in_ok-entry.entry.now there
    ∙ ap (λ b. if b then Some (record_entry_seen c.in_ok-entry.entry.now.now) else None) (sym c.may_come.ensures ∙ c.if-may_come.true))

pub returns-else-may_come-clause-entry : goal.returns-else-may_come-clause-entry
returns-else-may_come-clause-entry c =
    let there : slice_get c.args.left.now c.args.at ≡ Some c.in_ok-entry.entry.now =
    slice_get_read c.args.left.now (length c.args.left.now) c.args.at c.in_ok-entry.entry.now refl c.in_ok-entry.ensures.lookup.3.0 c.in_ok-entry.ensures.lookup.1
    in
    sym (next-behind c.args.left.now c.args.at c.in_ok-entry.entry.now there
    ∙ ap (λ b. if b then Some (record_entry_seen c.in_ok-entry.entry.now.now) else None) (sym c.may_come.ensures ∙ c.if-may_come.false))
