use Rattle.std.proofs.Common.{sym, ap, ◌∙◌, ◌-◌, None, Some}
use Rattle.std.specs.Prelude.{cond}
use Rattle.std.proofs.lemmas.Bool.{lt-ltb, le-ltb}
use Rattle.fd_table.specs.Changes.{lowered}
use Rattle.fd_table.specs.StoredViews.{held_kept}
use Rattle.fd_table.proofs.SlabLaws.{slots_set, slots_update, some_map}
use Rattle.fd_table.proofs.descriptions.release_one.Goals as goal

pub returns-then-held-gt1-clause-change : goal.returns-then-held-gt1-clause-change
returns-then-held-gt1-clause-change c =
    slots_set held_kept c.args.descriptions.now.slots c.args.n c.in_ok-held.field-0.now _ lowered (sym c.in_ok-held.ensures)
    (ap (λ b. cond b (Some (record (held_kept c.in_ok-held.field-0.now) { count = c.in_ok-held.field-0.now.count - 1 })) None) (lt-ltb 1 _ c.if-held-gt1.true))

pub returns-clause-change : goal.returns-clause-change
returns-clause-change c =
    slots_update held_kept c.args.descriptions.now c.remove.new.self c.args.n None _ c.remove.ensures.updates
    (sym (ap lowered (some_map held_kept c.args.descriptions.now.slots c.args.n c.in_ok-held.field-0.now (sym c.in_ok-held.ensures))
    ∙ ap (λ b. cond b (Some (record (held_kept c.in_ok-held.field-0.now) { count = c.in_ok-held.field-0.now.count - 1 })) None) (le-ltb _ _ c.if-held-gt1.false)))
