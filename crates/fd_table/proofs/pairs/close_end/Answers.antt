use Rattle.std.proofs.Common.{refl, sym, ap, ◌∙◌, None, Some}
use Rattle.rights.specs.Views.{side_seen}
use Rattle.fd_table.specs.Changes.{after_close, unless_idle}
use Rattle.fd_table.specs.StoredViews.{pair_kept}
use Rattle.fd_table.proofs.SlabLaws.{changed_twice, idle_gone, idle_stays, slots_set, slots_update, some_map}
use Rattle.fd_table.proofs.pairs.close_end.Goals as goal

pub returns-then-close : goal.returns-then-close
returns-then-close c =
    let idle = idle_gone (pair_kept c.close.new.self) (sym c.close.ensures.idle ∙ c.if-close.true) in
    let closed = ap unless_idle (sym c.close.ensures.closed) in
    let there = rw c.number-number.ensures at c.index_mut.ensures.value in
    let updates = rw c.number-number.ensures at c.remove.ensures.updates in
    let was = ap (after_close (side_seen c.args.end.side)) (some_map pair_kept c.args.pairs.now.slots c.args.end.pair c.index_mut.result.now there) in
    changed_twice _ _ _ c.args.end.pair _ _
    (slots_set pair_kept c.args.pairs.now.slots c.args.end.pair c.index_mut.result.now c.close.new.self (λ _. Some (pair_kept c.close.new.self)) there refl)
    (slots_update pair_kept _ c.remove.new.self c.args.end.pair None _ updates (sym (was ∙ closed ∙ idle)))

pub returns-else-close : goal.returns-else-close
returns-else-close c =
    let stays = idle_stays (pair_kept c.close.new.self) (sym c.close.ensures.idle ∙ c.if-close.false) in
    let closed = ap unless_idle (sym c.close.ensures.closed) in
    let there = rw c.number-number.ensures at c.index_mut.ensures.value in
    rw c.number-number.ensures
    (slots_set pair_kept c.args.pairs.now.slots c.args.end.pair c.index_mut.result.now c.close.new.self (after_close (side_seen c.args.end.side)) there (closed ∙ stays))
