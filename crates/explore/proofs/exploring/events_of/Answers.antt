use Rattle.std.proofs.Common.{◌++◌, [], ◌∷◌, map, take, ap, sym, ◌∙◌}
use Rattle.std.proofs.lemmas.List.{map-append, take_more}
use Rattle.syscalls.specs.Views.{event_of}
use Rattle.explore.specs.declared.attacks.Move.{Move as MoveCode}
use Rattle.explore.specs.MoveViews.{event_at}
use Rattle.explore.proofs.exploring.events_of.Goals as goal

pub loop-next-preserved : goal.loop-next-preserved
loop-next-preserved c =
    let m : MoveCode = c.next-item.result in
    ap (map event_of) c.in_ok-push.ensures.items
    ∙ map-append event_of c.loop-next.events.items (m.event ∷ [])
    ∙ ap (λ events. events ++ event_at m ∷ []) c.loop-next.invariant
    ∙ ap (λ (x : MoveCode). map event_at (take c.loop-next.next-index c.args.moves.now) ++ event_at x ∷ []) c.next-item.is
    ∙ sym (map-append event_at (take c.loop-next.next-index c.args.moves.now) (_ ∷ []))
    ∙ ap (map event_at) (sym (take_more c.args.moves.now c.loop-next.next-index m c.loop-next-test.true))
