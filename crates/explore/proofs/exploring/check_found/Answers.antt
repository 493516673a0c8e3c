use Rattle.std.proofs.Common.{◌≡◌, map, sym, subst, ◌∙◌, ap, true, List}
use Rattle.std.specs.Prelude.{Option, Some, IfSome, option_map}
use Rattle.syscalls.specs.Views.{event_of}
use Rattle.task.specs.Plans.{Plan}
use Rattle.explore.specs.declared.attacks.Move.{Move as MoveCode}
use Rattle.explore.specs.declared.breaches.Breach.{Breach as BreachCode}
use Rattle.explore.specs.BreachViews.{breach_of}
use Rattle.explore.specs.Broken.{Breaks, IsRefuted, IsTight, Move, are_own, own_moves}
use Rattle.explore.specs.MoveViews.{event_at, move_of}
use Rattle.explore.proofs.MayDo.{own-again}
use Rattle.explore.proofs.exploring.check_found.Goals as goal

pub returns-then-are_own : goal.returns-then-are_own
returns-then-are_own c =
    let plan : Plan = c.args.task.now in
    let moves : List MoveCode = c.in_ok-moves.moves.items in
    let first : c.deref.result.now ≡ moves = c.deref.ensures.value in
    let third : c.deref-3.result.now ≡ moves = c.deref-3.ensures.value in
    let last : c.deref-then-are_own.result.now ≡ moves = c.deref-then-are_own.ensures.value in
    let own : are_own (map move_of moves) ≡ true = subst (λ (xs : List MoveCode). are_own (map move_of xs) ≡ true) third (sym c.if-are_own.ensures) in
    let events : map event_of c.in_ok-events.events.items ≡ map event_at moves = c.in_ok-events.ensures ∙ ap (map event_at) last in
    let same : map move_of moves ≡ own_moves (map event_of c.in_ok-events.events.items) = own-again moves (map event_of c.in_ok-events.events.items) own events in
    let breaks : Breaks plan (map move_of moves) (Some (breach_of c.in-Some.breach)) =
    subst (λ (xs : List MoveCode). Breaks plan (map move_of xs) (Some (breach_of c.in-Some.breach))) first
    (subst (λ (o : Option BreachCode). Breaks plan (map move_of c.deref.result.now) (option_map breach_of o)) c.in-Some.is c.in-Ok.ensures.breach)
    in
    let refuted : IsRefuted plan (map move_of moves) =
    subst (λ (xs : List MoveCode). IsRefuted plan (map move_of xs)) first
    (subst (λ (o : Option BreachCode). IfSome o (λ breach. IsRefuted plan (map move_of c.deref.result.now))) c.in-Some.is c.in-Ok.ensures.refuted)
    in
    record {
      breaks = subst (λ (ms : List Move). Breaks plan ms (Some (breach_of c.in-Some.breach))) same breaks;
      refuted = subst (λ (ms : List Move). IsRefuted plan ms) same refuted;
      tight = subst (λ (ms : List Move). IsTight plan ms) same c.in_ok-moves.ensures.tight;
    }
