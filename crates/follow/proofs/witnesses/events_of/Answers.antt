use Rattle.std.proofs.Common.{◌≡◌, ◌+◌, false, List, [], ◌∷◌, ◌++◌, map, drop, append_assoc, ap, subst, ◌∙◌, None}
use Rattle.std.specs.List.{slice_index_or}
use Rattle.kernel.specs.Answers.{Event}
use Rattle.syscalls.specs.Views.{event_of}
use Rattle.simulator.proofs.Splitting.{map-drop}
use Rattle.follow.specs.declared.witnesses.Move.{Move as MoveCode}
use Rattle.follow.specs.declared.witnesses.Move.TheVariants.{Step}
use Rattle.follow.specs.Shows.{Move, Steps, Skips, event_in, events_of}
use Rattle.follow.specs.Views.{move_of, moves_of}
use Rattle.follow.proofs.witnesses.events_of.Goals as goal

-- the events so far with those of a move, and then those of the moves that are left
events-more : (before after : List Event) (m : Move) (left : List Move) (all : List Event) → after ≡ before ++ event_in m → before ++ events_of (m ∷ left) ≡ all →
    after ++ events_of left ≡ all
events-more before after (Steps e shows) left all more is = ap (λ es. es ++ events_of left) more ∙ append_assoc before (e ∷ []) (events_of left) ∙ is
events-more before after (Skips i) left all more is = ap (λ es. es ++ events_of left) more ∙ append_assoc before [] (events_of left) ∙ is

pub loop-step-preserved : goal.loop-step-preserved
loop-step-preserved c =
    let none : MoveCode = Step (record { process = 0; input = 0; refuse = false }) None in
    let m : Move = move_of (slice_index_or c.args.moves.now c.loop-step.step-index none) in
    let left : List Move = moves_of (drop (c.loop-step.step-index + 1) c.args.moves.now) in
    let split : moves_of (drop c.loop-step.step-index c.args.moves.now) ≡ m ∷ left =
    map-drop move_of c.args.moves.now c.loop-step.step-index none c.loop-step-test.true
    in
    events-more (map event_of c.loop-step.events.items) (map event_of c.add_event.new.events.items) m left (events_of (moves_of c.args.moves.now))
    c.in_ok-add_event.ensures
    (subst (λ (ms : List Move). map event_of c.loop-step.events.items ++ events_of ms ≡ events_of (moves_of c.args.moves.now)) split c.loop-step.invariant)
