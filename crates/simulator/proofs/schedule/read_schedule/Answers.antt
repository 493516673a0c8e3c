use Rattle.std.proofs.Common.{◌+◌, ◌≤◌, [], ◌∷◌, map, length, ap, sym, ◌∙◌, subst, arith}
use Rattle.std.proofs.lemmas.Bool.{eqb-true}
use Rattle.std.proofs.lemmas.List.{map-append}
use Rattle.syscalls.specs.Views.{event_of}
use Rattle.simulator.proofs.LinesRead.{ReadSoFar, read-kept, read-dropped, read-ended}
use Rattle.simulator.proofs.schedule.read_schedule.Goals as goal
use Rattle.simulator.proofs.schedule.read_schedule.Goals.{then-count-lt-MAX_EVENTS+in_ok-push, else-count-lt-MAX_EVENTS}

pub loop-rest-preserved : goal.loop-rest-preserved
loop-rest-preserved c =
    let all = c.args.bytes.now in
    let rest = c.loop-rest.rest.now in
    let next = c.in-Some.behind.now in
    let count = c.loop-rest.count in
    let old = c.loop-rest.events.items in
    let event = c.in-Some.event in
    let begins = c.in-Some.ensures in
    let so_far = c.loop-rest.invariant.read in
    let within : count + 1 + length next ≤ length all = omega (arith, begins.shorter, c.loop-rest.invariant.within) in
    elim c.if-count-lt-MAX_EVENTS.branch [
      | then-count-lt-MAX_EVENTS+in_ok-push w ↦ record {
        read =
            read-kept all rest (map event_of old) count so_far (map event_of c.if-count-lt-MAX_EVENTS.events.items) (event_of event) next begins
            w.if-count-lt-MAX_EVENTS.true
            (ap (λ v. map event_of v.items) w.events-is ∙ ap (map event_of) w.in_ok-push.ensures.items ∙ map-append event_of old (event ∷ []));
        within = within;
      }
      | else-count-lt-MAX_EVENTS w ↦ record {
        read =
            subst (λ kept. ReadSoFar all next kept (count + 1)) (sym (ap (λ v. map event_of v.items) w.events-is))
            (read-dropped all rest (map event_of old) count so_far (event_of event) next begins w.if-count-lt-MAX_EVENTS.false);
        within = within;
      }
    ]

pub returns : goal.returns
returns c =
    read-ended c.args.bytes.now c.loop-rest.rest.now (map event_of c.loop-rest.events.items) c.loop-rest.count c.loop-rest.invariant.read
    (eqb-true _ _ (sym c.loop-rest-test.ensures)) c.if-count-gt-MAX_EVENTS.false
