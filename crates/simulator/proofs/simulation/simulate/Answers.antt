use Rattle.std.proofs.Common.{arith, ◌++◌, ◌≡◌, ◌+◌, ◌<◌, ◌≤◌, refl, true, List, [], map, drop, ◌∙◌, subst, sym, false}
use Rattle.std.specs.List.{slice_index_or}
use Rattle.std.proofs.Math.ListN.{length-map}
use Rattle.std.proofs.lemmas.List.{get_or-map, take_all}
use Rattle.std.proofs.lemmas.Grind.{common_steps}
use Rattle.std.specs.Prelude.{OnErr, OnOk}
use Rattle.std.proofs.lemmas.Result.{on_err_weaker, on_ok_weaker}
use Rattle.rights.specs.Output.{Took, TookFront}
use Rattle.rights.proofs.Tests.{on_err}
use Rattle.simulator.specs.Traces.{line_text}
use Rattle.syscalls.specs.declared.events.Event.{Event as EventCode}
use Rattle.syscalls.specs.Views.{event_of}
use Rattle.kernel.specs.Answers.{Event, IsEvent, AreEvents}
use Rattle.kernel.specs.WellFormed.{IsWellFormed}
use Rattle.kernel.proofs.Gains.{never_gains}
use Rattle.task.specs.Begins.{first_world}
use Rattle.task.specs.Limits.{is_plan}
use Rattle.task.specs.Plans.{Plan, programs_of_plan}
use Rattle.simulator.specs.Machines.{machine_world}
use Rattle.simulator.specs.Lines.{Line}
use Rattle.simulator.specs.Steps.{StepsMachine}
use Rattle.simulator.specs.Views.{stepped_line}
use Rattle.simulator.proofs.Splitting.{map-drop, drop-end}
use Rattle.simulator.proofs.Tracing.{IsTraced, bytes_more, traced-start, traced-step, traced-moved, traced-end, traced-front}
use Rattle.simulator.proofs.simulation.simulate.Goals as goal

pub loop-event-init : goal.loop-event-init
loop-event-init g c =
    let plan : Plan = c.args.task.now in
    let same : c.in_ok-machine.machine.plan ≡ plan = c.in_ok-machine.ensures.plan in
    let test : is_plan plan ≡ true = subst (λ (p : Plan). is_plan p ≡ true) same c.in_ok-machine.ensures.valid in
    record {
      runs_on = c.in_ok-machine.ensures.runs_on;
      steady = refl;
      plan = same;
      valid = test;
      well_formed = subst (λ (p : Plan). IsWellFormed (programs_of_plan p) (machine_world c.in_ok-machine.machine)) same c.in_ok-machine.ensures.well_formed;
      bytes = tt;
      ended = c.in_ok-page.ensures.line;
      traced =
          traced-start plan (map event_of c.args.events.now) (g.W.Out.taken c.args.out.now) c.in_ok-page.page.lines (machine_world c.in_ok-machine.machine)
          c.in_ok-page.ensures.lines test c.in_ok-machine.ensures.world;
    }

pub returns-in_err-machine-clause-gains : goal.returns-in_err-machine-clause-gains
returns-in_err-machine-clause-gains g c = never_gains (programs_of_plan c.args.task.now) (first_world c.args.task.now) (map event_of c.args.events.now)

pub returns-in_err-page-clause-gains : goal.returns-in_err-page-clause-gains
returns-in_err-page-clause-gains g c = never_gains (programs_of_plan c.args.task.now) (first_world c.args.task.now) (map event_of c.args.events.now)

pub returns-in_default-clause-gains : goal.returns-in_default-clause-gains
returns-in_default-clause-gains g c = never_gains (programs_of_plan c.args.task.now) (first_world c.args.task.now) (map event_of c.args.events.now)

pub returns-then-is_err-clause-gains : goal.returns-then-is_err-clause-gains
returns-then-is_err-clause-gains g c = never_gains (programs_of_plan c.args.task.now) (first_world c.args.task.now) (map event_of c.args.events.now)

pub returns-in_err-write_piece-clause-gains : goal.returns-in_err-write_piece-clause-gains
returns-in_err-write_piece-clause-gains g c = never_gains (programs_of_plan c.args.task.now) (first_world c.args.task.now) (map event_of c.args.events.now)

pub returns-clause-gains : goal.returns-clause-gains
returns-clause-gains g c = never_gains (programs_of_plan c.args.task.now) (first_world c.args.task.now) (map event_of c.args.events.now)

-- the lines that were gathered before the step
pub returns-in_default-clause-err : goal.returns-in_default-clause-err
returns-in_default-clause-err g c =
    traced-front c.args.task.now (map event_of c.args.events.now) _ _ _ _ _ _ c.loop-event.invariant.traced
    (subst (TookFront (g.W.Out.taken c.loop-event.out) (g.W.Out.taken c.write_left.new.out)) c.lines.ensures c.write_left.ensures.front)

pub returns-then-is_err-clause-err : goal.returns-then-is_err-clause-err
returns-then-is_err-clause-err g c =
    let kept : c.push_line.new.page.lines ≡ c.loop-event.page.lines = grind (arith, common_steps, c.push_line.ensures.err, c.if-is_err.ensures.value, c.if-is_err.true) in
    traced-front c.args.task.now (map event_of c.args.events.now) _ _ _ _ _ _ c.loop-event.invariant.traced
    (subst (TookFront (g.W.Out.taken c.loop-event.out) (g.W.Out.taken c.write_left-then-is_err.new.out)) (c.lines-then-is_err.ensures ∙ kept) c.write_left-then-is_err.ensures.front)

pub returns-in_err-write_piece-clause-err : goal.returns-in_err-write_piece-clause-err
returns-in_err-write_piece-clause-err g c =
    let plan : Plan = c.args.task.now in
    let events : List Event = map event_of c.args.events.now in
    let inv = c.loop-event.invariant in
    let none : EventCode = record { process = 0; input = 0; refuse = false } in
    let e : Event = event_of (slice_index_or c.args.events.now c.loop-event.event-index none) in
    let left : List Event = map event_of (drop (c.loop-event.event-index + 1) c.args.events.now) in
    let w = machine_world c.loop-event.machine in
    let next = machine_world c.advance.new.self in
    let line : Line = stepped_line next.tree e.process c.in-Ok.stepped in
    let so_far = subst (IsTraced plan events (g.W.Out.taken c.args.out.now) (g.W.Out.taken c.loop-event.out) c.loop-event.page.lines w)
    (map-drop event_of c.args.events.now c.loop-event.event-index none c.loop-event-test.true) inv.traced
    in
    let s = subst (λ (p : Plan). StepsMachine (programs_of_plan p) w e line next) inv.plan c.in-Ok.ensures.step in
    let more : c.push_line.new.page.lines ≡ c.loop-event.page.lines ++ line_text plan line =
    grind (arith, common_steps, c.push_line.ensures.ok, c.if-is_err.ensures.value, c.if-is_err.false)
    in
    on_err _
    (traced-front plan events _ _ _ _ next left (traced-step plan events _ _ _ _ w next e left line inv.valid inv.well_formed c.in-Ok.ensures.byte so_far s more)
    c.in_err-write_piece.ensures.err)

pub loop-event-preserved : goal.loop-event-preserved
loop-event-preserved g c =
    let plan : Plan = c.args.task.now in
    let events : List Event = map event_of c.args.events.now in
    let inv = c.loop-event.invariant in
    let none : EventCode = record { process = 0; input = 0; refuse = false } in
    let e : Event = event_of (slice_index_or c.args.events.now c.loop-event.event-index none) in
    let left : List Event = map event_of (drop (c.loop-event.event-index + 1) c.args.events.now) in
    let w = machine_world c.loop-event.machine in
    let next = machine_world c.advance.new.self in
    let line : Line = stepped_line next.tree e.process c.in-Ok.stepped in
    let so_far = subst (IsTraced plan events (g.W.Out.taken c.args.out.now) (g.W.Out.taken c.loop-event.out) c.loop-event.page.lines w)
    (map-drop event_of c.args.events.now c.loop-event.event-index none c.loop-event-test.true) inv.traced
    in
    let byte : IsEvent e = c.in-Ok.ensures.byte in
    let s = subst (λ (p : Plan). StepsMachine (programs_of_plan p) w e line next) inv.plan c.in-Ok.ensures.step in
    let same : c.advance.new.self.plan ≡ plan = c.in-Ok.ensures.plan ∙ inv.plan in
    let more : c.push_line.new.page.lines ≡ c.loop-event.page.lines ++ line_text plan line =
    grind (arith, common_steps, c.push_line.ensures.ok, c.if-is_err.ensures.value, c.if-is_err.false)
    in
    record {
      runs_on = c.in-Ok.ensures.runs_on;
      steady = c.in_ok-write_piece.ensures.steady ∙ inv.steady;
      plan = same;
      valid = inv.valid;
      well_formed = subst (λ (p : Plan). IsWellFormed (programs_of_plan p) next) same c.in-Ok.ensures.well_formed;
      bytes =
          bytes_more events c.loop-event.event-index (event_of none)
          (subst (λ n. c.loop-event.event-index < n) (sym (length-map c.args.events.now event_of)) c.loop-event-test.true) inv.bytes
          (subst IsEvent (sym (get_or-map event_of c.args.events.now c.loop-event.event-index none (event_of none) c.loop-event-test.true)) byte);
      ended = c.in_ok-write_piece.ensures.begun;
      traced = traced-moved plan events _ _ _ _ _ next left
          (traced-step plan events _ _ _ _ w next e left line inv.valid inv.well_formed byte so_far s more) c.in_ok-write_piece.ensures.ok;
    }

pub returns-clause-err : goal.returns-clause-err
returns-clause-err g c =
    let front = traced-front c.args.task.now (map event_of c.args.events.now) (g.W.Out.taken c.args.out.now) (g.W.Out.taken c.loop-event.out) (g.W.Out.taken c.write_all.new.out)
    c.loop-event.page.lines (machine_world c.loop-event.machine) (map event_of (drop c.loop-event.event-index c.args.events.now)) c.loop-event.invariant.traced
    in
    on_err_weaker c.write_all.result front (subst (λ lines. OnErr c.write_all.result (TookFront (g.W.Out.taken c.loop-event.out) (g.W.Out.taken c.write_all.new.out) lines))
    c.lines-2.ensures c.write_all.ensures.err)

pub returns-clause-ok : goal.returns-clause-ok
returns-clause-ok g c =
    let plan : Plan = c.args.task.now in
    let events : List Event = map event_of c.args.events.now in
    let all : drop c.loop-event.event-index c.args.events.now ≡ [] = drop-end c.args.events.now c.loop-event.event-index c.loop-event-test.false in
    let bytes = subst AreEvents (take_all c.loop-event.event-index events
    (subst (λ n. n ≤ c.loop-event.event-index) (sym (length-map c.args.events.now event_of)) c.loop-event-test.false))
    c.loop-event.invariant.bytes
    in
    let so_far = subst (λ left. IsTraced plan events (g.W.Out.taken c.args.out.now) (g.W.Out.taken c.loop-event.out) c.loop-event.page.lines
    (machine_world c.loop-event.machine) (map event_of left)) all c.loop-event.invariant.traced
    in
    let end = traced-end plan events (g.W.Out.taken c.args.out.now) (g.W.Out.taken c.loop-event.out) (g.W.Out.taken c.write_all.new.out)
    c.loop-event.page.lines (machine_world c.loop-event.machine) c.loop-event.invariant.valid bytes so_far
    in
    on_ok_weaker c.write_all.result end (subst (λ lines. OnOk c.write_all.result (Took (g.W.Out.taken c.loop-event.out) (g.W.Out.taken c.write_all.new.out) lines))
    c.lines-2.ensures c.write_all.ensures.ok)
