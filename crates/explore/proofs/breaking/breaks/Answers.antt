use Rattle.std.proofs.Common.{◌≡◌, ◌+◌, ◌<◌, ◌≤◌, true, List, [], ◌∷◌, map, drop, ◌∙◌, ap, subst, sym, option_map}
use Rattle.std.specs.List.{slice_index_or}
use Rattle.std.proofs.Math.ListN.{length-map}
use Rattle.std.proofs.lemmas.List.{get_or-map, take_all}
use Rattle.kernel.specs.Answers.{Event, IsEvent, AreEvents}
use Rattle.kernel.specs.Hostile.{Act, IsAct}
use Rattle.kernel.specs.World.{World}
use Rattle.kernel.specs.WellFormed.{IsWellFormed}
use Rattle.task.specs.Limits.{is_plan}
use Rattle.task.specs.Plans.{Plan, programs_of_plan}
use Rattle.simulator.specs.Machines.{machine_world}
use Rattle.simulator.specs.Lines.{Line}
use Rattle.simulator.specs.Steps.{StepsMachineAs}
use Rattle.simulator.specs.Views.{line_of}
use Rattle.simulator.proofs.Splitting.{map-drop, drop-end}
use Rattle.simulator.proofs.Tracing.{bytes_more}
use Rattle.explore.specs.declared.attacks.Move.{Move as MoveCode}
use Rattle.explore.specs.Broken.{Move, are_all_spoken}
use Rattle.explore.specs.BreachViews.{breach_of}
use Rattle.explore.specs.MoveViews.{act_of, deed_in, event_at, move_of}
use Rattle.explore.proofs.MayDo.{events-of, may-do}
use Rattle.explore.proofs.Refuting.{refuted-if}
use Rattle.explore.proofs.Watching.{Leads, leads-start, leads-step, leads-end}
use Rattle.explore.proofs.breaking.breaks.Goals as goal

pub loop-next-init : goal.loop-next-init
loop-next-init c =
    let plan : Plan = c.args.task.now in
    let same : c.in_ok-machine.machine.plan ≡ plan = c.in_ok-machine.ensures.plan in
    let spoken : are_all_spoken plan.wide (map move_of c.args.moves.now) ≡ true =
    sym (c.are_all_spoken-spoken.ensures ∙ ap (λ wide. are_all_spoken wide (map move_of c.args.moves.now)) c.further_rights.ensures) ∙ c.if-not-spoken.false in
    let test : is_plan plan ≡ true = subst (λ (p : Plan). is_plan p ≡ true) same c.in_ok-machine.ensures.valid in
    record {
      runs_on = c.in_ok-machine.ensures.runs_on;
      plan = same;
      valid = test;
      well_formed = subst (λ (p : Plan). IsWellFormed (programs_of_plan p) (machine_world c.in_ok-machine.machine)) same c.in_ok-machine.ensures.well_formed;
      bytes = tt;
      leads = leads-start plan (map move_of c.args.moves.now) (machine_world c.in_ok-machine.machine) spoken test c.in_ok-machine.ensures.world;
    }

pub loop-next-preserved : goal.loop-next-preserved
loop-next-preserved c =
    let plan : Plan = c.args.task.now in
    let inv = c.loop-next.invariant in
    let m : MoveCode = c.next-item.result in
    let is : m ≡ slice_index_or c.args.moves.now c.loop-next.next-index m = c.next-item.is in
    let e : Event = event_at m in
    let act : Act = act_of m in
    let left : List Move = map move_of (drop (c.loop-next.next-index + 1) c.args.moves.now) in
    let line : Line = line_of c.in_ok-watched.watched.line in
    let w = machine_world c.loop-next.machine in
    let next = machine_world c.watched_step.new.machine in
    let so_far = subst (λ (x : MoveCode). Leads plan (map move_of c.args.moves.now) w (option_map breach_of c.loop-next.breach) (move_of x ∷ left)) (sym is)
    (subst (Leads plan (map move_of c.args.moves.now) w (option_map breach_of c.loop-next.breach))
    (map-drop move_of c.args.moves.now c.loop-next.next-index m c.loop-next-test.true) inv.leads)
    in
    let byte : IsEvent e = c.in_ok-watched.ensures.byte in
    let s = subst (λ (p : Plan). StepsMachineAs (programs_of_plan p) w e act line next) inv.plan c.in_ok-watched.ensures.step in
    let same : c.watched_step.new.machine.plan ≡ plan = c.in_ok-watched.ensures.plan ∙ inv.plan in
    let may : (v : World) → IsWellFormed (programs_of_plan plan) v → IsAct (programs_of_plan plan) v e.process act =
    λ v fine. may-do (programs_of_plan plan) v e.process (deed_in m) c.in_ok-watched.ensures.paths fine
    in
    record {
      runs_on = c.in_ok-watched.ensures.runs_on;
      plan = same;
      valid = inv.valid;
      well_formed = subst (λ (p : Plan). IsWellFormed (programs_of_plan p) next) same c.in_ok-watched.ensures.well_formed;
      bytes =
          bytes_more (map event_at c.args.moves.now) c.loop-next.next-index (event_at m)
          (subst (λ n. c.loop-next.next-index < n) (sym (length-map c.args.moves.now event_at)) c.loop-next-test.true) inv.bytes
          (subst IsEvent (sym (get_or-map event_at c.args.moves.now c.loop-next.next-index m (event_at m) c.loop-next-test.true))
          (subst (λ (x : MoveCode). IsEvent (event_at x)) is byte));
      leads =
          leads-step plan (map move_of c.args.moves.now) w next (option_map breach_of c.loop-next.breach) (option_map breach_of c.in_ok-watched.watched.breach) e act left line
          inv.valid inv.well_formed byte may s c.in_ok-watched.ensures.breach so_far;
    }

pub returns-clause-breach : goal.returns-clause-breach
returns-clause-breach c =
    let plan : Plan = c.args.task.now in
    let all : drop c.loop-next.next-index c.args.moves.now ≡ [] = drop-end c.args.moves.now c.loop-next.next-index c.loop-next-test.false in
    leads-end plan (map move_of c.args.moves.now) (machine_world c.loop-next.machine) (option_map breach_of c.loop-next.breach)
    (subst (λ moves. Leads plan (map move_of c.args.moves.now) (machine_world c.loop-next.machine) (option_map breach_of c.loop-next.breach) (map move_of moves))
    all c.loop-next.invariant.leads)

pub returns-clause-refuted : goal.returns-clause-refuted
returns-clause-refuted c =
    let plan : Plan = c.args.task.now in
    let all : drop c.loop-next.next-index c.args.moves.now ≡ [] = drop-end c.args.moves.now c.loop-next.next-index c.loop-next-test.false in
    refuted-if plan (map move_of c.args.moves.now) c.loop-next.breach c.loop-next.invariant.valid
    (subst AreEvents (sym (events-of c.args.moves.now))
    (subst AreEvents (take_all c.loop-next.next-index (map event_at c.args.moves.now)
    (subst (λ n. n ≤ c.loop-next.next-index) (sym (length-map c.args.moves.now event_at)) c.loop-next-test.false))
    c.loop-next.invariant.bytes))
    (leads-end plan (map move_of c.args.moves.now) (machine_world c.loop-next.machine) (option_map breach_of c.loop-next.breach)
    (subst (λ moves. Leads plan (map move_of c.args.moves.now) (machine_world c.loop-next.machine) (option_map breach_of c.loop-next.breach) (map move_of moves))
    all c.loop-next.invariant.leads))
