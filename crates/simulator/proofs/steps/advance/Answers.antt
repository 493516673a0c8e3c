use Rattle.std.proofs.Common.{◌<◌, ◌≤◌, ◌∙◌, List, ap, length, subst}
use Rattle.std.proofs.Math.ListN.{get_or}
use Rattle.std.proofs.lemmas.Option.{slice_get_past}
use Rattle.process.specs.State.{ProcessState}
use Rattle.syscalls.specs.Views.{effects_in, event_of, world_of}
use Rattle.task.specs.Plans.{programs_of_plan}
use Rattle.simulator.specs.Views.{result_of}
use Rattle.simulator.proofs.Doing.{stands, steps_done, steps_unmade}
use Rattle.simulator.proofs.steps.advance.Goals as goal

pub returns-in_default-clause-step : goal.returns-in_default-clause-step
returns-in_default-clause-step g c =
    steps_unmade (programs_of_plan c.args.task.now) (world_of g.T.Tree.nodes c.args.world.now) (event_of c.args.event) c.requires
    (slice_get_past c.args.world.now.processes.items c.args.event.process (subst (λ (ps : List ProcessState). length ps ≤ c.args.event.process) c.deref.ensures.value c.in_default.ensures.lookup.3))

pub step_process-requires-clause-made : goal.step_process-requires-clause-made
step_process-requires-clause-made g c = subst (λ (ps : List ProcessState). c.args.event.process < length ps) c.deref.ensures.value c.in-Some.ensures.lookup.3.0

pub returns-clause-step : goal.returns-clause-step
returns-clause-step g c =
    steps_done (programs_of_plan c.args.task.now) (world_of g.T.Tree.nodes c.args.world.now) (event_of c.args.event) c.process.inside.program c.process.inside.point
    (result_of c.in_ok-done.done.outcome) (effects_in (g.T.Tree.nodes c.step_process.new.world.tree) c.in_ok-done.done.effects) _
    (λ s made.
    let same = c.process.view_is ∙ stands c.args.world.now.processes.items c.args.event.process s c.in-Some.process.now made
    (c.in-Some.ensures.lookup.1 ∙ ap (λ (ps : List ProcessState). get_or ps c.args.event.process c.in-Some.process.now) c.deref.ensures.value) in
    (ap (λ (x : ProcessState). x.program) same, ap (λ (x : ProcessState). x.point) same))
    c.in_ok-done.ensures.does
