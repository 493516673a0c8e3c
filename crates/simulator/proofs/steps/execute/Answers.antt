use Rattle.std.proofs.Common.{◌<◌, ◌≡◌, List, ap, length, subst, sym}
use Rattle.std.specs.Prelude.{Some}
use Rattle.std.specs.List.{slice_get}
use Rattle.fd_table.specs.Kept.{open_files}
use Rattle.process.specs.State.{ProcessState}
use Rattle.kernel.specs.Alike.{AlikeWorlds}
use Rattle.kernel.specs.Steps.{halted}
use Rattle.instruction_set.specs.Views.{instruction_of}
use Rattle.syscalls.specs.CallViews.{result_of as outcome_of}
use Rattle.syscalls.specs.MayCall.{CallComes, MayInvoke}
use Rattle.syscalls.specs.Views.{effects_in, event_of, world_of, world_with}
use Rattle.simulator.specs.Views.{result_of}
use Rattle.simulator.proofs.Doing.{calls_unchanged, ends_unchanged, executes_called, executes_ended, executes_moved, made_few, made_within, may_call, needs_next}
use Rattle.simulator.proofs.steps.execute.Goals as goal

pub act-requires : goal.act-requires
act-requires g c = needs_next (world_of g.T.Tree.nodes c.args.world.now) c.args.event.process (instruction_of c.args.instruction.now) c.index_mut.result.now c.requires.may c.index_mut.ensures.value

pub halt-requires-clause-made : goal.halt-requires-clause-made
halt-requires-clause-made g c =
    subst (λ (ps : List ProcessState). c.args.event.process < length ps)
    (sym (ends_unchanged (world_of g.T.Tree.nodes c.args.world.now) c.args.event.process c.index_mut.result.now c.act.new.process c.args.event.input
    c.index_mut.ensures.value (instruction_of c.args.instruction.now) c.requires.may c.in-Ends.ensures.action c.in-Ends.ensures.process))
    (made_within (world_of g.T.Tree.nodes c.args.world.now) c.args.event.process (instruction_of c.args.instruction.now) c.requires.may)

pub halt-requires-clause-few : goal.halt-requires-clause-few
halt-requires-clause-few g c = made_few (world_of g.T.Tree.nodes c.args.world.now) c.args.event.process (instruction_of c.args.instruction.now) c.requires.may

pub call-requires : goal.call-requires
call-requires g c =
    subst (λ (ps : List ProcessState). MayInvoke (world_with (g.T.Tree.nodes c.args.world.now.tree) (open_files c.args.world.now.files) ps) c.args.event.process
    (instruction_of c.args.instruction.now))
    (sym (calls_unchanged (world_of g.T.Tree.nodes c.args.world.now) c.args.event.process c.index_mut.result.now c.act.new.process c.args.event.input
    c.index_mut.ensures.value (instruction_of c.args.instruction.now) c.requires.may c.in-Calls.ensures.action c.in-Calls.ensures.process))
    (may_call (world_of g.T.Tree.nodes c.args.world.now) c.args.event.process (instruction_of c.args.instruction.now) c.requires.may c.in-Calls.ensures.action)

pub returns-in-Moves-clause-executes : goal.returns-in-Moves-clause-executes
returns-in-Moves-clause-executes g c =
    executes_moved (world_of g.T.Tree.nodes c.args.world.now) (event_of c.args.event) c.index_mut.result.now c.act.new.process (instruction_of c.args.instruction.now)
    (result_of c.without_effects.result.outcome) (effects_in (g.T.Tree.nodes c.args.world.now.tree) c.without_effects.result.effects) c.requires.may c.index_mut.ensures.value
    c.in-Moves.ensures.action c.in-Moves.ensures.process
    c.without_effects.ensures.outcome (ap (effects_in (g.T.Tree.nodes c.args.world.now.tree)) c.without_effects.ensures.effects)

pub returns-in-Moves-clause-there : goal.returns-in-Moves-clause-there
returns-in-Moves-clause-there g c = rw c.without_effects.ensures.effects tt

pub returns-in-Ends-clause-there : goal.returns-in-Ends-clause-there
returns-in-Ends-clause-there g c = rw c.halt.ensures.effects tt

pub returns-in-Ends-clause-executes : goal.returns-in-Ends-clause-executes
returns-in-Ends-clause-executes g c =
    executes_ended (world_of g.T.Tree.nodes c.args.world.now) (event_of c.args.event) (instruction_of c.args.instruction.now)
    (result_of c.halt.result.outcome) (effects_in (g.T.Tree.nodes c.halt.new.world.tree) c.halt.result.effects) _ c.requires.may c.in-Ends.ensures.action
    c.halt.ensures.outcome (ap (effects_in (g.T.Tree.nodes c.halt.new.world.tree)) c.halt.ensures.effects)
    (subst (λ (ps : List ProcessState). (s : ProcessState) → slice_get ps c.args.event.process ≡ Some s →
    AlikeWorlds (halted (world_with (g.T.Tree.nodes c.args.world.now.tree) (open_files c.args.world.now.files) ps) c.args.event.process s)
    (world_of g.T.Tree.nodes c.halt.new.world))
    (ends_unchanged (world_of g.T.Tree.nodes c.args.world.now) c.args.event.process c.index_mut.result.now c.act.new.process c.args.event.input
    c.index_mut.ensures.value (instruction_of c.args.instruction.now) c.requires.may c.in-Ends.ensures.action c.in-Ends.ensures.process)
    c.halt.ensures.world)

pub returns-in_ok-called-in-Calls-clause-executes : goal.returns-in_ok-called-in-Calls-clause-executes
returns-in_ok-called-in-Calls-clause-executes g c =
    let v = world_of g.T.Tree.nodes c.call.new.self in
    let shows = effects_in (g.T.Tree.nodes c.call.new.self.tree) c.in_ok-called-in-Calls.called.effects in
    let unchanged = calls_unchanged (world_of g.T.Tree.nodes c.args.world.now) c.args.event.process c.index_mut.result.now c.act.new.process
    c.args.event.input c.index_mut.ensures.value (instruction_of c.args.instruction.now) c.requires.may c.in-Calls.ensures.action
    c.in-Calls.ensures.process in
    executes_called (world_of g.T.Tree.nodes c.args.world.now) (event_of c.args.event) (instruction_of c.args.instruction.now) (result_of c.result_of_call.result) shows v c.requires.may
    (subst (λ told. CallComes (world_of g.T.Tree.nodes c.args.world.now) c.args.event.process (event_of c.args.event)
    (instruction_of c.args.instruction.now) told shows v) (sym c.result_of_call.ensures)
    (subst (λ (ps : List ProcessState). CallComes
    (world_with (g.T.Tree.nodes c.args.world.now.tree) (open_files c.args.world.now.files) ps) c.args.event.process (event_of c.args.event)
    (instruction_of c.args.instruction.now) (outcome_of c.in_ok-called-in-Calls.called.outcome) shows v) unchanged c.in_ok-called-in-Calls.ensures.comes))
