use Rattle.std.proofs.Common.{◌∙◌, List, ap, sym, subst}
use Rattle.std.specs.Prelude.{slice_set, IfOk}
use Rattle.fd_table.specs.Kept.{open_files}
use Rattle.process.specs.State.{ProcessState}
use Rattle.process.specs.Views.{deed_of}
use Rattle.kernel.specs.World.{World}
use Rattle.instruction_set.specs.Views.{instruction_of}
use Rattle.syscalls.specs.Views.{effects_in, event_of, world_of, world_with}
use Rattle.task.specs.Plans.{programs_of_plan}
use Rattle.simulator.specs.Deeds.{finished}
use Rattle.simulator.specs.Steps.{DoesAs, Executes, MayExecute}
use Rattle.simulator.specs.Views.{result_of}
use Rattle.simulator.proofs.Doing.{does_ended, made_at, put_back}
use Rattle.simulator.proofs.DeedsDone.{does_deed, made_then, may_do}
use Rattle.simulator.proofs.steps.step_process.Goals as goal

pub returns-then-not-process-clause-there : goal.returns-then-not-process-clause-there
returns-then-not-process-clause-there g c = rw c.without_effects.ensures.effects tt

pub returns-then-not-process-clause-does : goal.returns-then-not-process-clause-does
returns-then-not-process-clause-does g c =
    let x = c.index_mut-process.result.now in
    let ps = c.args.world.now.processes.items in
    let made = made_at ps c.args.event.process x c.requires.made c.index_mut-process.ensures.value in
    subst (λ (processes : List ProcessState). DoesAs (programs_of_plan c.args.task.now) (world_of g.T.Tree.nodes c.args.world.now) (event_of c.args.event)
    (result_of c.without_effects.result.outcome) (effects_in (g.T.Tree.nodes c.args.world.now.tree) c.without_effects.result.effects)
    (world_with (g.T.Tree.nodes c.args.world.now.tree) (open_files c.args.world.now.files) processes))
    (sym (put_back ps c.args.event.process x made))
    (does_ended (programs_of_plan c.args.task.now) (world_of g.T.Tree.nodes c.args.world.now) (event_of c.args.event) x
    (result_of c.without_effects.result.outcome) (effects_in (g.T.Tree.nodes c.args.world.now.tree) c.without_effects.result.effects) c.requires.good
    (sym (ap (λ (t : ProcessState). t.alive) c.process.view_is) ∙ c.if-not-process.true) made
    c.without_effects.ensures.outcome (ap (effects_in (g.T.Tree.nodes c.args.world.now.tree)) c.without_effects.ensures.effects))

pub returns-then-is_none-clause-does : goal.returns-then-is_none-clause-does
returns-then-is_none-clause-does g c =
    let x = c.index_mut-process.result.now in
    let ps = c.args.world.now.processes.items in
    let made = made_at ps c.args.event.process x c.requires.made c.index_mut-process.ensures.value in
    subst (λ (processes : List ProcessState). IfOk c.follow.result (λ done. DoesAs (programs_of_plan c.args.task.now)
    (world_with (g.T.Tree.nodes c.args.world.now.tree) (open_files c.args.world.now.files) processes) (event_of c.args.event)
    (result_of done.outcome) (effects_in (g.T.Tree.nodes c.follow.new.world.tree) done.effects) (world_of g.T.Tree.nodes c.follow.new.world)))
    (put_back ps c.args.event.process x made)
    c.follow.ensures.does

pub execute-requires : goal.execute-requires
execute-requires g c =
    let x = c.index_mut-process.result.now in
    let made = made_at c.args.world.now.processes.items c.args.event.process x c.requires.made c.index_mut-process.ensures.value in
    record {
      may = subst (λ (t : ProcessState). MayExecute (world_with (g.T.Tree.nodes c.args.world.now.tree) (open_files c.args.world.now.files)
          (slice_set c.args.world.now.processes.items c.args.event.process t)) c.args.event.process (instruction_of c.in-Some.deed.instruction))
          (sym (ap (λ (t : ProcessState). record t { point = 0 }) (c.process-2.view_is ∙ c.take_deed.ensures.left)))
          (may_do (programs_of_plan c.args.task.now) (world_of g.T.Tree.nodes c.args.world.now) c.requires.good c.args.event.process x (deed_of c.in-Some.deed) made
          (sym (ap (λ (t : ProcessState). t.alive) c.process.view_is) ∙ c.if-not-process.false) (sym c.in-Some.ensures.taken));
    }

pub finish_deed-requires : goal.finish_deed-requires
finish_deed-requires g c =
    made_then _ (event_of c.args.event) _ _ _ (world_of g.T.Tree.nodes c.execute.new.world) c.in_ok-done.ensures.executes

pub returns-clause-does : goal.returns-clause-does
returns-clause-does g c =
    let x = c.index_mut-process.result.now in
    let ps = c.args.world.now.processes.items in
    let made = made_at ps c.args.event.process x c.requires.made c.index_mut-process.ensures.value in
    let v : World = world_of g.T.Tree.nodes c.execute.new.world in
    let left = c.process-2.view_is ∙ c.take_deed.ensures.left in
    let is = c.finish_deed.ensures
    ∙ (λ k. record v {
      processes = finished (deed_of c.in-Some.deed) ((left k).point) c.args.event.process ((c.len-made.ensures ∙ c.args.world.now.processes.ok.0) k)
          (result_of c.in_ok-done.done.outcome) v.processes;
    })
    in
    subst (λ (u : World). DoesAs (programs_of_plan c.args.task.now) (world_of g.T.Tree.nodes c.args.world.now) (event_of c.args.event)
    (result_of c.in_ok-done.done.outcome) (effects_in u.tree c.in_ok-done.done.effects) u) (sym is)
    (does_deed (programs_of_plan c.args.task.now) (world_of g.T.Tree.nodes c.args.world.now) (event_of c.args.event) x (deed_of c.in-Some.deed)
    (result_of c.in_ok-done.done.outcome) (effects_in v.tree c.in_ok-done.done.effects) v c.requires.good made
    (sym (ap (λ (t : ProcessState). t.alive) c.process.view_is) ∙ c.if-not-process.false) (sym c.in-Some.ensures.taken)
    (subst (λ (t : ProcessState). Executes (world_with (g.T.Tree.nodes c.args.world.now.tree) (open_files c.args.world.now.files)
    (slice_set ps c.args.event.process t)) (event_of c.args.event) (instruction_of c.in-Some.deed.instruction)
    (result_of c.in_ok-done.done.outcome) (effects_in v.tree c.in_ok-done.done.effects) v)
    (ap (λ (t : ProcessState). record t { point = 0 }) left) c.in_ok-done.ensures.executes))
