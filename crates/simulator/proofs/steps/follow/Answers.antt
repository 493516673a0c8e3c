use Rattle.std.proofs.Common.{◌∙◌, List, ap, sym}
use Rattle.std.specs.List.{slice_get}
use Rattle.process.specs.State.{ProcessState}
use Rattle.instruction_set.specs.Views.{instruction_of}
use Rattle.syscalls.specs.Views.{effects_in, event_of, world_of}
use Rattle.task.specs.Plans.{NamedProgram, code_in, programs_of_plan}
use Rattle.task.proofs.FirstWorlds.{first_well_formed}
use Rattle.simulator.specs.Views.{result_of}
use Rattle.simulator.proofs.Doing.{does_executed, does_nowhere, if_ok_so, made_at, may_follow}
use Rattle.simulator.proofs.steps.follow.Goals as goal

pub returns-in-None-clause-there : goal.returns-in-None-clause-there
returns-in-None-clause-there g c = rw c.without_effects.ensures.effects tt

pub returns-in-None-clause-does : goal.returns-in-None-clause-does
returns-in-None-clause-does g c =
    let made = made_at c.args.world.now.processes.items c.args.event.process c.index-process.result.now c.requires.made c.index-process.ensures in
    does_nowhere (programs_of_plan c.args.task.now) (world_of g.T.Tree.nodes c.args.world.now) (event_of c.args.event) c.index-process.result.now
    (c.requires.lives c.index-process.result.now made)
    (result_of c.without_effects.result.outcome) (effects_in (g.T.Tree.nodes c.args.world.now.tree) c.without_effects.result.effects) c.requires.good
    (c.requires.alone c.index-process.result.now made)
    (sym (ap (λ (t : ProcessState). slice_get (programs_of_plan c.args.task.now t.program) t.point) c.process.view_is)
    ∙ ap (λ (ps : List NamedProgram). slice_get (code_in (slice_get ps c.process.inside.program)) c.process.inside.point) (sym c.programs.ensures.programs) ∙ sym c.in-None.ensures)
    made c.without_effects.ensures.outcome (ap (effects_in (g.T.Tree.nodes c.args.world.now.tree)) c.without_effects.ensures.effects)

pub execute-requires : goal.execute-requires
execute-requires g c =
    let made = made_at c.args.world.now.processes.items c.args.event.process c.index-process.result.now c.requires.made c.index-process.ensures in
    record {
      may = may_follow (programs_of_plan c.args.task.now) (world_of g.T.Tree.nodes c.args.world.now) c.args.event.process c.index-process.result.now
          (instruction_of c.in-Some.instruction.now) (first_well_formed c.args.task.now c.programs.ensures.valid).0 c.requires.good made
          (c.requires.alone c.index-process.result.now made) (sym (ap (λ (t : ProcessState). slice_get (programs_of_plan c.args.task.now t.program) t.point) c.process.view_is)
          ∙ ap (λ (ps : List NamedProgram). slice_get (code_in (slice_get ps c.process.inside.program)) c.process.inside.point) (sym c.programs.ensures.programs) ∙ sym c.in-Some.ensures);
    }

pub returns-in-Some-clause-does : goal.returns-in-Some-clause-does
returns-in-Some-clause-does g c =
    let made = made_at c.args.world.now.processes.items c.args.event.process c.index-process.result.now c.requires.made c.index-process.ensures in
    if_ok_so c.execute.result _ _ (λ done. does_executed (programs_of_plan c.args.task.now) (world_of g.T.Tree.nodes c.args.world.now)
    (event_of c.args.event) c.index-process.result.now (c.requires.lives c.index-process.result.now made) (instruction_of c.in-Some.instruction.now)
    (result_of done.outcome) (effects_in (g.T.Tree.nodes c.execute.new.world.tree) done.effects) (world_of g.T.Tree.nodes c.execute.new.world)
    made (c.requires.alone c.index-process.result.now made) (sym (ap (λ (t : ProcessState). slice_get (programs_of_plan c.args.task.now t.program) t.point) c.process.view_is)
    ∙ ap (λ (ps : List NamedProgram). slice_get (code_in (slice_get ps c.process.inside.program)) c.process.inside.point) (sym c.programs.ensures.programs) ∙ sym c.in-Some.ensures))
    c.execute.ensures.executes
