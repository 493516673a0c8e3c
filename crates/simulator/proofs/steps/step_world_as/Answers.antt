use Rattle.std.proofs.Common.{sym, subst}
use Rattle.std.specs.Prelude.{IfOk, OnOk, Ok, Err, Result}
use Rattle.instruction_set.specs.Views.{instruction_of}
use Rattle.kernel.specs.Answers.{Event, IsEvent}
use Rattle.kernel.specs.Hostile.{Does}
use Rattle.kernel.specs.Steps.{Programs}
use Rattle.kernel.specs.WellFormed.{ArePrograms, IsWellFormed}
use Rattle.kernel.specs.World.{World}
use Rattle.kernel.proofs.Hostile.{about_well_formed}
use Rattle.syscalls.specs.Views.{event_of, world_of}
use Rattle.task.specs.Plans.{programs_of_plan}
use Rattle.task.proofs.FirstWorlds.{first_well_formed}
use Rattle.simulator.specs.Lines.{Line}
use Rattle.simulator.specs.Steps.{StepsMachine}
use Rattle.simulator.specs.Views.{line_of}
use Rattle.simulator.proofs.Tracing.{steps_good}
use Rattle.simulator.proofs.steps.step_world_as.Goals as goal

stays_good : {A E : Type 0} (programs : Programs) (w next : World) (e : Event) (line : A → Line) (r : Result A E) → ArePrograms programs → IsWellFormed programs w → IsEvent e →
    IfOk r (λ told. StepsMachine programs w e (line told) next) → OnOk r (IsWellFormed programs next)
stays_good programs w next e line (Ok told) valid good byte is = steps_good programs w next e (line told) valid good byte is
stays_good programs w next e line (Err error) valid good byte is = tt

pub step_world-requires : goal.step_world-requires
step_world-requires g c =
    subst (IsWellFormed (programs_of_plan c.args.task.now)) (sym c.in_ok-hand.ensures.handed)
    (about_well_formed (programs_of_plan c.args.task.now) (world_of g.T.Tree.nodes c.args.world.now) c.args.event.process
    (Does (record { instruction = instruction_of c.args.instruction.now; registers = c.args.registers; point = c.args.point }))
    c.requires.good (c.in_ok-hand.ensures.deed (programs_of_plan c.args.task.now) c.requires.placed))

pub returns-clause-step : goal.returns-clause-step
returns-clause-step g c =
    subst (λ (v : World). IfOk c.step_world.result (λ line. StepsMachine (programs_of_plan c.args.task.now) v (event_of c.args.event) (line_of line)
    (world_of g.T.Tree.nodes c.step_world.new.world))) c.in_ok-hand.ensures.handed c.step_world.ensures.step

pub returns-clause-good : goal.returns-clause-good
returns-clause-good g c =
    stays_good (programs_of_plan c.args.task.now) (world_of g.T.Tree.nodes c.hand.new.world) (world_of g.T.Tree.nodes c.step_world.new.world) (event_of c.args.event) line_of
    c.step_world.result (first_well_formed c.args.task.now c.requires.valid).0
    (subst (IsWellFormed (programs_of_plan c.args.task.now)) (sym c.in_ok-hand.ensures.handed)
    (about_well_formed (programs_of_plan c.args.task.now) (world_of g.T.Tree.nodes c.args.world.now) c.args.event.process
    (Does (record { instruction = instruction_of c.args.instruction.now; registers = c.args.registers; point = c.args.point }))
    c.requires.good (c.in_ok-hand.ensures.deed (programs_of_plan c.args.task.now) c.requires.placed)))
    c.step_world.ensures.byte c.step_world.ensures.step
