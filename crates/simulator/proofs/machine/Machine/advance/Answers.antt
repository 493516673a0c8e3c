use Rattle.fd_table.specs.Kept.{open_files}
use Rattle.kernel.specs.WellFormed.{IsWellFormed}
use Rattle.syscalls.specs.Views.{event_of, world_with}
use Rattle.task.specs.Plans.{programs_of_plan}
use Rattle.task.proofs.FirstWorlds.{first_well_formed}
use Rattle.simulator.proofs.Tracing.{steps_good}
use Rattle.simulator.proofs.machine.Machine.advance.Goals as goal

good : (g : _) (c : goal.In-Ok g) → IsWellFormed (programs_of_plan c.self.inside.task.now)
    (world_with (g.T.Tree.nodes c.advance.new.world.tree) (open_files c.advance.new.world.files) c.advance.new.world.processes.items)
good g c =
    steps_good (programs_of_plan c.self.inside.task.now) _ _ (event_of c.args.event) _ (first_well_formed c.self.inside.task.now c.self.invariant.valid).0
    (c.self.invariant.good c.if-self.false) c.in-Ok.ensures.byte c.in-Ok.ensures.step

pub invariant_of-self : goal.invariant_of-self
invariant_of-self g c = record { valid = c.self.invariant.valid; good = λ _. good g c }

pub returns-in-Ok-clause-well_formed : goal.returns-in-Ok-clause-well_formed
returns-in-Ok-clause-well_formed g c = good g c
