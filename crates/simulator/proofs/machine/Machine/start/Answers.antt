use Rattle.simulator.proofs.machine.Machine.start.Goals as goal

pub invariant_of-result : goal.invariant_of-result
invariant_of-result g c = record { valid = c.in_ok-world.ensures.valid; good = λ _. c.in_ok-world.ensures.good }
