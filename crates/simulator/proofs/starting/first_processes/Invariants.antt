use Rattle.std.proofs.Common.{◌≡◌, ◌++◌, drop, map}
use Rattle.task.specs.Begins.{first_process}
use Rattle.task.specs.Views.{programs_of, starts_of}
use Rattle.simulator.proofs.starting.first_processes.Given as goal

-- what is copied, and then what is left
abbrev pub invariant-loop-start : goal.invariant-loop-start
invariant-loop-start l =
    l.processes.items ++ map (first_process (programs_of l.programs)) (starts_of (drop l.start-index l.starts))
    ≡ map (first_process (programs_of l.programs)) (starts_of l.starts)
