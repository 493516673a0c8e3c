use Rattle.std.proofs.Common.{◌≡◌, ◌++◌, drop}
use Rattle.simulator.proofs.copies.copy_processes.Given as goal

-- what is copied, and then what is left
abbrev pub invariant-loop-process : goal.invariant-loop-process
invariant-loop-process l = l.copies.items ++ drop l.process-index l.processes ≡ l.processes
