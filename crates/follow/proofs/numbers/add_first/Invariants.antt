use Rattle.std.proofs.Common.{◌≡◌, ◌++◌, drop}
use Rattle.task.specs.Views.{starts_of}
use Rattle.follow.specs.Numbers.{first_mappings}
use Rattle.follow.specs.Views.{mappings_seen}
use Rattle.follow.proofs.numbers.add_first.Given as goal

-- what is added, and then the processes that are left
abbrev pub invariant-loop-process : goal.invariant-loop-process
invariant-loop-process l =
    mappings_seen l.mappings.items ++ first_mappings l.process (starts_of (drop l.process l.starts))
    ≡ mappings_seen l.fn.mappings.items ++ first_mappings 0 (starts_of l.starts)
