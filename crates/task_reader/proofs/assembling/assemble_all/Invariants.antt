use Rattle.std.proofs.Common.{◌≡◌, ◌≤◌, length, drop}
use Rattle.rights.specs.Limits.{most_programs}
use Rattle.task_reader.specs.ApartViews.{first_assembled}
use Rattle.task_reader.specs.Reading.{all_assembled}
use Rattle.task.specs.Views.{programs_of}
use Rattle.task_reader.specs.WrittenViews.{programs_seen}
use Rattle.task_reader.proofs.Passing.{after, few}
use Rattle.task_reader.proofs.assembling.assemble_all.Given as goal

-- the programs that are kept so far, and then those that are left
abbrev pub invariant-loop-program : goal.invariant-loop-program
invariant-loop-program l =
    (first_assembled l.wide (programs_seen l.written) ≡ few (after (programs_of l.programs.items) (all_assembled l.wide (programs_seen (drop l.program-index l.written)))))
    × (length l.programs.items ≤ most_programs)
