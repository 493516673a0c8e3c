use Rattle.std.proofs.Common.{◌≡◌, ◌++◌, map, drop}
use Rattle.task_reader.specs.Written.{names_of_programs}
use Rattle.task_reader.specs.WrittenViews.{programs_seen}
use Rattle.task_reader.proofs.readers.program_names.Given as goal

-- the names so far, and then those that are left
abbrev pub invariant-loop-program : goal.invariant-loop-program
invariant-loop-program l =
    names_of_programs (programs_seen l.programs) ≡ map (λ n. n.now) l.names.items ++ names_of_programs (programs_seen (drop l.program-index l.programs))
