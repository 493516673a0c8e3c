use Rattle.std.proofs.Common.{◌≡◌, ◌++◌, map, drop}
use Rattle.task_reader.specs.Written.{names_of_grants}
use Rattle.task_reader.specs.WrittenViews.{grants_seen}
use Rattle.task_reader.proofs.readers.grant_names.Given as goal

-- the names so far, and then those that are left
abbrev pub invariant-loop-grant : goal.invariant-loop-grant
invariant-loop-grant l =
    names_of_grants (grants_seen l.grants) ≡ map (λ n. n.now) l.names.items ++ names_of_grants (grants_seen (drop l.grant-index l.grants))
