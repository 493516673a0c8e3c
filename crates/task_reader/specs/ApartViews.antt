-- What the reader makes while there may be more grants and programs than a task has: places of grants, before any grant is
-- made, and as many programs as a task may have, once all are assembled. (own)
use Rattle.std.specs.Prelude.{ℕ, Bool, true, ◌&&◌, not, List, [], ◌∷◌, take, Option, Some, option_map, option_and_then, Result, Ok}
use Rattle.file_tree.specs.Nodes.{Node}
use Rattle.file_tree.specs.Places.{begins}
use Rattle.rights.specs.Limits.{most_programs}
use Rattle.task.specs.Plans.{NamedProgram}
use Rattle.task_reader.specs.Reading.{Mistake, ◌>>=◌, all_assembled, granted_place}
use Rattle.task_reader.specs.Written.{WrittenGrant, WrittenProgram}

-- the places of grants, if each is one that can be granted
abbrev pub granted_places : List Node → List WrittenGrant → Option (List (List (List ℕ)))
granted_places tree [] = Some []
granted_places tree (g ∷ grants) =
    option_and_then (λ p. option_map (λ rest. p ∷ rest) (granted_places tree grants)) (granted_place tree g.path)

-- places of which none begins with the one before it
abbrev pub none_begins_so : List (List (List ℕ)) → Bool
none_begins_so [] = true
none_begins_so (p ∷ []) = true
none_begins_so (p ∷ q ∷ places) = not (begins p q) && none_begins_so (q ∷ places)

-- the programs of a task that are kept
abbrev pub first_assembled : Bool → List WrittenProgram → Result (List NamedProgram) Mistake
first_assembled wide programs = do
  all ← all_assembled wide programs
  Ok (take most_programs all)
