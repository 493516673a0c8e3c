use Rattle.std.proofs.Common.{◌≡◌, ◌++◌, drop, map, option_map}
use Rattle.task_reader.specs.ApartViews.{granted_places}
use Rattle.task.specs.Views.{nodes_of}
use Rattle.task_reader.specs.WrittenViews.{grants_seen}
use Rattle.task_reader.proofs.placed_grants.grant_places.Given as goal

-- the places so far, and then those that are left
abbrev pub invariant-loop-grant : goal.invariant-loop-grant
invariant-loop-grant l =
    granted_places (nodes_of l.tree.nodes.items) (grants_seen l.written)
    ≡ option_map (λ rest. map (λ p. p.now) l.places.items ++ rest) (granted_places (nodes_of l.tree.nodes.items) (grants_seen (drop l.grant-index l.written)))
