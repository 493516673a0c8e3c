use Rattle.std.proofs.Common.{◌≡◌, ◌++◌, drop, option_map}
use Rattle.task_reader.specs.Reading.{grants_placed}
use Rattle.task.specs.Views.{grants_of, nodes_of}
use Rattle.task_reader.specs.WrittenViews.{grants_seen}
use Rattle.task_reader.proofs.placed_grants.make_grants.Given as goal

-- the grants so far, and then those that are left
abbrev pub invariant-loop-grant : goal.invariant-loop-grant
invariant-loop-grant l =
    grants_placed (nodes_of l.tree.nodes.items) (grants_seen l.written)
    ≡ option_map (λ rest. grants_of l.grants.items ++ rest) (grants_placed (nodes_of l.tree.nodes.items) (grants_seen (drop l.grant-index l.written)))
