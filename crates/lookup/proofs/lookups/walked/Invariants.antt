use Rattle.std.proofs.Common.{◌≡◌}
use Rattle.lookup.specs.Looks.{walk_of}
use Rattle.lookup.specs.Views.{last_of, way_of}
use Rattle.lookup.specs.Walks.{IsInTree, work_left}
use Rattle.lookup.proofs.Walking.{rest_of_walk}
use Rattle.lookup.proofs.lookups.walked.Given as goal

-- what is left leads to what the whole leads to
abbrev pub invariant-loop-walk : goal.invariant-loop-walk
invariant-loop-walk g l = record {
  in_tree : IsInTree (g.T.Tree.nodes l.tree) l.walk;
  rest : rest_of_walk (g.T.Tree.nodes l.tree) l.walk ≡ walk_of (g.T.Tree.nodes l.tree) l.fn.start l.fn.path (way_of l.fn.way) (last_of l.fn.last);
}

abbrev pub decreases-loop-walk : goal.decreases-loop-walk
decreases-loop-walk g l = work_left l.walk
