use Rattle.std.proofs.Common.{◌≡◌, take}
use Rattle.file_tree.specs.Changes.{filled}
use Rattle.simulator.proofs.building.write_content.Given as goal

-- so much of the content is written
abbrev pub invariant-loop-at : goal.invariant-loop-at
invariant-loop-at g l = g.T.Tree.nodes l.tree ≡ filled (g.T.Tree.nodes l.fn.tree) l.file (take l.at l.content)
