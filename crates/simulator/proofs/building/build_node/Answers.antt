use Rattle.std.proofs.Common.{sym, subst, ◌∙◌, ap, []}
use Rattle.file_tree.specs.Nodes.{File}
use Rattle.file_tree.specs.Changes.{filled}
use Rattle.file_tree.specs.Refusals.{created}
use Rattle.file_tree.specs.Views.{kind_of}
use Rattle.simulator.proofs.Built.{IsLast, created_last, filled_last}
use Rattle.simulator.proofs.building.build_node.Goals as goal

-- the new file is the last node
last : (g : _) (c : goal.After-deref-in-File g) → IsLast (g.T.Tree.nodes c.create_in-in-File.new.tree) c.in_ok-number-in-File.number
last g c =
    subst (λ t. IsLast t c.in_ok-number-in-File.number) (sym c.in_ok-number-in-File.ensures.nodes)
    (subst (IsLast (created (g.T.Tree.nodes c.args.tree.now) c.args.directory c.args.name.now File [])) (sym c.in_ok-number-in-File.ensures.number)
    (created_last (g.T.Tree.nodes c.args.tree.now) c.args.directory c.args.name.now))

pub write_content-requires-clause-there : goal.write_content-requires-clause-there
write_content-requires-clause-there g c = (last g c).there

pub write_content-requires-clause-file : goal.write_content-requires-clause-file
write_content-requires-clause-file g c = (last g c).file

pub write_content-requires-clause-empty : goal.write_content-requires-clause-empty
write_content-requires-clause-empty g c = (last g c).empty

pub returns-in_ok-write_content-in-File-clause-nodes : goal.returns-in_ok-write_content-in-File-clause-nodes
returns-in_ok-write_content-in-File-clause-nodes g c =
    c.in_ok-write_content-in-File.ensures
    ∙ (λ i. filled (c.in_ok-number-in-File.ensures.nodes i) (c.in_ok-number-in-File.ensures.number i) (c.deref-in-File.ensures.value i))
    ∙ filled_last (g.T.Tree.nodes c.args.tree.now) c.args.directory c.args.name.now c.args.node.now.content.items
    ∙ ap (λ k. created (g.T.Tree.nodes c.args.tree.now) c.args.directory c.args.name.now (kind_of k) c.args.node.now.content.items) (sym c.in-File.is)
    ∙ c.requires.made.makes
