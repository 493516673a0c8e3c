use Rattle.std.proofs.Common.{ap, sym, ◌∙◌}
use Rattle.std.proofs.lemmas.List.{get_or-map}
use Rattle.file_tree.specs.Nodes.{nowhere}
use Rattle.fd_table.specs.Views.{access_seen}
use Rattle.task_reader.specs.Reading.{can_access, can_open}
use Rattle.task.specs.Views.{node_of}
use Rattle.task_reader.proofs.placed_starts.can_open.Goals as goal

pub returns : goal.returns
unfolding can_open
returns c =
    let m = c.index-nodes-number.result in
    c.can_access.ensures
    ∙ ap (λ x. can_access x (access_seen c.args.access))
    (sym (get_or-map node_of c.args.nodes.now c.args.number m nowhere c.requires ∙ ap node_of (sym c.index-nodes-number.is)))
