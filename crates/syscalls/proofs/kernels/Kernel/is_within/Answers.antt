use Rattle.std.proofs.Common.{ap, ◌∙◌}
use Rattle.file_tree.specs.Places.{begins, path_components}
use Rattle.file_tree.specs.Nodes.{node}
use Rattle.file_tree.proofs.PlaceTexts.{components_of_text, names_of_place}
use Rattle.syscalls.proofs.kernels.Kernel.is_within.Goals as goal

pub returns : goal.returns
returns g c =
    let t = g.T.Tree.nodes c.args.self.now.tree.now in
    let lower = (node t c.args.n).place in
    let upper = c.args.upper in
    c.place_begins.ensures
    ∙ ap (λ text. begins (path_components text) lower) c.requires.place
    ∙ ap (λ p. begins p lower) (components_of_text (node t upper).place (names_of_place t upper (c.requires.tree.limits upper c.requires.upper)))
