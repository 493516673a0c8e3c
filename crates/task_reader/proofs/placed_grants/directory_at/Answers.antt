use Rattle.std.proofs.Common.{◌≡◌, inl, inr, None, Some, true, false, option_map, sym, ap, ◌∙◌}
use Rattle.std.proofs.lemmas.List.{get_or-map}
use Rattle.file_tree.specs.Nodes.{is_dir, node, nowhere}
use Rattle.file_tree.specs.Views.{kind_of}
use Rattle.task.specs.Views.{node_of, nodes_of}
use Rattle.task_reader.specs.Reading.{number_of_path}
use Rattle.task_reader.proofs.IndexLaws.{granted-nowhere, granted-there}
use Rattle.task_reader.proofs.placed_grants.directory_at.Goals as goal

pub returns-in_err-number : goal.returns-in_err-number
returns-in_err-number c =
    let made = nodes_of c.args.tree.now.nodes.items in
    let path = c.args.path.now in
    let none : number_of_path made path ≡ None = ap (number_of_path made) (sym c.as_bytes.ensures.value) ∙ sym c.in_err-number.ensures.value in
    ap (option_map (λ p. p.now)) c.from_residual.ensures ∙ sym (granted-nowhere c.args.tree.now.numbers made path c.requires none)

pub returns-in-Dir : goal.returns-in-Dir
returns-in-Dir c =
    let nodes = c.args.tree.now.nodes.items in
    let made = nodes_of nodes in
    let path = c.args.path.now in
    let n = c.in_ok-number.number in
    let there : number_of_path made path ≡ Some n = ap (number_of_path made) (sym c.as_bytes.ensures.value) ∙ sym c.in_ok-number.ensures.value in
    let is : node made n ≡ node_of c.index-node.result.now = get_or-map node_of nodes n c.index-node.result.now nowhere c.in_ok-number.ensures.within ∙ ap node_of (sym c.index-node.ensures) in
    let kind : is_dir (node made n).kind ≡ true = ap (λ m. is_dir m.kind) is ∙ ap (λ k. is_dir (kind_of k)) c.in-Dir.is in
    ap Some (sym (ap (λ m. m.place) is)) ∙ sym (granted-there c.args.tree.now.numbers made path n true c.requires there kind)

pub returns-in-File : goal.returns-in-File
returns-in-File c =
    let nodes = c.args.tree.now.nodes.items in
    let made = nodes_of nodes in
    let path = c.args.path.now in
    let n = c.in_ok-number.number in
    let there : number_of_path made path ≡ Some n = ap (number_of_path made) (sym c.as_bytes.ensures.value) ∙ sym c.in_ok-number.ensures.value in
    let is : node made n ≡ node_of c.index-node.result.now = get_or-map node_of nodes n c.index-node.result.now nowhere c.in_ok-number.ensures.within ∙ ap node_of (sym c.index-node.ensures) in
    let kind : is_dir (node made n).kind ≡ false =
    ap (λ m. is_dir m.kind) is ∙ elim c.in-File.is [ inl file ↦ ap (λ k. is_dir (kind_of k)) file | inr link ↦ ap (λ k. is_dir (kind_of k)) link ] in
    sym (granted-there c.args.tree.now.numbers made path n false c.requires there kind)
