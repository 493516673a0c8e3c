use Rattle.std.proofs.Common.{◌≡◌, ◌++◌, ◌∷◌, [], Some, length, sym, ap, subst, ◌∙◌}
use Rattle.std.specs.Map.{update}
use Rattle.std.specs.Str.{bytes_eq}
use Rattle.std.proofs.lemmas.List.{length-map, map-append}
use Rattle.std.proofs.lemmas.Map.Text.{hash_map_updates_str}
use Rattle.task.specs.Views.{node_of, nodes_of}
use Rattle.task_reader.specs.IndexViews.{IsIndex, IsPath, number_in}
use Rattle.task_reader.specs.WrittenViews.{node_seen}
use Rattle.task_reader.proofs.IndexLaws.{index-more, made-so}
use Rattle.task_reader.proofs.indexes.add_node.Goals as goal

pub returns-clause-index : goal.returns-clause-index
returns-clause-index c =
    let nodes = c.args.tree.now.nodes.items in
    let before = c.args.tree.now.numbers in
    let after = c.insert.new.self in
    let m = node_of c.args.made in
    let path = c.as_bytes.result.now in
    let so = made-so (nodes_of nodes) (node_seen c.args.written.now) m c.requires.made in
    let at : IsPath path m.place = subst (λ p. IsPath p m.place) (sym c.as_bytes.ensures.value) so.at_path in
    let updates = hash_map_updates_str path before after (Some c.len.result) c.in_ok-insert.ensures.updates in
    let count : c.len.result ≡ length (nodes_of nodes) = c.len.ensures ∙ c.args.tree.now.nodes.ok.0 ∙ sym (length-map nodes node_of) in
    let grown : IsIndex after (nodes_of nodes ++ m ∷ []) = index-more before after (nodes_of nodes) m path c.requires.index at so.linked so.free
    (λ text. updates text ∙ ap (λ n. update bytes_eq (number_in before) path (Some n) text) count) in
    subst (IsIndex after) (sym (ap nodes_of c.in_ok-push.ensures.items ∙ map-append node_of nodes (c.args.made ∷ []))) grown
