use Rattle.std.proofs.Common.{◌≡◌, Bool, true, false, sym, ap, ◌∙◌}
use Rattle.std.specs.Prelude.{not}
use Rattle.std.specs.Option.{is_some, option_and_then}
use Rattle.file_tree.specs.Nodes.{node_at}
use Rattle.file_tree.specs.Places.{above}
use Rattle.file_tree.specs.WellFormed.{has_directory}
use Rattle.task.specs.Views.{nodes_of}
use Rattle.task_reader.specs.IndexViews.{is_directory}
use Rattle.task_reader.specs.Reading.{number_of_path}
use Rattle.task_reader.proofs.IndexLaws.{above-directory, can-stand, cannot-stand}
use Rattle.task_reader.proofs.indexes.can_stand.Goals as goal

turned : (a b : Bool) → a ≡ not b → b ≡ not a
turned a true is = ap not (sym is)
turned a false is = ap not (sym is)

pub returns-then-is_directory : goal.returns-then-is_directory
returns-then-is_directory c =
    let made = nodes_of c.args.tree.now.nodes.items in
    let place = c.args.place.now in
    let at = c.number_at.ensures.value ∙ ap (option_and_then (node_at made)) c.requires.path in
    let same : c.is_directory.result ≡ has_directory made (above place) =
    c.is_directory.ensures ∙ ap (λ text. is_directory made (number_of_path made text)) c.text_above.ensures
    ∙ above-directory c.args.tree.now.numbers made c.args.path.now place c.requires.index c.requires.path in
    turned (is_some c.number_at.result) c.is_none-is_free.result c.is_none-is_free.ensures
    ∙ sym (can-stand made place c.number_at.result (sym same ∙ c.if-is_directory.true) (sym at))

pub returns-else-is_directory : goal.returns-else-is_directory
returns-else-is_directory c =
    let made = nodes_of c.args.tree.now.nodes.items in
    let place = c.args.place.now in
    let same : c.is_directory.result ≡ has_directory made (above place) =
    c.is_directory.ensures ∙ ap (λ text. is_directory made (number_of_path made text)) c.text_above.ensures
    ∙ above-directory c.args.tree.now.numbers made c.args.path.now place c.requires.index c.requires.path in
    c.if-is_directory.false ∙ sym (cannot-stand made place (sym same ∙ c.if-is_directory.false))
