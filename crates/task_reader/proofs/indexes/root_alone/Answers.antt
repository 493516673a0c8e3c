use Rattle.std.proofs.Common.{rules, ◌≡◌, Some, sym, ap, subst, ◌∙◌}
use Rattle.std.specs.Map.{lookup, update}
use Rattle.std.specs.Str.{bytes_eq}
use Rattle.std.proofs.lemmas.Map.Text.{hash_map_updates_str}
use Rattle.file_tree.specs.Refusals.{new_tree}
use Rattle.task.specs.Views.{nodes_of}
use Rattle.task_reader.specs.IndexViews.{IsIndex, number_in}
use Rattle.task_reader.proofs.IndexLaws.{index-root}
use Rattle.task_reader.proofs.indexes.root_alone.Goals as goal

pub returns-clause-index : goal.returns-clause-index
returns-clause-index c =
    let before = c.in_ok-numbers.numbers in
    let after = c.insert.new.self in
    let slash = c.as_slice.result.now in
    let updates = hash_map_updates_str slash before after (Some 0) c.in_ok-insert.ensures.updates in
    let index : IsIndex after new_tree = index-root before after
    (λ text. ap (lookup (λ key. bytes_eq text key.now)) c.in_ok-numbers.ensures.empty)
    (λ text. updates text ∙ ap (λ s. update bytes_eq (number_in before) s (Some 0) text) c.as_slice.ensures) in
    let same : nodes_of c.push.new.self.items ≡ new_tree = search rules in
    subst (IsIndex after) (sym same) index
