use Rattle.std.proofs.Common.{◌≡◌, ◌<◌, ℕ, List, Option, None, Some, IfSome, length, sym, subst, ◌∙◌}
use Rattle.std.proofs.lemmas.List.{length-map}
use Rattle.file_tree.specs.Nodes.{Node}
use Rattle.task.specs.Views.{node_of, nodes_of}
use Rattle.task_reader.specs.Reading.{number_of_path}
use Rattle.task_reader.proofs.IndexLaws.{there-numbered}
use Rattle.task_reader.proofs.indexes.number_at.Goals as goal

within : (made : List Node) (path : List ℕ) (at : Option ℕ) → at ≡ number_of_path made path → IfSome at (λ n. n < length made)
within made path None is = tt
within made path (Some n) is = there-numbered made path n (sym is)

pub returns-clause-within : goal.returns-clause-within
returns-clause-within c =
    let nodes = c.args.tree.now.nodes.items in
    let path = c.args.path.now in
    subst (λ count. IfSome c.copied.result (λ n. n < count)) (length-map nodes node_of)
    (within (nodes_of nodes) path c.copied.result (c.copied.ensures ∙ c.get.ensures.value ∙ c.requires.numbered path))
