use Rattle.std.proofs.Common.{sym, ap, ◌∙◌}
use Rattle.task_reader.specs.Paths.{path_names}
use Rattle.task_reader.proofs.PathTexts.{each-name, not-each}
use Rattle.task_reader.proofs.paths.read_names.Goals as goal

pub returns-then-not-are_path_names : goal.returns-then-not-are_path_names
returns-then-not-are_path_names c =
    sym (ap path_names (sym c.in_ok-place.ensures) ∙ not-each c.in_ok-place.place (sym c.are_path_names.ensures ∙ c.if-not-are_path_names.true))

pub returns : goal.returns
returns c = sym (ap path_names (sym c.in_ok-place.ensures) ∙ each-name c.in_ok-place.place (sym c.are_path_names.ensures ∙ c.if-not-are_path_names.false))
