use Rattle.task_reader.proofs.PathTexts.{path-text, text-path}
use Rattle.task_reader.proofs.laws.paths_are_texts.Goals as goal

pub returns : goal.returns
returns c = (path-text, text-path)
