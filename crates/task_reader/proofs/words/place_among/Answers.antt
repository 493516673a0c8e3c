use Rattle.std.proofs.Common.{◌∙◌}
use Rattle.task_reader.proofs.OnceLaws.{place-among}
use Rattle.task_reader.proofs.words.place_among.Goals as goal

pub returns : goal.returns
returns c = c.get_index_of.ensures.index ∙ place-among c.args.names.now.keys c.args.word.now
