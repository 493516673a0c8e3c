use Rattle.std.proofs.Common.{ap, ◌∙◌}
use Rattle.texts.specs.Words.{is_used_up}
use Rattle.texts.proofs.WordLaws.{none-left}
use Rattle.texts.proofs.words.Words.is_done.Goals as goal

pub returns : goal.returns
returns c = none-left c.is_none.result c.self.inside.rest c.is_none.ensures ∙ ap is_used_up c.self.view_is
