use Rattle.rules.proofs.Sound.{held_within}
use Rattle.rules.proofs.rows.WithinRows.{within_refuses}
use Rattle.rules.proofs.laws.what_is_held_is_within_the_authority.Goals as goal

pub returns-clause-held : goal.returns-clause-held
returns-clause-held c = held_within

pub returns-clause-refused : goal.returns-clause-refused
returns-clause-refused c = within_refuses
