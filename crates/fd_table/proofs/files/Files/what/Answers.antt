use Rattle.fd_table.specs.Holders.{empty_hand}
use Rattle.fd_table.specs.StoredViews.{tables_kept}
use Rattle.fd_table.proofs.Answering.{there_named}
use Rattle.fd_table.proofs.files.Files.what.Goals as goal

pub description_of-requires : goal.description_of-requires
description_of-requires c = rw c.number.ensures (there_named (tables_kept c.self.inside.tables) c.args.d empty_hand c.self.invariant (rw (← c.self.view_is) at c.requires))
