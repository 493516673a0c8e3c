use Rattle.std.proofs.Common.{◌∙◌, sym}
use Rattle.fd_table.specs.StoredViews.{tables_kept, held_kept}
use Rattle.fd_table.proofs.Counting.{count_map, counts_is}
use Rattle.fd_table.proofs.files.Files.count.Goals as goal

pub returns : goal.returns
returns c = rw (← c.self.view_is) (counts_is (tables_kept c.self.inside.tables) c.len.result c.self.invariant (c.len.ensures ∙ sym (count_map held_kept c.self.inside.tables.descriptions.slots)))
