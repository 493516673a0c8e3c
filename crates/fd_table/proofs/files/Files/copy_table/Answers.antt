use Rattle.fd_table.specs.StoredViews.{tables_kept}
use Rattle.fd_table.proofs.Answering.{alike_follows}
use Rattle.fd_table.proofs.files.Files.copy_table.Goals as goal

pub returns : goal.returns
returns c = rw (← c.self.view_is) (alike_follows _ (tables_kept c.copy_row.new.self) c.copy_row.ensures)
