use Rattle.fd_table.proofs.Beginning.{new_is_empty, new_is_kept}
use Rattle.fd_table.proofs.file_tables.FileTables.new.Goals as goal

pub returns-clause-kept : goal.returns-clause-kept
returns-clause-kept c = rw (c.new-2.ensures.empty, c.new-3.ensures.empty) (new_is_kept _ c.in_ok-entries.ensures)

pub returns-clause-empty : goal.returns-clause-empty
returns-clause-empty c = rw (c.new-2.ensures.empty, c.new-3.ensures.empty) (new_is_empty _ c.in_ok-entries.ensures)
