use Rattle.std.proofs.Common.{None}
use Rattle.fd_table.specs.StoredViews.{tables_kept}
use Rattle.fd_table.proofs.Following.{IsFollowing}
use Rattle.fd_table.proofs.file_tables.FileTables.clear_row.Given as goal

abbrev pub invariant-loop-n : goal.invariant-loop-n
invariant-loop-n l = IsFollowing (tables_kept l.fn.self) (tables_kept l.self) l.p l.n (λ n. None)
