use Rattle.std.proofs.Common.{◌≡◌, ◌-◌}
use Rattle.fd_table.specs.OpenFiles.{lowest_from}
use Rattle.fd_table.specs.Kept.{entry_at}
use Rattle.fd_table.proofs.entries.Entries.lowest.Given as goal

-- what is left decides it
abbrev pub invariant-loop-n : goal.invariant-loop-n
invariant-loop-n l = lowest_from (16 - l.n) l.n (entry_at l.self l.p) ≡ lowest_from (16 - l.from) l.from (entry_at l.self l.p)
