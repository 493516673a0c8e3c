use Rattle.std.proofs.Common.{ap, ◌∙◌}
use Rattle.fd_table.specs.Kept.{entry_at}
use Rattle.fd_table.specs.EntryViews.{entry_kept}
use Rattle.fd_table.specs.StoredViews.{tables_kept}
use Rattle.fd_table.proofs.Tables.{entry_set}
use Rattle.fd_table.proofs.Moving.{follows_exchange}
use Rattle.fd_table.proofs.file_tables.FileTables.exchange.Goals as goal

pub returns-clause-follows : goal.returns-clause-follows
returns-clause-follows c = λ f hand follows.
    let before = tables_kept c.args.self.now in
    rw c.at-was.ensures
    (follows_exchange f before c.set.new.self c.args.p c.args.n (entry_kept c.args.descriptor) hand follows c.requires.process c.requires.number
    c.set.ensures
    (ap entry_at c.set.ensures ∙ entry_set before.entries c.args.p c.args.n (entry_kept c.args.descriptor) c.requires.room c.requires.process c.requires.number))
