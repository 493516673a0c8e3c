use Rattle.fd_table.specs.Holders.{empty_hand}
use Rattle.fd_table.specs.EntryViews.{entry_kept}
use Rattle.fd_table.specs.StoredViews.{tables_kept}
use Rattle.fd_table.proofs.Following.{few_counts, follows_held}
use Rattle.fd_table.proofs.file_tables.FileTables.hold.Goals as goal

pub hold_named-requires-clause-few : goal.hold_named-requires-clause-few
hold_named-requires-clause-few c = few_counts (tables_kept c.args.self.now) (entry_kept c.args.held.now) c.requires.kept c.requires.there c.note_few.ensures

pub returns : goal.returns
returns c = λ f follows. follows_held f (tables_kept c.args.self.now) _ (entry_kept c.args.held.now) empty_hand follows c.requires.there c.hold_named.ensures
