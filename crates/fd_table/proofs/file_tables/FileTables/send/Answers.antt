use Rattle.fd_table.specs.Descriptions.{message_of}
use Rattle.rights.specs.Views.{side_seen}
use Rattle.fd_table.specs.Kept.{open_files}
use Rattle.fd_table.specs.Holders.{empty_hand}
use Rattle.fd_table.specs.EntryViews.{entry_kept}
use Rattle.fd_table.specs.StoredViews.{tables_kept}
use Rattle.fd_table.proofs.Answering.{follows_itself}
use Rattle.fd_table.proofs.Following.{few_counts, follows_send}
use Rattle.fd_table.proofs.Sides.{side_small}
use Rattle.fd_table.proofs.file_tables.FileTables.send.Goals as goal

pub hold_named-requires-clause-few : goal.hold_named-requires-clause-few
hold_named-requires-clause-few c = few_counts (tables_kept c.args.self.now) (entry_kept c.args.passed) c.requires.kept c.requires.there c.note_few.ensures

pub returns-clause-ok : goal.returns-clause-ok
returns-clause-ok c =
    follows_send (open_files (tables_kept c.args.self.now)) (tables_kept c.args.self.now) _ _ c.args.end.pair (side_seen c.args.end.side)
    (side_seen c.args.end.side) (message_of c.args.byte (entry_kept c.args.passed))
    (follows_itself (tables_kept c.args.self.now) empty_hand c.requires.kept) c.requires.there c.hold_named.ensures c.requires.opened
    (rw c.number.ensures at c.in_ok-send_in.ensures.ok) (side_small c.args.end.side) c.requires.few
