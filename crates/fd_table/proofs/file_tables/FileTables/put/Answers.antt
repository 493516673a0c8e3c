use Rattle.fd_table.specs.StoredViews.{tables_kept}
use Rattle.fd_table.proofs.Answering.{follows_itself}
use Rattle.fd_table.proofs.file_tables.FileTables.put.Goals as goal

pub exchange-was-requires-clause-room : goal.exchange-was-requires-clause-room
exchange-was-requires-clause-room c = c.requires.kept.kept.room

pub release-requires : goal.release-requires
release-requires c =
    let moved = c.exchange-was.ensures.follows _ c.requires.kept.hand (follows_itself (tables_kept c.args.self.now) _ c.requires.kept.kept) in
    record { hand = c.requires.kept.hand; kept = moved.kept }

pub returns : goal.returns
returns c = λ f hand given. c.release.ensures _ hand (c.exchange-was.ensures.follows f hand given)
