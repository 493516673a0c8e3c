use Rattle.fd_table.specs.Views.{descriptor_seen}
use Rattle.fd_table.specs.StoredViews.{tables_kept}
use Rattle.fd_table.proofs.Following.{endable}
use Rattle.fd_table.proofs.Releasing.{follows_release}
use Rattle.fd_table.proofs.file_tables.FileTables.release.Goals as goal

pub close_ended-requires : goal.close_ended-requires
close_ended-requires c =
    rw (c.release_one-ended.ensures.ended, c.number.ensures) (endable (tables_kept c.args.self.now) (descriptor_seen c.in-Some.descriptor) _ c.requires.kept)

pub returns-in-Some : goal.returns-in-Some
returns-in-Some c = λ f hand follows.
    follows_release f (tables_kept c.args.self.now) _ _ (descriptor_seen c.in-Some.descriptor) hand (rw c.in-Some.is at follows)
    (rw c.number.ensures at c.release_one-ended.ensures.change)
    (rw (c.release_one-ended.ensures.ended, c.number.ensures) at c.close_ended.ensures)
