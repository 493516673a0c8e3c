use Rattle.std.proofs.Common.{ap, ◌∙◌}
use Rattle.fd_table.specs.Kept.{entry_at}
use Rattle.fd_table.specs.Views.{descriptor_seen}
use Rattle.fd_table.specs.StoredViews.{tables_kept}
use Rattle.fd_table.proofs.Tables.{entry_set, there_within}
use Rattle.fd_table.proofs.Moving.{follows_limit}
use Rattle.fd_table.proofs.file_tables.FileTables.limit.Goals as goal

pub returns-in-Some : goal.returns-in-Some
returns-in-Some c = λ f hand follows.
    let before = tables_kept c.args.self.now in
    let within = there_within before.entries c.args.p c.args.n c.requires.room c.requires.there in
    follows_limit f before c.set.new.self c.args.p c.args.n
    (descriptor_seen c.in-Some.descriptor) c.args.rights.0 c.args.fcntls.0 hand follows within.0 within.1
    c.in-Some.ensures
    c.set.ensures
    (ap entry_at c.set.ensures ∙ entry_set before.entries c.args.p c.args.n _ c.requires.room within.0 within.1)
