use Rattle.std.proofs.Common.{◌≡◌, sym, ◌∙◌}
use Rattle.fd_table.specs.Views.{class_seen}
use Rattle.fd_table.specs.StoredViews.{tables_kept}
use Rattle.fd_table.proofs.Making.{makes_pair}
use Rattle.fd_table.proofs.file_tables.FileTables.make_ends.Goals as goal

pub returns-clause-made : goal.returns-clause-made
returns-clause-made c =
    let same : c.vacant_key.result ≡ c.make_pair.result = c.vacant_key.ensures.value ∙ sym c.make_pair.ensures.key in
    let vacant1 = rw c.in_ok-reserve.ensures.rest_kept at c.describe-first.ensures.vacant in
    let change1 = rw (c.in_ok-reserve.ensures.rest_kept, c.opened_end.ensures, c.at-pair.ensures, same) at c.describe-first.ensures.change in
    let change2 = rw (c.opened_end-2.ensures, c.at-pair.ensures, same) at c.describe-second.ensures.change in
    let vacant = rw c.in_ok-reserve-2.ensures.rest_kept at c.make_pair.ensures.vacant in
    let change = rw c.in_ok-reserve-2.ensures.rest_kept at c.make_pair.ensures.change in
    makes_pair (tables_kept c.args.self.now) _ _ _ c.describe-first.result c.describe-second.result c.make_pair.result (class_seen c.args.class) c.requires.kept
    vacant1 change1 c.describe-second.ensures.vacant change2 vacant change
