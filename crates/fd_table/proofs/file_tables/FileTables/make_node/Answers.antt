use Rattle.fd_table.specs.Views.{access_asked}
use Rattle.fd_table.specs.Holders.{empty_hand}
use Rattle.fd_table.specs.StoredViews.{tables_kept}
use Rattle.fd_table.proofs.Making.{makes_node}
use Rattle.fd_table.proofs.Naming.{unnamed_vacant}
use Rattle.fd_table.proofs.file_tables.FileTables.make_node.Goals as goal

pub returns-clause-fresh : goal.returns-clause-fresh
returns-clause-fresh c =
    let vacant = rw c.in_ok-reserve.ensures.rest_kept at c.describe.ensures.vacant in
    unnamed_vacant (tables_kept c.args.self.now) c.describe.result empty_hand c.requires.kept vacant

pub returns-clause-follows : goal.returns-clause-follows
returns-clause-follows c = λ d is.
    let vacant = rw c.in_ok-reserve.ensures.rest_kept at c.describe.ensures.vacant in
    let change = rw (c.in_ok-reserve.ensures.rest_kept, c.opened_node.ensures) at c.describe.ensures.change in
    makes_node (tables_kept c.args.self.now) _ d c.describe.result c.args.node (access_asked c.args.flags) c.args.flags.append c.requires.kept is vacant change
