use Rattle.fd_table.specs.Views.{descriptor_seen}
use Rattle.fd_table.specs.Holders.{empty_hand}
use Rattle.fd_table.specs.StoredViews.{tables_kept}
use Rattle.fd_table.proofs.Answering.{alike_follows}
use Rattle.fd_table.proofs.files.Files.open_node.Goals as goal

pub put-requires-clause-kept : goal.put-requires-clause-kept
put-requires-clause-kept c =
    let made = c.in_ok-number.ensures.follows (descriptor_seen (record { description = c.at.result; rights = c.args.rights; fcntls = c.args.fcntls })) c.at.ensures in
    record { hand = empty_hand; kept = made.kept }

pub invariant_of-self-2 : goal.invariant_of-self-2
invariant_of-self-2 c =
    let opened = c.put.ensures _ empty_hand (c.in_ok-number.ensures.follows (descriptor_seen (record { description = c.at.result; rights = c.args.rights; fcntls = c.args.fcntls })) c.at.ensures) in
    opened.kept

pub returns-clause-ok : goal.returns-clause-ok
returns-clause-ok c =
    let opened = c.put.ensures _ empty_hand (c.in_ok-number.ensures.follows (descriptor_seen (record { description = c.at.result; rights = c.args.rights; fcntls = c.args.fcntls })) c.at.ensures) in
    rw (← c.self.view_is)
    (record {
      description = c.in_ok-number.number;
      fresh = c.in_ok-number.ensures.fresh;
      alike = rw c.at.ensures at (alike_follows _ (tables_kept c.put.new.self) opened);
    })
