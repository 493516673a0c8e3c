use Rattle.std.proofs.Common.{◌∙◌, sym, arith}
use Rattle.rights.specs.Sides.{other_side}
use Rattle.rights.specs.Views.{side_seen}
use Rattle.fd_table.specs.Kept.{open_files}
use Rattle.fd_table.specs.Holders.{empty_hand}
use Rattle.fd_table.specs.EntryViews.{entry_kept}
use Rattle.fd_table.specs.StoredViews.{tables_kept}
use Rattle.fd_table.proofs.Answering.{alike_follows, end_open, open_is, there_passed}
use Rattle.fd_table.proofs.QueueLaws.{on_ok, on_ok_so}
use Rattle.fd_table.proofs.Refusals.{closed_is, full_is, none_is}
use Rattle.fd_table.proofs.files.Files.send.Goals as goal

pub returns-then-not-is_end_open-clause-refused : goal.returns-then-not-is_end_open-clause-refused
returns-then-not-is_end_open-clause-refused c =
    let found = open_is (tables_kept c.self.inside.tables) c.args.end.pair (other_side (side_seen c.args.end.side)) c.self.invariant ∙ sym (rw c.other.ensures at c.is_end_open.ensures) in
    rw (← c.self.view_is) (λ _. closed_is (open_files (tables_kept c.self.inside.tables)) c.args.end.pair (side_seen c.args.end.side) (found ∙ c.if-not-is_end_open.true))

pub returns-then-messages_in-ge-MAX_MESSAGES-clause-refused : goal.returns-then-messages_in-ge-MAX_MESSAGES-clause-refused
unfolding open_files
returns-then-messages_in-ge-MAX_MESSAGES-clause-refused c =
    let found = open_is (tables_kept c.self.inside.tables) c.args.end.pair (other_side (side_seen c.args.end.side)) c.self.invariant ∙ sym (rw c.other.ensures at c.is_end_open.ensures) in
    let many = rw c.number.ensures at c.messages_in.ensures in
    rw (← c.self.view_is) (λ _. full_is (open_files (tables_kept c.self.inside.tables)) c.args.end.pair (side_seen c.args.end.side) (found ∙ c.if-not-is_end_open.false) (omega (arith, many)))

pub send-requires-clause-opened : goal.send-requires-clause-opened
send-requires-clause-opened c = end_open (tables_kept c.self.inside.tables) c.args.end.pair (side_seen c.args.end.side) empty_hand c.self.invariant (rw (← c.self.view_is) at c.requires.there)

pub send-requires-clause-there : goal.send-requires-clause-there
send-requires-clause-there c = there_passed (tables_kept c.self.inside.tables) (entry_kept c.args.passed) empty_hand c.self.invariant (rw (← c.self.view_is) at c.requires.named)

pub returns-clause-ok : goal.returns-clause-ok
returns-clause-ok c = rw (← c.self.view_is) (on_ok_so c.send.result c.send.ensures.ok (λ is. alike_follows _ (tables_kept c.send.new.self) is))

pub returns-clause-allowed : goal.returns-clause-allowed
unfolding open_files
returns-clause-allowed c =
    let found = open_is (tables_kept c.self.inside.tables) c.args.end.pair (other_side (side_seen c.args.end.side)) c.self.invariant ∙ sym (rw c.other.ensures at c.is_end_open.ensures) in
    let few = rw c.number.ensures at c.messages_in.ensures in
    rw (← c.self.view_is) (on_ok c.send.result
    (none_is (open_files (tables_kept c.self.inside.tables)) c.args.end.pair (side_seen c.args.end.side) (found ∙ c.if-not-is_end_open.false)
    (omega (arith, few))))
