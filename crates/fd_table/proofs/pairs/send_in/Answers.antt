use Rattle.std.proofs.Common.{ap, Some}
use Rattle.fd_table.specs.Descriptions.{message_of}
use Rattle.rights.specs.Views.{side_seen}
use Rattle.fd_table.specs.Changes.{with_more}
use Rattle.fd_table.specs.EntryViews.{entry_kept}
use Rattle.fd_table.specs.StoredViews.{pair_kept}
use Rattle.fd_table.proofs.QueueLaws.{on_err_so, on_ok_so}
use Rattle.fd_table.proofs.SlabLaws.{slots_same, slots_set}
use Rattle.std.proofs.Common.{sym}
use Rattle.fd_table.proofs.pairs.send_in.Goals as goal

pub returns-clause-ok : goal.returns-clause-ok
returns-clause-ok c =
    on_ok_so c.push.result c.push.ensures.ok
    (λ is. slots_set pair_kept c.args.pairs.now.slots c.args.pair c.index_mut.result.now c.push.new.self
    (with_more (side_seen c.args.side) (message_of c.args.byte (entry_kept c.args.passed))) c.index_mut.ensures.value (ap Some (sym is)))

pub returns-clause-err : goal.returns-clause-err
returns-clause-err c =
    on_err_so c.push.result c.push.ensures.err
    (λ is. slots_same pair_kept c.args.pairs.now.slots c.args.pair c.index_mut.result.now c.push.new.self c.index_mut.ensures.value is)
