use Rattle.std.proofs.Common.{ap, sym, Some}
use Rattle.rights.specs.Views.{side_seen}
use Rattle.fd_table.specs.Changes.{with_less}
use Rattle.fd_table.specs.StoredViews.{pair_kept}
use Rattle.fd_table.proofs.SlabLaws.{slots_set}
use Rattle.fd_table.proofs.pairs.take_in.Goals as goal

pub returns-clause-rest : goal.returns-clause-rest
returns-clause-rest c =
    slots_set pair_kept c.args.pairs.now.slots c.args.pair c.index_mut.result.now c.take.new.self (with_less (side_seen c.args.side)) c.index_mut.ensures.value (ap Some (sym c.take.ensures.rest))
