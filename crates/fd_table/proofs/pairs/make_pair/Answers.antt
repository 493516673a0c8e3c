use Rattle.std.proofs.Common.{ap, Some}
use Rattle.fd_table.specs.StoredViews.{pair_kept}
use Rattle.fd_table.proofs.SlabLaws.{slots_update}
use Rattle.fd_table.proofs.pairs.make_pair.Goals as goal

pub returns-clause-change : goal.returns-clause-change
returns-clause-change c = slots_update pair_kept c.args.pairs.now c.insert_reserved.new.self _ _ _ c.insert_reserved.ensures.updates (ap Some c.new.ensures)
