use Rattle.std.proofs.Common.{refl}
use Rattle.fd_table.specs.StoredViews.{held_kept}
use Rattle.fd_table.proofs.SlabLaws.{none_map, slots_update}
use Rattle.fd_table.proofs.descriptions.describe.Goals as goal

pub returns-clause-vacant : goal.returns-clause-vacant
returns-clause-vacant c = none_map held_kept c.args.descriptions.now.slots c.insert_reserved.result c.insert_reserved.ensures.was_vacant

pub returns-clause-change : goal.returns-clause-change
returns-clause-change c = slots_update held_kept _ _ _ _ _ c.insert_reserved.ensures.updates refl
