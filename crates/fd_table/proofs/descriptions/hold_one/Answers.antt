use Rattle.std.proofs.Common.{refl}
use Rattle.fd_table.specs.Changes.{raised}
use Rattle.fd_table.specs.StoredViews.{held_kept}
use Rattle.fd_table.proofs.SlabLaws.{slots_set}
use Rattle.fd_table.proofs.descriptions.hold_one.Goals as goal

pub returns : goal.returns
returns c = slots_set held_kept _ c.args.n c.index_mut.result.now _ raised c.index_mut.ensures.value refl
