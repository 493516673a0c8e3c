use Rattle.std.proofs.Common.{refl}
use Rattle.fd_table.specs.Changes.{described_as}
use Rattle.fd_table.specs.StoredViews.{description_kept, held_kept}
use Rattle.fd_table.proofs.SlabLaws.{slots_set}
use Rattle.fd_table.proofs.descriptions.set_description.Goals as goal

pub returns : goal.returns
returns c = slots_set held_kept _ c.args.n c.index_mut.result.now _ (described_as (description_kept c.args.description)) c.index_mut.ensures.value refl
