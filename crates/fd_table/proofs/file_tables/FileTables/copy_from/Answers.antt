use Rattle.std.proofs.Common.{ap, refl}
use Rattle.fd_table.specs.StoredViews.{held_kept, pair_kept}
use Rattle.fd_table.proofs.Copying.{slots_same}
use Rattle.fd_table.proofs.file_tables.FileTables.copy_from.Goals as goal

pub returns-clause-ok : goal.returns-clause-ok
returns-clause-ok c =
    let descriptions = slots_same _ held_kept (λ x y same. ap held_kept same) c.args.other.now.descriptions.slots _ c.in_ok-descriptions.ensures.cases.slots in
    let pairs = slots_same _ pair_kept (λ x y same. same) c.args.other.now.pairs.slots _ c.in_ok-pairs.ensures.cases.slots in
    rw (c.copy_from.ensures, descriptions, pairs) refl
