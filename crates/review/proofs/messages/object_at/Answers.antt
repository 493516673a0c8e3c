use Rattle.std.proofs.Common.{refl, sym}
use Rattle.fd_table.specs.Filled.{by_entry}
use Rattle.review.proofs.messages.object_at.Goals as goal

pub what-what-requires : goal.what-what-requires
what-what-requires c = by_entry c.args.process c.args.number _ (sym c.in-Some.ensures) refl
