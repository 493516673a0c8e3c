use Rattle.commands.proofs.Listings.{own-listed, own-many}
use Rattle.commands.proofs.reporting.named_rights.Goals as goal

pub slice_bounds-result-end : goal.slice_bounds-result-end
slice_bounds-result-end c = own-many c.flags.result.now (c.flags.ensures tt)

pub returns : goal.returns
returns c = own-listed c.flags.result.now (c.flags.ensures tt)
