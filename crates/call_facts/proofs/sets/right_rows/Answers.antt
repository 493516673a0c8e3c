use Rattle.call_facts.proofs.RightRows.{listed-all, listed-long}
use Rattle.call_facts.proofs.sets.right_rows.Goals as goal

pub slice_bounds-result-end : goal.slice_bounds-result-end
slice_bounds-result-end c = listed-long c.flags.result.now (c.flags.ensures tt)

pub returns : goal.returns
returns c = listed-all c.flags.result.now (c.flags.ensures tt)
