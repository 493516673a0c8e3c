use Rattle.explain.specs.Listing.{TellsRemark}
use Rattle.explain.specs.ObservedViews.{headed}
use Rattle.explain.proofs.Writing.{empty_written, first_written}
use Rattle.explain.proofs.observations.+add_remarks.Goals as goal

pub returns-in-empty : goal.returns-in-empty
returns-in-empty t c = empty_written (TellsRemark c.args.indent.now) headed c.args.page.now c.args.remarks.now c.in-empty.len_below

pub returns-in-len1-up : goal.returns-in-len1-up
returns-in-len1-up t c =
    first_written (TellsRemark c.args.indent.now) headed c.args.page.now c.add_remark.new.page c.add_remarks.new.page c.args.remarks.now c.first-item.result c.in-len1-up.len_at_least c.first-item.is
    c.add_remark.ensures c.add_remarks.ensures
