use Rattle.task.specs.Plans.{program_name}
use Rattle.explain.specs.Listing.{TellsWarning}
use Rattle.explain.specs.ObservedViews.{headed}
use Rattle.explain.proofs.Writing.{empty_written, first_written}
use Rattle.explain.proofs.observations.+add_warnings.Goals as goal

pub returns-in-empty : goal.returns-in-empty
returns-in-empty t c = empty_written (TellsWarning (program_name c.args.scene.now.task.now c.args.program)) headed c.args.page.now c.args.warnings.now c.in-empty.len_below

pub returns-in-len1-up : goal.returns-in-len1-up
returns-in-len1-up t c =
    first_written (TellsWarning (program_name c.args.scene.now.task.now c.args.program)) headed c.args.page.now c.add_warning.new.page c.add_warnings.new.page
    c.args.warnings.now c.first-item.result c.in-len1-up.len_at_least c.first-item.is c.add_warning.ensures c.add_warnings.ensures
