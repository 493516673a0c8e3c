use Rattle.commands.proofs.Rows.{every_example, every_first, every_bare, every_loop, every_absent}
use Rattle.commands.proofs.laws.small_tasks_show_these_traces.Goals as goal

pub returns : goal.returns
returns c = record { example = every_example; first = every_first; bare = every_bare; reads_on = every_loop; absent = every_absent }
