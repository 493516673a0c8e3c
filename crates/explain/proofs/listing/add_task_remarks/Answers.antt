use Rattle.std.proofs.Common.{[]}
use Rattle.explain.specs.Listing.{TellsRemark}
use Rattle.explain.specs.Observed.{task_observed}
use Rattle.explain.specs.ObservedViews.{headed}
use Rattle.explain.proofs.Writing.{gathered_written}
use Rattle.explain.proofs.listing.add_task_remarks.Goals as goal

pub returns : goal.returns
returns c =
    gathered_written (TellsRemark []) headed c.args.page.now c.gathered-remarks.new.self c.add_remarks.new.page c.task_remarks-remarks.result c.gathered-remarks.result
    c.deref.result.now (task_observed c.args.scene.now.task.now c.args.scene.now.cert.now c.args.has_cert) c.task_remarks-remarks.ensures
    c.gathered-remarks.ensures.list c.gathered-remarks.ensures.whole c.gathered-remarks.ensures.short c.deref.ensures.value c.add_remarks.ensures
