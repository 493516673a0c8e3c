use Rattle.certificate.specs.Views.{bound_of}
use Rattle.instruction_set.specs.Views.{syscall_of}
use Rattle.transfer.specs.Views.{needs_in}
use Rattle.transfer.proofs.UseTests.{first_passes, first_fails}
use Rattle.transfer.proofs.asks.all_uses_pass.Goals as goal

pub returns-then-through_passes : goal.returns-then-through_passes
returns-then-through_passes g c =
    first_passes (g.T.UseTest.passes c.args.test.now) (bound_of c.args.bound.now) (syscall_of c.args.call.now) (needs_in c.needed-needs.result)
    c.needed-needs.ensures c.through_passes.result c.through_passes-then-through_passes.result c.if-through_passes.true c.through_passes.ensures
    c.through_passes-then-through_passes.ensures

pub returns-else-through_passes : goal.returns-else-through_passes
returns-else-through_passes g c =
    first_fails (g.T.UseTest.passes c.args.test.now) (bound_of c.args.bound.now) (syscall_of c.args.call.now) (needs_in c.needed-needs.result)
    c.needed-needs.ensures c.through_passes.result c.if-through_passes.false c.through_passes.ensures
