use Rattle.certificate.specs.Views.{bound_of}
use Rattle.instruction_set.specs.Views.{syscall_of}
use Rattle.rules.specs.Channels.{has_channel}
use Rattle.rules.specs.Uses.{Use}
use Rattle.transfer.specs.Views.{needs_in}
use Rattle.transfer.proofs.UseTests.{first_fails, first_passes}
use Rattle.transfer.proofs.channels.all_have_channels.Goals as goal

pub returns-then-through_has_channels : goal.returns-then-through_has_channels
returns-then-through_has_channels c =
    first_passes (λ (u : Use). has_channel c.args.cert.now u u.passing) (bound_of c.args.bound.now) (syscall_of c.args.call.now)
    (needs_in c.needed-needs.result) c.needed-needs.ensures c.through_has_channels.result
    c.through_has_channels-then-through_has_channels.result c.if-through_has_channels.true c.through_has_channels.ensures
    c.through_has_channels-then-through_has_channels.ensures

pub returns-else-through_has_channels : goal.returns-else-through_has_channels
returns-else-through_has_channels c =
    first_fails (λ (u : Use). has_channel c.args.cert.now u u.passing) (bound_of c.args.bound.now) (syscall_of c.args.call.now)
    (needs_in c.needed-needs.result) c.needed-needs.ensures c.through_has_channels.result c.if-through_has_channels.false c.through_has_channels.ensures
