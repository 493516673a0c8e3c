use Rattle.std.proofs.Common.{◌∙◌, ap, slice_set}
use Rattle.process.specs.State.{ProcessState}
use Rattle.syscalls.specs.CallViews.{succeeded_as}
use Rattle.syscalls.proofs.Calling.{alone, stands}
use Rattle.syscalls.proofs.world.go_on.Goals as goal

pub returns-in_default : goal.returns-in_default
returns-in_default c = λ s made.
    let processes = c.args.processes.now.items in
    let same = stands processes c.args.number s c.index_mut-process.result.now made c.index_mut-process.ensures.value in
    ap (slice_set processes c.args.number) (c.succeed.ensures ∙ ap (λ (x : ProcessState). succeeded_as x c.args.value c.args.besides) same)
    ∙ alone processes c.args.number s c.args.value c.args.besides c.in_default.not-Child
