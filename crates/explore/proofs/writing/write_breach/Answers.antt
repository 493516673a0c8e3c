use Rattle.std.proofs.Common.{map}
use Rattle.rights.proofs.Tests.{on_err}
use Rattle.syscalls.specs.Views.{event_of}
use Rattle.explore.specs.BreachViews.{breach_of}
use Rattle.explore.proofs.Written.{front-of-schedule, front-of-trace, front-of-line, whole-text}
use Rattle.explore.proofs.writing.write_breach.Goals as goal

pub returns-in_err-write_schedule-clause-err : goal.returns-in_err-write_schedule-clause-err
returns-in_err-write_schedule-clause-err g c =
    on_err _ (front-of-schedule c.args.task.now (map event_of c.args.events.now) (breach_of c.args.breach.now) c.args.detail.now _ _
    c.in_err-write_schedule.ensures.err)

pub returns-in_err-simulate-clause-err : goal.returns-in_err-simulate-clause-err
returns-in_err-simulate-clause-err g c =
    on_err _ (front-of-trace c.args.task.now (map event_of c.args.events.now) (breach_of c.args.breach.now) c.args.detail.now _ _ _
    c.in_ok-write_schedule.ensures.ok c.in_err-simulate.ensures.err)

pub returns-clause-err : goal.returns-clause-err
returns-clause-err g c =
    front-of-line c.args.task.now (map event_of c.args.events.now) (breach_of c.args.breach.now) c.args.detail.now _ _ _ _
    c.write_line.result c.in_ok-write_schedule.ensures.ok c.in_ok-simulate.ensures.ok c.write_line.ensures.err

pub returns-clause-ok : goal.returns-clause-ok
returns-clause-ok g c =
    whole-text c.args.task.now (map event_of c.args.events.now) (breach_of c.args.breach.now) c.args.detail.now _ _ _ _
    c.write_line.result c.in_ok-write_schedule.ensures.ok c.in_ok-simulate.ensures.ok c.write_line.ensures.ok
