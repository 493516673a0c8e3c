use Rattle.std.proofs.Common.{◌≡◌, ap, sym, subst}
use Rattle.std.proofs.lemmas.Result.{err_from_is_err_and}
use Rattle.toml.specs.View.{table_view}
use Rattle.task_reader.specs.FaultViews.{ReadsTask}
use Rattle.task_reader.specs.Reading.{Wrong_field, ◌>>=◌, or_mistake, plan_in, plan_of}
use Rattle.task_reader.specs.Written.{written_task}
use Rattle.task_reader.specs.WrittenViews.{task_seen}
use Rattle.task_reader.proofs.EachItem.{some_from}
use Rattle.task_reader.proofs.Passing.{fault-passes}
use Rattle.task_reader.proofs.reading.task_in.Goals as goal

pub returns-in_err-written : goal.returns-in_err-written
unfolding plan_in
returns-in_err-written c =
    let p = err_from_is_err_and c.from_residual.result c.from_residual.ensures.1 in
    let error = c.in_err-written.field-0.0 in
    rw (p.1, p.2) (fault-passes error (or_mistake Wrong_field (written_task (table_view c.args.document.now))) plan_of c.in_err-written.ensures)

pub make_task-requires : goal.make_task-requires
make_task-requires c = (table_view c.args.document.now, some_from Wrong_field _ _ c.in_ok-written.ensures)

pub returns : goal.returns
unfolding plan_in
returns c =
    let read : plan_in (table_view c.args.document.now) ≡ plan_of (task_seen c.in_ok-written.written) = ap (λ r. r >>= plan_of) c.in_ok-written.ensures in
    subst (ReadsTask (λ task. task) c.make_task.result) (sym read) c.make_task.ensures
