use Rattle.std.proofs.Common.{◌≡◌, ap, sym, subst}
use Rattle.std.proofs.lemmas.Result.{err_from_is_err_and}
use Rattle.toml.specs.View.{table_view}
use Rattle.task_reader.specs.Documents.{document_of}
use Rattle.task_reader.specs.FaultViews.{ReadsTask}
use Rattle.task_reader.specs.Reading.{Not_toml, ◌>>=◌, or_mistake, plan_in, task_of}
use Rattle.task_reader.proofs.Passing.{fault-passes}
use Rattle.task_reader.proofs.reading.read_task.Goals as goal

pub returns-in_err-document : goal.returns-in_err-document
unfolding task_of
returns-in_err-document c =
    let p = err_from_is_err_and c.from_residual.result c.from_residual.ensures.1 in
    let error = c.in_err-document.field-0.0 in
    rw (p.1, p.2) (fault-passes error (or_mistake Not_toml (document_of c.args.bytes.now)) plan_in c.in_err-document.ensures)

pub returns : goal.returns
unfolding task_of
returns c =
    let read : task_of c.args.bytes.now ≡ plan_in (table_view c.in_ok-document.document) = ap (λ r. r >>= plan_in) c.in_ok-document.ensures in
    subst (ReadsTask (λ task. task) c.task_in.result) (sym read) c.task_in.ensures
