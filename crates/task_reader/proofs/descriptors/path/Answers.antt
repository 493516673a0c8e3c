use Rattle.std.proofs.Common.{codes, subst}
use Rattle.std.proofs.lemmas.Result.{err_from_is_err_and}
use Rattle.toml.specs.Data.{get_member}
use Rattle.toml.specs.View.{table_view}
use Rattle.task_reader.specs.Documents.{read_or}
use Rattle.task_reader.specs.Reading.{Wrong_field, or_mistake}
use Rattle.task_reader.specs.Written.{access_in, path_written, reading}
use Rattle.task_reader.specs.FaultViews.{FaultIs}
use Rattle.task_reader.proofs.FieldFaults.{field-fault, without-flags}
use Rattle.task_reader.proofs.descriptors.path.Goals as goal

pub returns-in_err-read_access-in-Some : goal.returns-in_err-read_access-in-Some
returns-in_err-read_access-in-Some c =
    let p = err_from_is_err_and c.from_residual.result c.from_residual.ensures.1 in
    let error = c.in_err-read_access-in-Some.field-0.0 in
    let ms = table_view c.args.table.now in
    let told : FaultIs error (or_mistake Wrong_field (read_or reading access_in (get_member (codes "flags") ms))) =
    subst (λ d. FaultIs error (or_mistake Wrong_field (read_or reading access_in d))) c.value_at.ensures c.in_err-read_access-in-Some.ensures in
    rw (p.1, p.2) (field-fault error (read_or reading access_in (get_member (codes "flags") ms)) (path_written ms) (without-flags ms) told)
