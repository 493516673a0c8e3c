use Rattle.std.proofs.Common.{◌≡◌, Some, ap, sym, ◌∙◌}
use Rattle.std.proofs.lemmas.Result.{err_from_is_err_and}
use Rattle.toml.specs.View.{table_view}
use Rattle.task_reader.specs.Reading.{Wrong_field, or_mistake}
use Rattle.task_reader.specs.Written.{asks_further, written_programs, written_starts, written_task}
use Rattle.task_reader.specs.WrittenViews.{programs_seen}
use Rattle.task_reader.proofs.EachItem.{some_from}
use Rattle.task_reader.proofs.FieldFaults.{field-fault, without-starts, all-parts}
use Rattle.task_reader.proofs.readers.read_written.Goals as goal

pub returns-in_err-starts : goal.returns-in_err-starts
returns-in_err-starts c =
    let p = err_from_is_err_and c.from_residual-in_err-starts.result c.from_residual-in_err-starts.ensures.1 in
    let error = c.in_err-starts.field-0.0 in
    let ms = table_view c.args.table.now in
    let programs = programs_seen c.in_ok-read.read.programs.items in
    let wide = c.in-Some.further_rights in
    let asks : asks_further ms ≡ Some wide = sym c.in-Some.ensures in
    let is : written_programs ms ≡ Some programs = some_from Wrong_field _ _ c.in_ok-read.ensures.programs in
    rw (p.1, p.2) (field-fault error (written_starts wide ms programs) (written_task ms) (without-starts ms wide programs asks is) c.in_err-starts.ensures)

pub returns : goal.returns
returns c =
    let ms = table_view c.args.table.now in
    let programs = programs_seen c.in_ok-read.read.programs.items in
    ap (or_mistake Wrong_field) (all-parts ms c.in-Some.further_rights _ _ _ _ (sym c.has_only.ensures ∙ c.if-not-has_only.false) (sym c.in-Some.ensures)
    (some_from Wrong_field _ _ c.in_ok-nodes.ensures) (some_from Wrong_field _ _ c.in_ok-grants.ensures) (some_from Wrong_field _ _ c.in_ok-read.ensures.programs)
    (some_from Wrong_field _ _ c.in_ok-starts.ensures))
