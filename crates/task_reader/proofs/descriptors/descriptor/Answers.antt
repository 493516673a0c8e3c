use Rattle.std.proofs.Math.Facts.{to_z-of_z}
use Rattle.std.proofs.Common.{◌∙◌, Ok, ap, codes, rules, subst, sym, w64}
use Rattle.std.proofs.lemmas.Result.{err_from_is_err_and}
use Rattle.rights.specs.Sets.{all_rights, all_commands, command_names}
use Rattle.toml.specs.Data.{get_member}
use Rattle.toml.specs.View.{table_view}
use Rattle.task_reader.specs.Documents.{read_or}
use Rattle.task_reader.specs.Reading.{Wrong_field, or_mistake}
use Rattle.task_reader.specs.Written.{descriptor_in, object_written, rights_listed, set_in}
use Rattle.task_reader.specs.WrittenViews.{object_seen}
use Rattle.task_reader.specs.FaultViews.{FaultIs}
use Rattle.task_reader.proofs.EachItem.{some_from}
use Rattle.task_reader.proofs.FieldFaults.{all-fields, field-fault, without-object, without-rights, without-fcntls}
use Rattle.task_reader.proofs.descriptors.descriptor.Goals as goal

pub returns-in_err-object : goal.returns-in_err-object
returns-in_err-object c =
    let p = err_from_is_err_and c.from_residual.result c.from_residual.ensures.1 in
    let error = c.in_err-object.field-0.0 in
    let ms = table_view c.args.table.now in
    rw (p.1, p.2) (field-fault error (object_written ms) (descriptor_in c.args.further ms) (without-object c.args.further ms) c.in_err-object.ensures)

pub returns-in_err-read_rights : goal.returns-in_err-read_rights
returns-in_err-read_rights c =
    let p = err_from_is_err_and c.from_residual-in_err-read_rights.result c.from_residual-in_err-read_rights.ensures.1 in
    let error = c.in_err-read_rights.field-0.0 in
    let ms = table_view c.args.table.now in
    let told : FaultIs error (or_mistake Wrong_field (read_or all_rights (rights_listed c.args.further) (get_member (codes "rights") ms))) =
    subst (λ d. FaultIs error (or_mistake Wrong_field (read_or all_rights (rights_listed c.args.further) d))) c.value_at.ensures c.in_err-read_rights.ensures in
    rw (p.1, p.2) (field-fault error (read_or all_rights (rights_listed c.args.further) (get_member (codes "rights") ms)) (descriptor_in c.args.further ms) (without-rights c.args.further ms) told)

pub returns-in_err-read_fcntls : goal.returns-in_err-read_fcntls
returns-in_err-read_fcntls c =
    let p = err_from_is_err_and c.from_residual-in_err-read_fcntls.result c.from_residual-in_err-read_fcntls.ensures.1 in
    let error = c.in_err-read_fcntls.field-0.0 in
    let ms = table_view c.args.table.now in
    let told : FaultIs error (or_mistake Wrong_field (read_or all_commands (set_in command_names) (get_member (codes "fcntls") ms))) =
    subst (λ d. FaultIs error (or_mistake Wrong_field (read_or all_commands (set_in command_names) d))) c.value_at-2.ensures c.in_err-read_fcntls.ensures in
    rw (p.1, p.2) (field-fault error (read_or all_commands (set_in command_names) (get_member (codes "fcntls") ms)) (descriptor_in c.args.further ms) (without-fcntls c.args.further ms) told)

pub returns : goal.returns
returns c =
    let ms = table_view c.args.table.now in
    let object = object_seen c.in_ok-object.field-0 in
    let rights = c.in_ok-read_rights.field-0.0 in
    let fcntls = c.in_ok-read_fcntls.field-0.0 in
    ap (or_mistake Wrong_field) (all-fields c.args.further ms c.in-Some.number object rights fcntls (sym c.in-Some.ensures)
    (some_from Wrong_field _ _ c.in_ok-object.ensures)
    (ap (read_or all_rights (rights_listed c.args.further)) (sym c.value_at.ensures) ∙ some_from Wrong_field _ _ c.in_ok-read_rights.ensures)
    (ap (read_or all_commands (set_in command_names)) (sym c.value_at-2.ensures) ∙ some_from Wrong_field _ _ c.in_ok-read_fcntls.ensures))
    ∙ ap (λ n. Ok (record { number = n; object = object; rights = rights; fcntls = fcntls })) (sym (to_z-of_z {w = w64} {z = c.in-Some.number} (search rules)))
