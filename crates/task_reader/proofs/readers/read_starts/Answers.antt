use Rattle.std.proofs.Common.{◌≡◌, ◌==◌, ℕ, Bool, List, Some, None, cond, map, length, ap, sym, subst, ◌∙◌}
use Rattle.std.specs.Prelude.{option_and_then, true, false}
use Rattle.std.proofs.lemmas.List.{length-map}
use Rattle.std.proofs.lemmas.Result.{err_from_is_err_and}
use Rattle.toml.specs.Data.{Members}
use Rattle.toml.specs.View.{table_view}
use Rattle.task_reader.specs.Reading.{Wrong_field, or_mistake}
use Rattle.task_reader.specs.Written.{WrittenProgram, WrittenStart, listed_starts, names_of_programs, some_start, written_starts}
use Rattle.task_reader.specs.WrittenViews.{programs_seen, start_seen, starts_seen}
use Rattle.task_reader.specs.FaultViews.{FaultIs}
use Rattle.task_reader.proofs.EachItem.{some_from}
use Rattle.task_reader.proofs.FieldFaults.{field-fault}
use Rattle.task_reader.proofs.readers.read_starts.Goals as goal

listed : (wide : Bool) (ms : Members) (programs : List WrittenProgram) (names : List (List ℕ)) (starts : List WrittenStart) → names ≡ names_of_programs programs
    → listed_starts wide names ms ≡ Some starts → written_starts wide ms programs ≡ some_start starts
listed wide ms programs names starts same is = ap (λ n. option_and_then some_start (listed_starts wide n ms)) (sym same) ∙ ap (option_and_then some_start) is

decided : (starts : List WrittenStart) (b : Bool) → (length starts == 0) ≡ b → some_start starts ≡ cond b None (Some starts)
decided starts b is = ap (λ x. cond x None (Some starts)) is

pub returns-in_err-starts : goal.returns-in_err-starts
returns-in_err-starts c =
    let p = err_from_is_err_and c.from_residual.result c.from_residual.ensures.1 in
    let error = c.in_err-starts.field-0.0 in
    let ms = table_view c.args.table.now in
    let programs = programs_seen c.args.read.now.programs.items in
    let same : map (λ n. n.now) c.args.read.now.names.keys ≡ names_of_programs programs = c.requires in
    let told : FaultIs error (or_mistake Wrong_field (listed_starts c.args.further (names_of_programs programs) ms)) =
    subst (λ n. FaultIs error (or_mistake Wrong_field (listed_starts c.args.further n ms))) same c.in_err-starts.ensures in
    rw (p.1, p.2) (field-fault error (listed_starts c.args.further (names_of_programs programs) ms) (written_starts c.args.further ms programs) (λ none. ap (option_and_then some_start) none) told)

pub returns-then-is_empty : goal.returns-then-is_empty
returns-then-is_empty c =
    let ms = table_view c.args.table.now in
    let programs = programs_seen c.args.read.now.programs.items in
    let starts = c.in_ok-starts.starts in
    let same : map (λ n. n.now) c.args.read.now.names.keys ≡ names_of_programs programs = c.requires in
    let empty : (length (starts_seen starts.items) == 0) ≡ true =
    ap (λ n. n == 0) (length-map starts.items start_seen ∙ sym starts.ok.0) ∙ sym c.is_empty.ensures ∙ c.if-is_empty.true in
    ap (or_mistake Wrong_field) (listed c.args.further ms programs _ _ same (some_from Wrong_field _ _ c.in_ok-starts.ensures) ∙ decided _ _ empty)

pub returns : goal.returns
returns c =
    let ms = table_view c.args.table.now in
    let programs = programs_seen c.args.read.now.programs.items in
    let starts = c.in_ok-starts.starts in
    let same : map (λ n. n.now) c.args.read.now.names.keys ≡ names_of_programs programs = c.requires in
    let some : (length (starts_seen starts.items) == 0) ≡ false =
    ap (λ n. n == 0) (length-map starts.items start_seen ∙ sym starts.ok.0) ∙ sym c.is_empty.ensures ∙ c.if-is_empty.false in
    ap (or_mistake Wrong_field) (listed c.args.further ms programs _ _ same (some_from Wrong_field _ _ c.in_ok-starts.ensures) ∙ decided _ _ some)
