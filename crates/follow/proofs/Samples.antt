-- The runs that show the calls of a record, and those that don't, step by step.
use Rattle.std.proofs.Common.{[], ◌∷◌, refl, true, false}
use Rattle.std.specs.Prelude.{Some}
use Rattle.std.proofs.Math.Decide.{ℕ_discrete}
use Rattle.rights.specs.Calls as calls
use Rattle.rights.specs.Errors.{EBADF}
use Rattle.file_tree.specs.Places.{is_file_name, path_components}
use Rattle.file_tree.specs.Nodes.{node_at, child_of}
use Rattle.file_tree.specs.WellFormed.{is_within_limits}
use Rattle.instruction_set.specs.Programs.{Halt, Invoke, Number, Read, Dup}
use Rattle.lookup.specs.Paths.{last_component, path_fault}
use Rattle.lookup.specs.ByNodes.{by_nodes}
use Rattle.lookup.specs.Looks.{lookup_fault}
use Rattle.lookup.specs.Walks.{first_handled, handled}
use Rattle.fd_table.specs.OpenFiles.{lowest_from}
use Rattle.kernel.specs.Answers.{unless, held, at_object, at_number}
use Rattle.kernel.specs.Calls.{looks, answer}
use Rattle.kernel.specs.Changes.{files_after, changed}
use Rattle.kernel.specs.Steps.{answered, jumped, executed, stepped_at, stepped_by, stepped, step}
use Rattle.records.specs.Calls.{Succeeds, Fails, Ended}
use Rattle.records.specs.Calls as real
use Rattle.task.specs.Begins.{first_files, first_world}
use Rattle.file_tree.specs.Places.{lies_at}
use Rattle.follow.specs.Samples.{SomeRunsShow, reading, entering, enters, overlapping, apart, reading_both, later_line_first, at_line, calls_with}
use Rattle.follow.specs.Samples.{closes, copies, copying, four_lines, four_steps, by_moves, next, opening, opens, placings, reads, silent, steps, two_lines, writes}
use Rattle.follow.specs.Shows.{Judges, Shows, Skips}

all : Shows (copying false) [] (four_lines reads (copies 2) (closes 7)) four_steps
unfolding is_within_limits is_file_name ℕ_discrete looks lookup_fault path_fault path_components last_component first_handled handled by_nodes node_at child_of unless held
    at_object at_number lowest_from answer files_after changed answered jumped executed stepped_at stepped_by stepped step first_world first_files lies_at
all c fresh d other e third f fourth = refl

call_too_many : Judges (copying false) [] (two_lines reads Ended) (by_moves (next ∷ silent ∷ silent ∷ next ∷ [])) false
unfolding is_within_limits is_file_name ℕ_discrete looks lookup_fault path_fault path_components last_component first_handled handled by_nodes node_at child_of unless held
    at_object at_number lowest_from answer files_after changed answered jumped executed stepped_at stepped_by stepped step first_world first_files lies_at
call_too_many c fresh d other = refl

call_too_few : Judges (copying false) [] (four_lines reads (copies 2) (closes 7)) (by_moves (next ∷ next ∷ [])) false
unfolding is_within_limits is_file_name ℕ_discrete looks lookup_fault path_fault path_components last_component first_handled handled by_nodes node_at child_of unless held
    at_object at_number lowest_from answer files_after changed answered jumped executed stepped_at stepped_by stepped step first_world first_files lies_at
call_too_few c fresh d other = refl

other_number : Judges (copying false) [] (four_lines reads (copies 3) (closes 7)) four_steps false
unfolding is_within_limits is_file_name ℕ_discrete looks lookup_fault path_fault path_components last_component first_handled handled by_nodes node_at child_of unless held
    at_object at_number lowest_from answer files_after changed answered jumped executed stepped_at stepped_by stepped step first_world first_files lies_at
other_number c fresh d other = refl

other_copy : Judges (copying false) [] (four_lines reads (copies 2) (closes 2)) four_steps false
unfolding is_within_limits is_file_name ℕ_discrete looks lookup_fault path_fault path_components last_component first_handled handled by_nodes node_at child_of unless held
    at_object at_number lowest_from answer files_after changed answered jumped executed stepped_at stepped_by stepped step first_world first_files lies_at
other_copy c fresh d other e third = refl

other_order : Judges (copying false) [] (four_lines (copies 2) reads (closes 7)) four_steps false
unfolding is_within_limits is_file_name ℕ_discrete looks lookup_fault path_fault path_components last_component first_handled handled by_nodes node_at child_of unless held
    at_object at_number lowest_from answer files_after changed answered jumped executed stepped_at stepped_by stepped step first_world first_files lies_at
other_order c fresh = refl

later_first : Judges (copying false) [] (four_lines (copies 2) reads (closes 7)) (by_moves (steps (Some 1) ∷ next ∷ next ∷ next ∷ [])) false
unfolding is_within_limits is_file_name ℕ_discrete looks lookup_fault path_fault path_components last_component first_handled handled by_nodes node_at child_of unless held
    at_object at_number lowest_from answer files_after changed answered jumped executed stepped_at stepped_by stepped step first_world first_files lies_at
later_first c fresh = refl

other_outcome : Judges (copying false) [] (four_lines (calls_with calls.Read (real.Number 2 ∷ []) (Fails EBADF)) (copies 2) (closes 7)) four_steps false
unfolding is_within_limits is_file_name ℕ_discrete looks lookup_fault path_fault path_components last_component first_handled handled by_nodes node_at child_of unless held
    at_object at_number lowest_from answer files_after changed answered jumped executed stepped_at stepped_by stepped step first_world first_files lies_at
other_outcome c fresh = refl

other_end : Judges (copying false) [] (four_lines (calls_with calls.Read (real.Number 2 ∷ []) (Succeeds 0)) (copies 2) (closes 7)) four_steps false
unfolding is_within_limits is_file_name ℕ_discrete looks lookup_fault path_fault path_components last_component first_handled handled by_nodes node_at child_of unless held
    at_object at_number lowest_from answer files_after changed answered jumped executed stepped_at stepped_by stepped step first_world first_files lies_at
other_end c fresh = refl

path : Shows opening placings (two_lines opens Ended) (by_moves (silent ∷ next ∷ next ∷ []))
unfolding is_within_limits is_file_name ℕ_discrete looks lookup_fault path_fault path_components last_component first_handled handled by_nodes node_at child_of unless held
    at_object at_number lowest_from answer files_after changed answered jumped executed stepped_at stepped_by stepped step first_world first_files lies_at
path c fresh d other e third = refl

other_path : Judges opening [] (two_lines opens Ended) (by_moves (silent ∷ next ∷ next ∷ [])) false
unfolding is_within_limits is_file_name ℕ_discrete looks lookup_fault path_fault path_components last_component first_handled handled by_nodes node_at child_of unless held
    at_object at_number lowest_from answer files_after changed answered jumped executed stepped_at stepped_by stepped step first_world first_files lies_at
other_path c fresh d other = refl

skipped : Shows (copying false) [] (at_line 1 writes ∷ []) (by_moves (Skips 0 ∷ []))
unfolding is_within_limits is_file_name ℕ_discrete looks lookup_fault path_fault path_components last_component first_handled handled by_nodes node_at child_of unless held
    at_object at_number lowest_from answer files_after changed answered jumped executed stepped_at stepped_by stepped step first_world first_files lies_at
skipped = refl

skipped_place : Shows (copying false) [] (at_line 1 opens ∷ []) (by_moves (Skips 0 ∷ []))
unfolding is_within_limits is_file_name ℕ_discrete looks lookup_fault path_fault path_components last_component first_handled handled by_nodes node_at child_of unless held
    at_object at_number lowest_from answer files_after changed answered jumped executed stepped_at stepped_by stepped step first_world first_files lies_at
skipped_place = refl

skipped_in_mode : Judges (copying true) [] (at_line 1 writes ∷ []) (by_moves (Skips 0 ∷ [])) false
unfolding is_within_limits is_file_name ℕ_discrete looks lookup_fault path_fault path_components last_component first_handled handled by_nodes node_at child_of unless held
    at_object at_number lowest_from answer files_after changed answered jumped executed stepped_at stepped_by stepped step first_world first_files lies_at
skipped_in_mode = refl

skipped_grant : Judges (copying false) placings (at_line 1 opens ∷ []) (by_moves (Skips 0 ∷ [])) false
unfolding is_within_limits is_file_name ℕ_discrete looks lookup_fault path_fault path_components last_component first_handled handled by_nodes node_at child_of unless held
    at_object at_number lowest_from answer files_after changed answered jumped executed stepped_at stepped_by stepped step first_world first_files lies_at
skipped_grant = refl

skipped_named : Judges (copying false) [] (at_line 1 reads ∷ []) (by_moves (Skips 0 ∷ [])) false
unfolding is_within_limits is_file_name ℕ_discrete looks lookup_fault path_fault path_components last_component first_handled handled by_nodes node_at child_of unless held
    at_object at_number lowest_from answer files_after changed answered jumped executed stepped_at stepped_by stepped step first_world first_files lies_at
skipped_named = refl

repeated : Shows (reading (Invoke (Read (Number 2)) 2 ∷ Halt ∷ [])) [] (two_lines reads Ended) (by_moves (next ∷ silent ∷ next ∷ []))
unfolding is_within_limits is_file_name ℕ_discrete looks lookup_fault path_fault path_components last_component first_handled handled by_nodes node_at child_of unless held
    at_object at_number lowest_from answer files_after changed answered jumped executed stepped_at stepped_by stepped step first_world first_files lies_at
repeated c fresh d other e third = refl

repeated_later : Judges (reading (Invoke (Dup (Number 2)) 3 ∷ Invoke (Read (Number 2)) 3 ∷ Halt ∷ [])) []
    (at_line 1 reads ∷ at_line 2 (copies 2) ∷ at_line 3 Ended ∷ []) (by_moves (next ∷ next ∷ silent ∷ next ∷ [])) false
unfolding is_within_limits is_file_name ℕ_discrete looks lookup_fault path_fault path_components last_component first_handled handled by_nodes node_at child_of unless held
    at_object at_number lowest_from answer files_after changed answered jumped executed stepped_at stepped_by stepped step first_world first_files lies_at
repeated_later c fresh d other e third = refl

silent_mode : Shows entering [] (at_line 1 Ended ∷ []) (by_moves (silent ∷ next ∷ []))
unfolding is_within_limits is_file_name ℕ_discrete looks lookup_fault path_fault path_components last_component first_handled handled by_nodes node_at child_of unless held
    at_object at_number lowest_from answer files_after changed answered jumped executed stepped_at stepped_by stepped step first_world first_files lies_at
silent_mode c fresh d other = refl

recorded_mode : Judges entering [] (two_lines enters Ended) (by_moves (silent ∷ next ∷ next ∷ [])) false
unfolding is_within_limits is_file_name ℕ_discrete looks lookup_fault path_fault path_components last_component first_handled handled by_nodes node_at child_of unless held
    at_object at_number lowest_from answer files_after changed answered jumped executed stepped_at stepped_by stepped step first_world first_files lies_at
recorded_mode c fresh = refl

lines_overlap : Shows reading_both [] overlapping later_line_first
unfolding is_within_limits is_file_name ℕ_discrete looks lookup_fault path_fault path_components last_component first_handled handled by_nodes node_at child_of unless held
    at_object at_number lowest_from answer files_after changed answered jumped executed stepped_at stepped_by stepped step first_world first_files lies_at
lines_overlap c fresh d other = refl

lines_apart : Judges reading_both [] apart later_line_first false
unfolding is_within_limits is_file_name ℕ_discrete looks lookup_fault path_fault path_components last_component first_handled handled by_nodes node_at child_of unless held
    at_object at_number lowest_from answer files_after changed answered jumped executed stepped_at stepped_by stepped step first_world first_files lies_at
lines_apart c fresh = refl

pub some_runs_show : SomeRunsShow
some_runs_show = record {
  all = all;
  call_too_many = call_too_many;
  call_too_few = call_too_few;
  other_number = other_number;
  other_copy = other_copy;
  other_order = other_order;
  later_first = later_first;
  other_outcome = other_outcome;
  other_end = other_end;
  path = path;
  other_path = other_path;
  skipped = skipped;
  skipped_place = skipped_place;
  skipped_in_mode = skipped_in_mode;
  skipped_grant = skipped_grant;
  skipped_named = skipped_named;
  repeated = repeated;
  repeated_later = repeated_later;
  silent_mode = silent_mode;
  recorded_mode = recorded_mode;
  lines_overlap = lines_overlap;
  lines_apart = lines_apart;
}
