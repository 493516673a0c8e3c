-- The paths that are foreign and the calls that are excused, and those that aren't, by computation.
use Rattle.std.proofs.Common.{◌≡◌, [], ◌∷◌, refl, true, false}
use Rattle.std.specs.Prelude.{Some}
use Rattle.std.proofs.Math.Decide.{ℕ_discrete}
use Rattle.file_tree.specs.Places.{is_file_name, is_target, path_components}
use Rattle.file_tree.specs.Nodes.{node_at, child_of}
use Rattle.file_tree.specs.WellFormed.{is_within_limits}
use Rattle.kernel.specs.Steps.{answered, jumped, executed, stepped_at, stepped_by, stepped, step}
use Rattle.records.specs.Calls.{Ended}
use Rattle.task.specs.Begins.{first_files, first_world}
use Rattle.file_tree.specs.Places.{lies_at}
use Rattle.follow.specs.Samples.{SomeCallsAreExcused, SomePathsAreForeign, by_moves, idle, next, opens, two_lines}
use Rattle.follow.specs.Shows.{Shows, Skips}

pub some_paths_are_foreign : SomePathsAreForeign
unfolding lies_at
some_paths_are_foreign = record {
  elsewhere = refl;
  root = refl;
  hidden = refl;
  granted = refl;
  named = refl;
  dots = refl;
  dot = refl;
  slashes = refl;
  at_end = refl;
  relative = refl;
  empty = refl;
  link = refl;
  through_link = refl;
  beside_link = refl;
}

idle_shows : Shows idle [] (two_lines opens Ended) (by_moves (Skips 0 ∷ next ∷ []))
unfolding is_within_limits is_file_name ℕ_discrete path_components node_at child_of answered jumped executed stepped_at stepped_by stepped step first_world first_files
    lies_at
idle_shows c fresh = refl

pub some_calls_are_excused : SomeCallsAreExcused
unfolding lies_at is_target
some_calls_are_excused = record {
  idle_shows = idle_shows;
  idle_skips = refl;
  shown = refl;
  elsewhere = refl;
  blank = refl;
  long = refl;
  placed_past = refl;
  placed_within = refl;
  unnamed = refl;
  behind = refl;
  behind_other = refl;
  copied = refl;
  closed = refl;
}
