-- The runs that break something, step by step.
use Rattle.std.proofs.Common.{[], ◌∷◌, codes, refl}
use Rattle.std.specs.Prelude.{Some, None}
use Rattle.std.proofs.Math.Decide.{ℕ_discrete}
use Rattle.rights.specs.Operations.{Write, Create}
use Rattle.file_tree.specs.Places.{is_file_name, path_components}
use Rattle.file_tree.specs.Nodes.{node_at, child_of}
use Rattle.file_tree.specs.Changes.{filled}
use Rattle.file_tree.specs.WellFormed.{is_within_limits}
use Rattle.lookup.specs.Paths.{last_component, path_fault}
use Rattle.lookup.specs.ByNodes.{by_nodes}
use Rattle.lookup.specs.Looks.{lookup_fault}
use Rattle.lookup.specs.Walks.{first_handled, handled}
use Rattle.instruction_set.specs.Programs.{Mkdirat, Number, Sendfd}
use Rattle.fd_table.specs.OpenFiles.{any_below, lowest_from}
use Rattle.kernel.specs.Answers.{unless, held, at_object, at_number}
use Rattle.kernel.specs.Calls.{looks, looks_twice, answer}
use Rattle.kernel.specs.Changes.{files_after, changed}
use Rattle.kernel.specs.Hostile.{Own}
use Rattle.kernel.specs.Steps.{answered, jumped, executed, stepped_at, stepped_by, stepped, step}
use Rattle.kernel.specs.Walks.{lookups_of}
use Rattle.task.specs.Begins.{first_files, first_world}
use Rattle.task.specs.Breaches.{reading_plan, opening_plan, writing_plan, moving_plan}
use Rattle.task.specs.Escapes.{making_plan, trusting_plan}
use Rattle.task.proofs.FirstWorlds.{zeros}
use Rattle.explore.specs.Breaches.{Outside, Missing_right, Capability_mode, is_beneath}
use Rattle.explore.specs.Broken.{Breaks}
use Rattle.explore.specs.Samples.{SomeRunsBreak, child_calls, event_of_process, first_moves}

right : Breaks reading_plan (first_moves ∷ first_moves ∷ []) (Some Missing_right)
unfolding is_within_limits is_file_name ℕ_discrete unless held at_object answer files_after changed answered jumped executed stepped_at stepped_by stepped step first_world first_files is_beneath
right = (tt, λ c fresh. (tt, λ d other. refl))

mode : Breaks opening_plan (first_moves ∷ first_moves ∷ []) (Some Capability_mode)
unfolding is_within_limits is_file_name ℕ_discrete unless held at_object answer files_after changed answered jumped executed stepped_at stepped_by stepped step first_world first_files is_beneath
mode = (tt, λ c fresh. (tt, λ d other. refl))

effect : Breaks writing_plan (first_moves ∷ first_moves ∷ []) (Some (Outside Write (codes "/work/in")))
unfolding is_within_limits is_file_name ℕ_discrete filled unless held at_object answer files_after changed answered jumped executed stepped_at stepped_by stepped step
    first_world first_files is_beneath
effect = (tt, λ c fresh. (tt, λ d other. refl))

second_effect : Breaks moving_plan (first_moves ∷ first_moves ∷ []) (Some (Outside Create (codes "/work/new")))
unfolding is_within_limits is_file_name ℕ_discrete looks looks_twice lookup_fault path_fault path_components last_component handled by_nodes
    node_at child_of unless held at_object at_number answer files_after changed answered jumped executed stepped_at stepped_by stepped step first_world
    first_files is_beneath
second_effect = (tt, λ c fresh. (tt, λ d other. refl))

too_early : Breaks reading_plan (first_moves ∷ []) None
unfolding is_within_limits is_file_name ℕ_discrete unless held at_object answer files_after changed answered jumped executed stepped_at stepped_by stepped step first_world first_files is_beneath
too_early = (tt, λ c fresh. refl)

made : Breaks making_plan (child_calls (Mkdirat (Number 1) (codes "x")) ∷ []) (Some (Outside Create (codes "/work/x")))
unfolding is_within_limits is_file_name ℕ_discrete looks looks_twice lookup_fault path_fault path_components last_component first_handled handled
    by_nodes node_at child_of unless held at_object at_number any_below lowest_from answer files_after changed answered jumped executed stepped_at stepped_by
    stepped step first_world first_files lookups_of is_beneath
made = (λ hostile. record { paths = refl; placed = tt; eight = refl; small = zeros 8 }, λ c fresh. refl)

sent : Breaks trusting_plan (child_calls (Sendfd (Number 0) (Number 1) (Number 0)) ∷ first_moves ∷ first_moves ∷ []) (Some Missing_right)
unfolding is_within_limits is_file_name ℕ_discrete looks looks_twice lookup_fault path_fault path_components last_component first_handled handled
    by_nodes node_at child_of unless held at_object at_number any_below lowest_from answer files_after changed answered jumped executed stepped_at stepped_by
    stepped step first_world first_files lookups_of is_beneath
sent = (λ hostile. record { paths = refl; placed = tt; eight = refl; small = zeros 8 }, λ c fresh. (tt, λ d other. (tt, λ f third. refl)))

only_sent : Breaks trusting_plan (child_calls (Sendfd (Number 0) (Number 1) (Number 0)) ∷ first_moves ∷ []) None
unfolding is_within_limits is_file_name ℕ_discrete looks looks_twice lookup_fault path_fault path_components last_component first_handled handled
    by_nodes node_at child_of unless held at_object at_number any_below lowest_from answer files_after changed answered jumped executed stepped_at stepped_by
    stepped step first_world first_files lookups_of is_beneath
only_sent = (λ hostile. record { paths = refl; placed = tt; eight = refl; small = zeros 8 }, λ c fresh. (tt, λ d other. refl))

as_written : Breaks making_plan ((event_of_process 1, Own) ∷ []) None
unfolding is_within_limits is_file_name ℕ_discrete unless held at_object answer files_after changed answered jumped executed stepped_at stepped_by stepped step first_world first_files is_beneath
as_written = (tt, λ c fresh. refl)

pub some_runs_break : SomeRunsBreak
some_runs_break = record {
  right = right;
  mode = mode;
  effect = effect;
  second_effect = second_effect;
  too_early = too_early;
  nothing_moves = refl;
  made = made;
  sent = sent;
  only_sent = only_sent;
  as_written = as_written;
}
