-- The tasks that aren't sandboxed, each by a run of two steps, and the step that isn't safe.
use Rattle.std.proofs.Common.{◌≡◌, ℕ, List, [], ◌∷◌, codes, refl, lit<}
use Rattle.std.specs.Prelude.{true, false}
use Rattle.std.proofs.Math.Decide.{ℕ_discrete}
use Rattle.rights.specs.Operations.{Operation, Create, Write}
use Rattle.file_tree.specs.Places.{is_file_name, path_components}
use Rattle.file_tree.specs.Nodes.{node_at, child_of}
use Rattle.file_tree.specs.Changes.{filled}
use Rattle.file_tree.specs.WellFormed.{is_within_limits}
use Rattle.lookup.specs.Paths.{last_component, path_fault}
use Rattle.lookup.specs.ByNodes.{by_nodes}
use Rattle.lookup.specs.Looks.{lookup_fault}
use Rattle.lookup.specs.Walks.{handled}
use Rattle.kernel.specs.World.{World, Choice}
use Rattle.kernel.specs.Answers.{Event, unless, held, at_object, at_number}
use Rattle.kernel.specs.Calls.{looks, looks_twice, answer}
use Rattle.kernel.specs.Changes.{files_after, changed}
use Rattle.kernel.specs.Steps.{answered, jumped, executed, stepped_at, stepped_by, stepped, step}
use Rattle.kernel.specs.Gainful.{two_processes, setting, event_by}
use Rattle.kernel.proofs.Gainful.{nothing_comes_from_elsewhere}
use Rattle.kernel.proofs.Begun.{next_world}
use Rattle.task.specs.Begins.{first_files, first_world}
use Rattle.task.specs.Limits.{is_plan}
use Rattle.task.specs.Plans.{Grant, Plan, programs_of_plan}
use Rattle.task.specs.Policies.{is_allowed}
use Rattle.task.specs.Sandboxed.{IsSafe, IsSandboxed, Allowed}
use Rattle.task.proofs.Allowances.{allowed_is_tested}
use Rattle.task.proofs.FirstWorlds.{first_well_formed}
use Rattle.task.specs.Breaches.{SomeAreNotSandboxed, reading_plan, opening_plan, writing_plan, moving_plan, gaining}

-- an event of the first process
abbrev event : Event
event = record { process = 0; input = 0; refuse = false }

abbrev after_one : Plan → Choice → World
after_one plan c = (step (programs_of_plan plan) (first_world plan) event c).world

-- A valid task whose second step isn't safe, whatever numbers are chosen, isn't sandboxed.
second_step : (plan : Plan) → is_plan plan ≡ true →
    ((c d : Choice) → IsSafe (programs_of_plan plan) plan.grants (after_one plan c) event (step (programs_of_plan plan) (after_one plan c) event d) →
    ⊥) → IsSandboxed plan → ⊥
second_step plan valid unsafe sandboxed =
    let programs = programs_of_plan plan in
    let formed = first_well_formed plan valid in
    let first = next_world programs (first_world plan) event formed.0 formed.1 (lit< tt) in
    let c : Choice = first.some.0 in
    let second = next_world programs (after_one plan c) event formed.0 (first.each c first.some.1) (lit< tt) in
    let run = sandboxed (event ∷ event ∷ []) (lit< tt, (lit< tt, tt)) c first.some.1 in
    unsafe c second.some.0 (run.1 second.some.0 second.some.1).0

not_true : false ≡ true → ⊥
not_true is = absurd cc

pub forbidden : (grants : List Grant) (operation : Operation) (place : List (List ℕ)) → is_allowed grants operation place ≡ false → Allowed grants operation place → ⊥
forbidden grants operation place is allowed = let tested : is_allowed grants operation place ≡ true = (allowed_is_tested grants operation place).1 allowed in absurd cc

missing_right : IsSandboxed reading_plan → ⊥
unfolding is_within_limits is_file_name ℕ_discrete unless held at_object answer files_after changed answered jumped executed stepped_at stepped_by stepped step first_world first_files
missing_right = second_step reading_plan refl (λ c d safe. safe.unrefused)

capability_mode : IsSandboxed opening_plan → ⊥
unfolding is_within_limits is_file_name ℕ_discrete unless held at_object answer files_after changed answered jumped executed stepped_at stepped_by stepped step first_world first_files
capability_mode = second_step opening_plan refl (λ c d safe. safe.unrefused)

unlisted_operation : IsSandboxed writing_plan → ⊥
unfolding is_within_limits is_file_name ℕ_discrete filled unless held at_object answer files_after changed answered jumped executed stepped_at stepped_by stepped step first_world first_files
unlisted_operation = second_step writing_plan refl (λ c d safe. forbidden writing_plan.grants Write (codes "work" ∷ codes "in" ∷ []) refl (safe.allowed refl).0)

second_effect : IsSandboxed moving_plan → ⊥
unfolding is_within_limits is_file_name ℕ_discrete looks looks_twice lookup_fault path_fault path_components last_component handled by_nodes
    node_at child_of unless held at_object at_number answer files_after changed answered jumped executed stepped_at stepped_by stepped step first_world
    first_files
second_effect = second_step moving_plan refl (λ c d safe. forbidden moving_plan.grants Create (codes "work" ∷ codes "new" ∷ []) refl (safe.allowed refl).1.0)

gained_descriptor : IsSafe setting [] two_processes (event_by 1) gaining → ⊥
gained_descriptor safe = nothing_comes_from_elsewhere.no_call_at_no_call safe.gains

pub some_are_not_sandboxed : SomeAreNotSandboxed
some_are_not_sandboxed = record {
  missing_right = missing_right;
  capability_mode = capability_mode;
  unlisted_operation = unlisted_operation;
  second_effect = second_effect;
  gained_descriptor = gained_descriptor;
}
