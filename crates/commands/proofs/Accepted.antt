-- The three tasks are accepted, and run, by computation.
use Rattle.std.proofs.Common.{◌≡◌, ℕ, true, List, [], ◌∷◌, codes, refl, subst, lit<}
use Rattle.std.specs.Prelude.{None}
use Rattle.std.proofs.Math.Decide.{ℕ_discrete}
use Rattle.std.specs.Fmt.{digits}
use Rattle.certificate.specs.Bounds.{Certificate, bound_in}
use Rattle.file_tree.specs.Nodes.{child_of, node_at, parent_of}
use Rattle.file_tree.specs.Changes.{removed, filled}
use Rattle.file_tree.specs.WellFormed.{is_within_limits}
use Rattle.lookup.specs.Paths.{last_component, path_fault}
use Rattle.lookup.specs.ByNodes.{by_nodes}
use Rattle.lookup.specs.Walks.{first_handled, handled}
use Rattle.lookup.specs.Looks.{lookup_fault}
use Rattle.fd_table.specs.OpenFiles.{any_below, lowest_from}
use Rattle.kernel.specs.Answers.{AreEvents, unless, held, at_object, at_number}
use Rattle.kernel.specs.Calls.{answer, looks, looks_twice}
use Rattle.kernel.specs.Changes.{files_after, changed}
use Rattle.kernel.specs.Steps.{answered, jumped, executed, stepped_at, stepped_by, stepped, step}
use Rattle.kernel.proofs.Determined.{run_exists}
use Rattle.task.specs.Begins.{first_files, first_world}
use Rattle.task.specs.Limits.{is_plan}
use Rattle.task.specs.Plans.{Plan, programs_of_plan, none_marked}
use Rattle.task.specs.Policies.{grant_named}
use Rattle.task.proofs.FirstWorlds.{first_well_formed}
use Rattle.file_tree.specs.Places.{is_file_name, is_target, path_components}
use Rattle.rules.specs.Slots.{slots_in, free_numbers}
use Rattle.rules.specs.Uses.{uses}
use Rattle.rules.specs.Channels.{channel_at}
use Rattle.rules.specs.Outcomes.{successes, successes_in, error_outcomes}
use Rattle.rules.specs.Rules.{tests, tests_without, authority_tests, mark_tests}
use Rattle.rules.specs.Verdicts.{IsFirst, MeetsRules, found_with, found_at, first_found}
use Rattle.rules.proofs.First.{first_is_found}
use Rattle.rules.proofs.Sound.{sound}
use Rattle.commands.specs.Accepted.{ActsAccepted, turns, passing_plan, passing_certificate, forking_plan, forking_certificate, renaming_plan, renaming_certificate}
use Rattle.commands.specs.Examples.{AlwaysShows}
use Rattle.commands.proofs.Rows.{always}

are_events : (processes : List ℕ) → AreEvents (turns processes)
are_events [] = tt
are_events (p ∷ processes) = (lit< tt, are_events processes)

-- a task whose certificate is found to meet the rules, and of which every run shows this text
accepted :
    (plan : Plan) (certificate : Certificate) (processes : List ℕ) (text : List ℕ) → is_plan plan ≡ true → none_marked plan ≡ true → first_found plan certificate ≡ None
    → AlwaysShows plan (turns processes) text → ActsAccepted plan certificate processes text
accepted plan certificate processes text valid plain none shows =
    let meets : MeetsRules plan certificate = subst (IsFirst plan certificate) none (first_is_found plan certificate) in
    let first = first_well_formed plan valid in
    let run = run_exists (programs_of_plan plan) (first_world plan) (turns processes) first.0 first.1.formed (are_events processes) in
    record { meets = meets; sandboxed = sound plan certificate valid plain meets; lines = run.0; run = run.1; shows = shows run.0 run.1 }

passing_is_task : is_plan passing_plan ≡ true
unfolding is_within_limits is_file_name is_target
passing_is_task = refl

passing_meets : first_found passing_plan passing_certificate ≡ None
unfolding first_found found_at found_with tests tests_without bound_in grant_named slots_in free_numbers uses channel_at successes successes_in error_outcomes mark_tests authority_tests
passing_meets = refl

passing_shows : AlwaysShows passing_plan (turns (0 ∷ 0 ∷ 1 ∷ 1 ∷ [])) (codes "0 main:0 = 0\n0 main:1 = 1\n1 child:0 = 1\n1 child:1 = 2\n")
unfolding ℕ_discrete digits removed filled first_handled handled looks looks_twice lookup_fault path_fault path_components last_component by_nodes node_at
    child_of parent_of unless held at_object at_number any_below lowest_from answer files_after changed answered jumped executed stepped_at stepped_by stepped step
    first_world first_files
passing_shows = always passing_plan (turns (0 ∷ 0 ∷ 1 ∷ 1 ∷ [])) (codes "0 main:0 = 0\n0 main:1 = 1\n1 child:0 = 1\n1 child:1 = 2\n") (λ choose. refl)

pub passing : ActsAccepted passing_plan passing_certificate (0 ∷ 0 ∷ 1 ∷ 1 ∷ []) (codes "0 main:0 = 0\n0 main:1 = 1\n1 child:0 = 1\n1 child:1 = 2\n")
passing = accepted passing_plan passing_certificate (0 ∷ 0 ∷ 1 ∷ 1 ∷ []) _ passing_is_task refl passing_meets passing_shows

forking_is_task : is_plan forking_plan ≡ true
unfolding is_within_limits is_file_name is_target
forking_is_task = refl

forking_meets : first_found forking_plan forking_certificate ≡ None
unfolding first_found found_at found_with tests tests_without bound_in grant_named slots_in free_numbers uses channel_at successes successes_in error_outcomes mark_tests authority_tests
forking_meets = refl

forking_shows : AlwaysShows forking_plan (turns (0 ∷ 0 ∷ 1 ∷ 1 ∷ [])) (codes "0 main:0 = 0\n0 main:1 = 1\n1 main:2 ok\n1 main:4 = 2\n")
unfolding ℕ_discrete digits removed filled first_handled handled looks looks_twice lookup_fault path_fault path_components last_component by_nodes node_at
    child_of parent_of unless held at_object at_number any_below lowest_from answer files_after changed answered jumped executed stepped_at stepped_by stepped step
    first_world first_files
forking_shows = always forking_plan (turns (0 ∷ 0 ∷ 1 ∷ 1 ∷ [])) (codes "0 main:0 = 0\n0 main:1 = 1\n1 main:2 ok\n1 main:4 = 2\n") (λ choose. refl)

pub forking : ActsAccepted forking_plan forking_certificate (0 ∷ 0 ∷ 1 ∷ 1 ∷ []) (codes "0 main:0 = 0\n0 main:1 = 1\n1 main:2 ok\n1 main:4 = 2\n")
forking = accepted forking_plan forking_certificate (0 ∷ 0 ∷ 1 ∷ 1 ∷ []) _ forking_is_task refl forking_meets forking_shows

renaming_is_task : is_plan renaming_plan ≡ true
unfolding is_within_limits is_file_name is_target
renaming_is_task = refl

renaming_meets : first_found renaming_plan renaming_certificate ≡ None
unfolding first_found found_at found_with tests tests_without bound_in grant_named slots_in free_numbers uses channel_at successes successes_in error_outcomes mark_tests authority_tests
renaming_meets = refl

renaming_shows : AlwaysShows renaming_plan (turns (0 ∷ 0 ∷ 0 ∷ [])) (codes "0 main:0 = 0\n0 main:1 walk\n0 main:1 = 0 remove /work/in create /work/out/in\n")
unfolding ℕ_discrete digits removed filled first_handled handled looks looks_twice lookup_fault path_fault path_components last_component by_nodes node_at
    child_of parent_of unless held at_object at_number any_below lowest_from answer files_after changed answered jumped executed stepped_at stepped_by stepped step
    first_world first_files
renaming_shows = always renaming_plan (turns (0 ∷ 0 ∷ 0 ∷ [])) (codes "0 main:0 = 0\n0 main:1 walk\n0 main:1 = 0 remove /work/in create /work/out/in\n") (λ choose. refl)

pub renaming : ActsAccepted renaming_plan renaming_certificate (0 ∷ 0 ∷ 0 ∷ []) (codes "0 main:0 = 0\n0 main:1 walk\n0 main:1 = 0 remove /work/in create /work/out/in\n")
renaming = accepted renaming_plan renaming_certificate (0 ∷ 0 ∷ 0 ∷ []) _ renaming_is_task refl renaming_meets renaming_shows
