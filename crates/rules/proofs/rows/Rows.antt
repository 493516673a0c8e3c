-- Worked rows: small programs and certificates, with the first rule that is found broken, by computation.
use Rattle.std.proofs.Common.{◌≡◌, [], ◌∷◌, refl}
use Rattle.std.specs.Prelude.{Some, None}
use Rattle.rights.specs.Operations.{Look, Read as Reads, Remove as Removes}
use Rattle.file_tree.specs.Refusals.{created}
use Rattle.certificate.specs.Bounds.{On, Off, bound_in}
use Rattle.kernel.proofs.Samples.{base}
use Rattle.task.specs.Policies.{grant_named}
use Rattle.rules.specs.Slots.{slots_in, free_numbers}
use Rattle.rules.specs.Uses.{uses}
use Rattle.rules.specs.Channels.{channel_at}
use Rattle.rules.specs.Outcomes.{successes, successes_in, error_outcomes}
use Rattle.rules.specs.Rules.{tests, tests_without, authority_tests, mark_tests}
use Rattle.rules.specs.Verdicts.{found_with, found_at, first_found}
use Rattle.rules.specs.Probes.{channel}
use Rattle.rules.proofs.rows.Samples.{work, work_with, given, to_read, task_of, alone, joined, enters, opens_in_the_mode, reads_to_the_end, limits_and_opens, limits_twice}
use Rattle.rules.proofs.rows.Samples.{renames_between_grants, reads_in_the_mode, child_enters, sends_a_file, reads_what_comes, sends_its_directory, reads_beneath_what_comes, in_work}
use Rattle.rules.proofs.rows.Samples.{any_node, few, is_open, entering, entering_with, no_points, opened_file, limited, passing, handing, parent_alone}

opens_by_a_path_in_the_mode : first_found (alone opens_in_the_mode) entering ≡ Some (0, 1, 6)
unfolding first_found found_at found_with tests tests_without bound_in grant_named slots_in free_numbers uses channel_at successes successes_in error_outcomes mark_tests authority_tests base created
opens_by_a_path_in_the_mode = refl

reads_beneath_its_directory : first_found (alone reads_to_the_end) (opened_file On) ≡ None
unfolding first_found found_at found_with tests tests_without bound_in grant_named slots_in free_numbers uses channel_at successes successes_in error_outcomes mark_tests authority_tests base created
reads_beneath_its_directory = refl

fails_into_another_mode : first_found (alone reads_to_the_end) (opened_file Off) ≡ Some (0, 1, 3)
unfolding first_found found_at found_with tests tests_without bound_in grant_named slots_in free_numbers uses channel_at successes successes_in error_outcomes mark_tests authority_tests base created
fails_into_another_mode = refl

opens_without_the_rights : first_found (alone limits_and_opens) limited ≡ Some (0, 1, 7)
unfolding first_found found_at found_with tests tests_without bound_in grant_named slots_in free_numbers uses channel_at successes successes_in error_outcomes mark_tests authority_tests base created
opens_without_the_rights = refl

limits_to_more : first_found (alone limits_twice) limited ≡ Some (0, 1, 9)
unfolding first_found found_at found_with tests tests_without bound_in grant_named slots_in free_numbers uses channel_at successes successes_in error_outcomes mark_tests authority_tests base created
limits_to_more = refl

removes_where_the_policy_does_not : first_found (alone renames_between_grants) entering ≡ Some (0, 1, 11)
unfolding first_found found_at found_with tests tests_without bound_in grant_named slots_in free_numbers uses channel_at successes successes_in error_outcomes mark_tests authority_tests base created
removes_where_the_policy_does_not = refl

renames_into_another_grant : first_found (task_of (work_with (Look ∷ Reads ∷ Removes ∷ [])) [] renames_between_grants) entering ≡ Some (0, 1, 13)
unfolding first_found found_at found_with tests tests_without bound_in grant_named slots_in free_numbers uses channel_at successes successes_in error_outcomes mark_tests authority_tests base created
renames_into_another_grant = refl

reads_what_may_be_any_file : first_found (joined sends_a_file reads_what_comes) (passing any_node) ≡ Some (1, 1, 10)
unfolding first_found found_at found_with tests tests_without bound_in grant_named slots_in free_numbers uses channel_at successes successes_in error_outcomes mark_tests authority_tests base created
reads_what_may_be_any_file = refl

sends_what_may_be_any_file : first_found (joined sends_a_file reads_what_comes) (passing in_work) ≡ Some (0, 1, 14)
unfolding first_found found_at found_with tests tests_without bound_in grant_named slots_in free_numbers uses channel_at successes successes_in error_outcomes mark_tests authority_tests base created
sends_what_may_be_any_file = refl

reads_beneath_what_came : first_found (joined sends_its_directory reads_beneath_what_comes) (handing (channel 0 (Some few) ∷ [])) ≡ None
unfolding first_found found_at found_with tests tests_without bound_in grant_named slots_in free_numbers uses channel_at successes successes_in error_outcomes mark_tests authority_tests base created
reads_beneath_what_came = refl

sends_over_no_channel : first_found (joined sends_its_directory reads_beneath_what_comes) (handing []) ≡ Some (0, 1, 15)
unfolding first_found found_at found_with tests tests_without bound_in grant_named slots_in free_numbers uses channel_at successes successes_in error_outcomes mark_tests authority_tests base created
sends_over_no_channel = refl

takes_more_than_comes : first_found (joined sends_its_directory reads_beneath_what_comes) (handing (channel 0 (Some (record few { least = 0x0080 })) ∷ [])) ≡ Some (1, 0, 2)
unfolding first_found found_at found_with tests tests_without bound_in grant_named slots_in free_numbers uses channel_at successes successes_in error_outcomes mark_tests authority_tests base created
takes_more_than_comes = refl

forgets_the_child : first_found (alone child_enters) parent_alone ≡ Some (0, 0, 2)
unfolding first_found found_at found_with tests tests_without bound_in grant_named slots_in free_numbers uses channel_at successes successes_in error_outcomes mark_tests authority_tests base created
forgets_the_child = refl

reads_outside_every_grant : first_found (task_of work (given 2 (to_read 8) ∷ []) reads_in_the_mode) (entering_with (is_open any_node ∷ [])) ≡ Some (0, 1, 10)
unfolding first_found found_at found_with tests tests_without bound_in grant_named slots_in free_numbers uses channel_at successes successes_in error_outcomes mark_tests authority_tests base created
reads_outside_every_grant = refl

takes_workshop_for_work : first_found (task_of work (given 2 (to_read 8) ∷ []) reads_in_the_mode) (entering_with (is_open in_work ∷ [])) ≡ Some (0, 0, 1)
unfolding first_found found_at found_with tests tests_without bound_in grant_named slots_in free_numbers uses channel_at successes successes_in error_outcomes mark_tests authority_tests base created
takes_workshop_for_work = refl

has_a_bound_past_its_end : first_found (alone enters) entering ≡ None
unfolding first_found found_at found_with tests tests_without bound_in grant_named slots_in free_numbers uses channel_at successes successes_in error_outcomes mark_tests authority_tests base created
has_a_bound_past_its_end = refl

has_no_bound_at_its_start : first_found (alone enters) no_points ≡ Some (0, 0, 16)
unfolding first_found found_at found_with tests tests_without bound_in grant_named slots_in free_numbers uses channel_at successes successes_in error_outcomes mark_tests authority_tests base created
has_no_bound_at_its_start = refl
