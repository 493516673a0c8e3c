-- A child that an attacker may have taken over gets a directory over a socket pair: what the rules say of it, by computation.
use Rattle.std.proofs.Common.{◌≡◌, [], ◌∷◌, List, refl}
use Rattle.std.specs.Prelude.{ℕ, codes, map, true, Option, Some, None}
use Rattle.rights.specs.Sets.{renameat_target_right}
use Rattle.rights.specs.Classes.{Initial}
use Rattle.rights.specs.Operations.{Look, Read as Reads, Remove as Removes}
use Rattle.certificate.specs.Bounds.{Off, On, Three, PointBound, ChannelBound, Ceiling, End, Certificate, bound_in}
use Rattle.certificate.specs.Told.{told_channel, told_point}
use Rattle.kernel.proofs.Samples.{base}
use Rattle.file_tree.specs.Refusals.{created}
use Rattle.task.specs.Plans.{Plan, unmarked}
use Rattle.task.specs.Policies.{grant_named}
use Rattle.rules.specs.Slots.{slots_in, free_numbers}
use Rattle.rules.specs.Uses.{uses}
use Rattle.rules.specs.Channels.{channel_at}
use Rattle.rules.specs.Outcomes.{unknown_held, successes, successes_in, error_outcomes}
use Rattle.rules.specs.Carrying.{joined_at}
use Rattle.rules.specs.Expansions.{code_named, expansion, points_along, programs_behind}
use Rattle.rules.specs.Authority.{authority_in, ceiling_in}
use Rattle.rules.specs.Rules.{tests, tests_without, authority_tests, mark_tests}
use Rattle.rules.specs.Verdicts.{found_with, found_at, first_found}
use Rattle.rules.specs.Probes.{bound_of_slots, block, channel}
use Rattle.rules.proofs.rows.Samples.{log, work_with, joined, sends_its_directory, reads_beneath_what_comes, few, few_or_all, few_rights, more_rights, is_open, in_log, end, at_main}

-- `main` limits its directory and sends it to `child`, which is in the mode.
abbrev with_child : Plan → Plan
with_child plan = record plan {
  programs =
      unmarked (codes "main") sends_its_directory
      ∷ record (unmarked (codes "child") reads_beneath_what_comes) { marked = true } ∷ [];
}

abbrev handed : Plan
handed = with_child (joined sends_its_directory reads_beneath_what_comes)

abbrev main_points : List PointBound
main_points =
    block (codes "main") 0 (at_main Off (end 0 ∷ []))
    ∷ block (codes "main") 2 (bound_of_slots Off (is_open few_or_all ∷ is_open in_log ∷ end 0 ∷ [])) ∷ []

-- the directory that is sent, and whatever is sent back
abbrev both_channels : List ChannelBound
both_channels = channel 0 (Some few) ∷ channel 1 (Some unknown_held) ∷ []

abbrev on_work : List Ceiling
on_work = record { grant = codes "work"; rights = few_rights } ∷ []

abbrev side_b : List End
side_b = record { class = Initial 0; side = 1 } ∷ []

abbrev certificate : List PointBound → List ChannelBound → List Ceiling → List End → Certificate
certificate points channels ceilings holds = record {
  version = Three;
  points = map (told_point Three) points;
  channels = map (told_channel Three) channels;
  authorities = record { program = codes "child"; ceilings = ceilings; holds = holds } ∷ [];
}

abbrev handing : Certificate
handing = certificate main_points both_channels on_work side_b

-- the policy lets names be removed, too
abbrev removing : Plan
removing = record handed { grants = work_with (Look ∷ Reads ∷ Removes ∷ []) ∷ log ∷ [] }

abbrev moving : List Ceiling
moving =
    record { grant = codes "log"; rights = renameat_target_right } ∷ record { grant = codes "work"; rights = 0x1081 } ∷ []

abbrev found : Plan → Certificate → Option (ℕ × ℕ × ℕ)
found plan c = first_found plan (expansion plan c)

is_accepted : found handed handing ≡ None
unfolding points_along programs_behind code_named joined_at first_found found_at found_with tests tests_without mark_tests authority_tests bound_in
    grant_named slots_in free_numbers uses channel_at successes successes_in error_outcomes authority_in ceiling_in base created
is_accepted = refl

-- the end that it starts with isn't listed
is_refused_without_its_end : found handed (certificate main_points both_channels on_work []) ≡ Some (1, 0, 18)
unfolding points_along programs_behind code_named joined_at first_found found_at found_with tests tests_without mark_tests authority_tests bound_in
    grant_named slots_in free_numbers uses channel_at successes successes_in error_outcomes authority_in ceiling_in base created
is_refused_without_its_end = refl

-- its directory's grant doesn't list writing
is_refused_with_a_right_too_many : found handed (certificate main_points both_channels (record { grant = codes "work"; rights = more_rights } ∷ []) side_b) ≡ Some (1, 0, 19)
unfolding points_along programs_behind code_named joined_at first_found found_at found_with tests tests_without mark_tests authority_tests bound_in
    grant_named slots_in free_numbers uses channel_at successes successes_in error_outcomes authority_in ceiling_in base created
is_refused_with_a_right_too_many = refl

-- from `/work` into `/log`
is_refused_with_moves_between_grants : found removing (certificate main_points both_channels moving side_b) ≡ Some (1, 0, 20)
unfolding points_along programs_behind code_named joined_at first_found found_at found_with tests tests_without mark_tests authority_tests bound_in
    grant_named slots_in free_numbers uses channel_at successes successes_in error_outcomes authority_in ceiling_in base created
is_refused_with_moves_between_grants = refl

-- more may come than it may hold
is_refused_what_it_has_no_ceiling_for : found handed (certificate main_points (channel 0 (Some few_or_all) ∷ channel 1 (Some unknown_held) ∷ []) on_work side_b) ≡ Some (1, 0, 21)
unfolding points_along programs_behind code_named joined_at first_found found_at found_with tests tests_without mark_tests authority_tests bound_in
    grant_named slots_in free_numbers uses channel_at successes successes_in error_outcomes authority_in ceiling_in base created
is_refused_what_it_has_no_ceiling_for = refl

is_refused_where_its_reader_expects_nothing : found handed (certificate main_points (channel 0 (Some few) ∷ []) on_work side_b) ≡ Some (1, 0, 22)
unfolding points_along programs_behind code_named joined_at first_found found_at found_with tests tests_without mark_tests authority_tests bound_in
    grant_named slots_in free_numbers uses channel_at successes successes_in error_outcomes authority_in ceiling_in base created
is_refused_where_its_reader_expects_nothing = refl

is_refused_a_point_in_the_mode : found handed (certificate (block (codes "child") 3 (bound_of_slots On (end 1 ∷ [])) ∷ main_points) both_channels on_work side_b) ≡ Some (1, 3, 17)
unfolding points_along programs_behind code_named joined_at first_found found_at found_with tests tests_without mark_tests authority_tests bound_in
    grant_named slots_in free_numbers uses channel_at successes successes_in error_outcomes authority_in ceiling_in base created
is_refused_a_point_in_the_mode = refl

is_refused_a_point_that_leads_nowhere : found handed (certificate (block (codes "child") 0 (bound_of_slots On (end 1 ∷ [])) ∷ main_points) both_channels on_work side_b) ≡ Some (1, 0, 16)
unfolding points_along programs_behind code_named joined_at first_found found_at found_with tests tests_without mark_tests authority_tests bound_in
    grant_named slots_in free_numbers uses channel_at successes successes_in error_outcomes authority_in ceiling_in base created
is_refused_a_point_that_leads_nowhere = refl

-- a program without an authority may hold nothing
is_refused_what_nothing_is_said_of : found handed (record handing { authorities = [] }) ≡ Some (1, 0, 18)
unfolding points_along programs_behind code_named joined_at first_found found_at found_with tests tests_without mark_tests authority_tests bound_in
    grant_named slots_in free_numbers uses channel_at successes successes_in error_outcomes authority_in ceiling_in base created
is_refused_what_nothing_is_said_of = refl

is_asked_though_nobody_starts_it : found (record handed { starts = [] }) (certificate main_points both_channels (record { grant = codes "work"; rights = more_rights } ∷ []) side_b) ≡ Some (1, 0, 19)
unfolding points_along programs_behind code_named joined_at first_found found_at found_with tests tests_without mark_tests authority_tests bound_in
    grant_named slots_in free_numbers uses channel_at successes successes_in error_outcomes authority_in ceiling_in base created
is_asked_though_nobody_starts_it = refl
