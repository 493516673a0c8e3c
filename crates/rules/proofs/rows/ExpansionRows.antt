-- Certificates of version 2 and their expansions, by computation.
use Rattle.std.proofs.Common.{◌≡◌, [], ◌∷◌, refl}
use Rattle.std.specs.Prelude.{ℕ, List, codes, map, Some, None}
use Rattle.certificate.specs.Bounds.{Off, On, Bound, with_interval, PointBound, ChannelBound, One, Two, Certificate, bound_in}
use Rattle.certificate.specs.Told.{told_point}
use Rattle.file_tree.specs.Refusals.{created}
use Rattle.kernel.proofs.Samples.{base}
use Rattle.instruction_set.specs.Programs.{Instruction, Set, Jmp, Jeq, Halt, Invoke, Fork}
use Rattle.task.specs.Policies.{grant_named}
use Rattle.rules.specs.Intervals.{only}
use Rattle.rules.specs.Slots.{slots_in, free_numbers}
use Rattle.rules.specs.Uses.{uses}
use Rattle.rules.specs.Channels.{channel_at}
use Rattle.rules.specs.Outcomes.{from_to, successes, successes_in, error_outcomes}
use Rattle.rules.specs.Carrying.{joined_at}
use Rattle.rules.specs.Expansions.{code_named, expansion, points_along, programs_behind}
use Rattle.rules.specs.Probes.{block, channel}
use Rattle.rules.specs.Rules.{tests, tests_without, authority_tests, mark_tests}
use Rattle.rules.specs.Verdicts.{first_found, found_at, found_with}
use Rattle.rules.proofs.rows.Samples.{alone, at_main, certificate_of, in_work, opens_in_the_mode}

-- a point of `main`
abbrev main_at : ℕ → Bound → PointBound
main_at point bound = block (codes "main") point bound

-- a certificate of version 1 of these points, as it can say them
abbrev written : List PointBound → List ChannelBound → Certificate
written points lines = certificate_of (map (told_point One) points) lines

abbrev second : List PointBound → Certificate
second points = record (written points []) { version = Two }

-- `cap_enter` carries on what it leads to: the mode is on, and register 0 is 0. The rule that is broken there is told there.
abbrev entered : Bound
entered = with_interval (at_main On []) 0 (only 0)

carried_into_the_mode : expansion (alone opens_in_the_mode) (second (main_at 0 (at_main Off []) ∷ main_at 2 (at_main On []) ∷ []))
    ≡ written (main_at 0 (at_main Off []) ∷ main_at 1 entered ∷ main_at 2 (at_main On []) ∷ []) []
unfolding points_along programs_behind code_named joined_at successes successes_in error_outcomes slots_in free_numbers uses channel_at bound_in
carried_into_the_mode = refl

broken_where_it_is_carried : first_found (alone opens_in_the_mode)
    (expansion (alone opens_in_the_mode) (second (main_at 0 (at_main Off []) ∷ main_at 2 (at_main On []) ∷ [])))
    ≡ Some (0, 1, 6)
unfolding points_along programs_behind code_named joined_at successes successes_in error_outcomes slots_in free_numbers uses channel_at bound_in
    first_found found_at found_with tests tests_without mark_tests authority_tests grant_named base created
broken_where_it_is_carried = refl

-- Both answers of `fork` go to the next point, and are joined.
abbrev forks : List Instruction
forks = Invoke Fork 2 ∷ Halt ∷ Halt ∷ []

both_are_joined : expansion (alone forks) (second (main_at 0 (at_main Off []) ∷ []))
    ≡ written (main_at 0 (at_main Off []) ∷ main_at 1 (with_interval (at_main Off []) 0 (from_to 0 15)) ∷ []) []
unfolding points_along programs_behind code_named joined_at successes successes_in error_outcomes slots_in free_numbers uses channel_at bound_in
both_are_joined = refl

-- A point that an `else` names has no bound but a given one.
nothing_at_a_named_point : first_found (alone forks) (expansion (alone forks) (second (main_at 0 (at_main Off []) ∷ []))) ≡ Some (0, 0, 16)
unfolding points_along programs_behind code_named joined_at successes successes_in error_outcomes slots_in free_numbers uses channel_at bound_in
    first_found found_at found_with tests tests_without mark_tests authority_tests grant_named base created
nothing_at_a_named_point = refl

-- Nothing is carried to a point that the one before it doesn't go to; a target that is never gone to is named all the same.
abbrev jumps : List Instruction
jumps = Set 1 7 ∷ Jmp 0 ∷ Set 2 0 ∷ Halt ∷ []

nothing_past_a_jump : expansion (alone jumps) (second (main_at 0 (at_main Off []) ∷ []))
    ≡ written (main_at 0 (at_main Off []) ∷ main_at 1 (with_interval (at_main Off []) 1 (only 7)) ∷ []) []
unfolding points_along programs_behind code_named joined_at successes successes_in error_outcomes slots_in free_numbers uses channel_at bound_in
nothing_past_a_jump = refl

abbrev never_jumps : List Instruction
never_jumps = Set 0 1 ∷ Jeq 0 2 2 ∷ Halt ∷ []

named_though_never_reached : expansion (alone never_jumps) (second (main_at 0 (at_main Off []) ∷ []))
    ≡ written (main_at 0 (at_main Off []) ∷ main_at 1 (with_interval (at_main Off []) 0 (only 1)) ∷ []) []
unfolding points_along programs_behind code_named joined_at successes successes_in error_outcomes slots_in free_numbers uses channel_at bound_in
named_though_never_reached = refl

-- A given bound stays, wider or narrower than what would be carried, and is carried on from there.
given_bounds_stay : expansion (alone jumps) (second (main_at 0 (at_main Off []) ∷ main_at 1 (at_main On []) ∷ []))
    ≡ written (main_at 0 (at_main Off []) ∷ main_at 1 (at_main On []) ∷ []) []
unfolding points_along programs_behind code_named joined_at successes successes_in error_outcomes slots_in free_numbers uses channel_at bound_in
given_bounds_stay = refl

-- So do bounds of programs that the task hasn't, and past a program's end; and nothing is carried to a program without a bound, or past
-- an end.
given_elsewhere : expansion (alone (Halt ∷ [])) (second (block (codes "lib") 3 (at_main On []) ∷ main_at 200 (at_main Off []) ∷ []))
    ≡ written (block (codes "lib") 3 (at_main On []) ∷ main_at 200 (at_main Off []) ∷ []) []
unfolding points_along programs_behind code_named joined_at successes successes_in error_outcomes slots_in free_numbers uses channel_at bound_in
given_elsewhere = refl

-- The channels stay. In version 1 nothing is carried.
abbrev lines : List ChannelBound
lines = channel 0 (Some in_work) ∷ channel 1 None ∷ []

channels_stay : expansion (alone jumps) (record (written (main_at 0 (at_main Off []) ∷ []) lines) { version = Two })
    ≡ written (main_at 0 (at_main Off []) ∷ main_at 1 (with_interval (at_main Off []) 1 (only 7)) ∷ []) lines
unfolding points_along programs_behind code_named joined_at successes successes_in error_outcomes slots_in free_numbers uses channel_at bound_in
channels_stay = refl

version_1_stays : expansion (alone jumps) (written (main_at 0 (at_main Off []) ∷ []) lines) ≡ written (main_at 0 (at_main Off []) ∷ []) lines
version_1_stays = refl
