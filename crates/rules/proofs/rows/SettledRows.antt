-- What the rules say where two careful readers could differ, by computation.
use Rattle.std.proofs.Common.{◌≡◌, [], ◌∷◌, refl}
use Rattle.std.specs.Prelude.{ℕ, true, false, List, map, codes, Option, Some, None}
use Rattle.rights.specs.Opens.{OpenRequest, open_request}
use Rattle.instruction_set.specs.Programs.{Register, Number, Syscall, Lseek, Open, Openat, Read, Sendfd, Recvfd, Mkdirat, Mkdir, Unlink, Renameat, Dup, Close, Cap_rights_limit}
use Rattle.instruction_set.specs.Programs.{Cap_fcntls_limit, Cap_enter, Socketpair, Jeq, Jlt, Jmp, Halt, Invoke}
use Rattle.certificate.specs.Bounds.{Off, On, Held, Closed, Maybe, Interval, with_interval, Bound, bound_in}
use Rattle.task.specs.Policies.{grant_named}
use Rattle.rules.specs.Intervals.{only}
use Rattle.rules.specs.Slots.{slots_in, free_numbers}
use Rattle.rules.specs.Uses.{uses}
use Rattle.rules.specs.Channels.{channel_at}
use Rattle.rules.specs.Outcomes.{successes, successes_in, error_outcomes, from_to}
use Rattle.rules.specs.Rules.{tests, tests_without, authority_tests, mark_tests}
use Rattle.rules.specs.Verdicts.{found_with, found_at, first_found}
use Rattle.rules.specs.Probes.{bound_of_slots, all_open, in_work, in_log, any_node, side_a, side_b, with_least, channel, block, Probe, probed_plan, plain_probe, probed, probe, probe_over, broken}
use Rattle.rules.proofs.rows.Samples.{is_open, certificate_of}

abbrev to_read : OpenRequest
to_read = open_request true false false false false

abbrev name : List ℕ
name = codes "in"

-- ## A success isn't formed where a rule is broken at the point, whatever the slot
-- Register 0 is 0 or 1, and an error alone leads to the next point's bound.
abbrev unsure : List Held → Bound
unsure held = with_interval (bound_of_slots Off (all_open held)) 0 (from_to 0 1)

abbrev errors_alone : List Held → Probe
errors_alone held = record (plain_probe (unsure held)) { next = Some (with_interval (unsure held) 7 (from_to 1 94)) }

closes_neither : probed (errors_alone (in_work ∷ in_work ∷ [])) (Invoke (Close (Register 0)) 1) ≡ broken 4
unfolding first_found found_at found_with tests tests_without bound_in grant_named slots_in free_numbers uses channel_at successes successes_in error_outcomes mark_tests authority_tests
closes_neither = refl

closes_one_that_is_sure : probed (errors_alone (in_work ∷ in_work ∷ [])) (Invoke (Close (Number 0)) 1) ≡ broken 2
unfolding first_found found_at found_with tests tests_without bound_in grant_named slots_in free_numbers uses channel_at successes successes_in error_outcomes mark_tests authority_tests
closes_one_that_is_sure = refl

-- side b has no line, and side a has one
sends_through_neither : probed (record (errors_alone (side_a ∷ side_b ∷ [])) { channels = channel 0 (Some side_a) ∷ [] }) (Invoke (Sendfd (Register 0) (Number 0) (Number 1)) 1) ≡ broken 15
unfolding first_found found_at found_with tests tests_without bound_in grant_named slots_in free_numbers uses channel_at successes successes_in error_outcomes mark_tests authority_tests
sends_through_neither = refl

sends_through_the_one : probed (record (errors_alone (side_a ∷ side_b ∷ [])) { channels = channel 0 (Some side_a) ∷ [] }) (Invoke (Sendfd (Number 0) (Number 0) (Number 1)) 1) ≡ broken 2
unfolding first_found found_at found_with tests tests_without bound_in grant_named slots_in free_numbers uses channel_at successes successes_in error_outcomes mark_tests authority_tests
sends_through_the_one = refl

takes_no_number_that_may_be_taken : probed (record (plain_probe (bound_of_slots Off (Maybe in_work ∷ []))) {
  next = Some (with_interval (bound_of_slots Off (Maybe in_work
      ∷ [])) 7 (from_to 1 94));
}) (Invoke (Open name to_read) 1)
    ≡ broken 5
unfolding first_found found_at found_with tests tests_without bound_in grant_named slots_in free_numbers uses channel_at successes successes_in error_outcomes mark_tests authority_tests
takes_no_number_that_may_be_taken = refl

-- ## A grant that the task hasn't
-- It counts as a grant where the slot has to be known, lists no operation, and is another than each that the task has.
is_known : probe (Recvfd (Number 0)) On (in_log ∷ []) ≡ None
unfolding first_found found_at found_with tests tests_without bound_in grant_named slots_in free_numbers uses channel_at successes successes_in error_outcomes mark_tests authority_tests
is_known = refl

lists_nothing : probe (Read (Number 0)) On (in_log ∷ []) ≡ broken 11
unfolding first_found found_at found_with tests tests_without bound_in grant_named slots_in free_numbers uses channel_at successes successes_in error_outcomes mark_tests authority_tests
lists_nothing = refl

is_a_named_one : probe (Mkdirat (Number 0) name) Off (in_log ∷ []) ≡ None
unfolding first_found found_at found_with tests tests_without bound_in grant_named slots_in free_numbers uses channel_at successes successes_in error_outcomes mark_tests authority_tests
is_a_named_one = refl

is_another_one : probe (Renameat (Number 0) name (Number 1) name) Off (in_log ∷ in_work ∷ []) ≡ broken 13
unfolding first_found found_at found_with tests tests_without bound_in grant_named slots_in free_numbers uses channel_at successes successes_in error_outcomes mark_tests authority_tests
is_another_one = refl

-- ## Channels
-- A channel that lets nothing through is broken by a `sendfd`, even if there is nothing to send.
sends_into_nothing : probe_over (channel 0 None ∷ []) (Sendfd (Number 0) (Number 5) (Number 1)) Off (side_a ∷ []) ≡ broken 14
unfolding first_found found_at found_with tests tests_without bound_in grant_named slots_in free_numbers uses channel_at successes successes_in error_outcomes mark_tests authority_tests
sends_into_nothing = refl

-- A slot that may be open is sent as an open one.
sends_what_may_be_open : probed (record (plain_probe (bound_of_slots Off (is_open side_a ∷ Maybe any_node ∷ []))) {
  channels = channel 0 (Some in_work)
      ∷ [];
}) (Invoke (Sendfd (Number 0) (Number 1) (Number 1)) 1)
    ≡ broken 14
unfolding first_found found_at found_with tests tests_without bound_in grant_named slots_in free_numbers uses channel_at successes successes_in error_outcomes mark_tests authority_tests
sends_what_may_be_open = refl

sends_within_the_line : probed (record (plain_probe (bound_of_slots Off (is_open side_a ∷ Maybe in_work ∷ []))) {
  channels = channel 0 (Some any_node)
      ∷ [];
}) (Invoke (Sendfd (Number 0) (Number 1) (Number 1)) 1)
    ≡ None
unfolding first_found found_at found_with tests tests_without bound_in grant_named slots_in free_numbers uses channel_at successes successes_in error_outcomes mark_tests authority_tests
sends_within_the_line = refl

-- ## Programs that no process starts
asks_no_start_of_them : probed (record (plain_probe (bound_of_slots On [])) { next = Some (bound_of_slots On []) }) (Invoke (Dup (Number 0)) 1) ≡ None
unfolding first_found found_at found_with tests tests_without bound_in grant_named slots_in free_numbers uses channel_at successes successes_in error_outcomes mark_tests authority_tests
asks_no_start_of_them = refl

asks_the_start_of_others : probed (record (plain_probe (bound_of_slots On [])) { started = 1; next = Some (bound_of_slots On []) }) (Invoke (Dup (Number 0)) 1) ≡ broken 1
unfolding first_found found_at found_with tests tests_without bound_in grant_named slots_in free_numbers uses channel_at successes successes_in error_outcomes mark_tests authority_tests
asks_the_start_of_others = refl

needs_no_bound_at_their_start : first_found (probed_plan 0 (Jmp 1)) (certificate_of (block (codes "main") 0 (bound_of_slots Off []) ∷ []) []) ≡ None
unfolding first_found found_at found_with tests tests_without bound_in grant_named slots_in free_numbers uses channel_at successes successes_in error_outcomes mark_tests authority_tests
needs_no_bound_at_their_start = refl

needs_one_at_the_start_of_others : first_found (probed_plan 1 (Jmp 1)) (certificate_of (block (codes "main") 0 (bound_of_slots Off []) ∷ []) []) ≡ broken 16
unfolding first_found found_at found_with tests tests_without bound_in grant_named slots_in free_numbers uses channel_at successes successes_in error_outcomes mark_tests authority_tests
needs_one_at_the_start_of_others = refl

needs_none_at_further_points : probed (record (plain_probe (bound_of_slots Off [])) { started = 1; next = None }) Halt ≡ None
unfolding first_found found_at found_with tests tests_without bound_in grant_named slots_in free_numbers uses channel_at successes successes_in error_outcomes mark_tests authority_tests
needs_none_at_further_points = refl

-- ## Rules that ask nothing of operands, or of slots
abbrev finds_a_maybe : Syscall → Option (ℕ × ℕ × ℕ)
finds_a_maybe call = probed (plain_probe (bound_of_slots Off (Maybe in_work ∷ []))) (Invoke call 1)

asks_for_the_lowest_number : map finds_a_maybe
    (Dup (Number 9) ∷ Recvfd (Number 9) ∷ Openat (Number 9) name to_read ∷ Open name to_read ∷ Read (Number 9) ∷ [])
    ≡ broken 5 ∷ broken 5 ∷ broken 5 ∷ broken 5 ∷ None ∷ []
unfolding first_found found_at found_with tests tests_without bound_in grant_named slots_in free_numbers uses channel_at successes successes_in error_outcomes mark_tests authority_tests
asks_for_the_lowest_number = refl

asks_for_one_operand : map finds_a_maybe
    (Close (Register 0) ∷ Cap_rights_limit (Register 0) 0 ∷ Cap_fcntls_limit (Register 0) 0 ∷ Lseek (Register 3) (Number 0) ∷ Close (Number 9) ∷ [])
    ≡ broken 4 ∷ broken 4 ∷ broken 4 ∷ None ∷ None ∷ []
unfolding first_found found_at found_with tests tests_without bound_in grant_named slots_in free_numbers uses channel_at successes successes_in error_outcomes mark_tests authority_tests
asks_for_one_operand = refl

asks_for_two_numbers : probed (plain_probe (bound_of_slots Off (Closed ∷ Maybe in_work ∷ []))) (Invoke Socketpair 1) ≡ broken 5
unfolding first_found found_at found_with tests tests_without bound_in grant_named slots_in free_numbers uses channel_at successes successes_in error_outcomes mark_tests authority_tests
asks_for_two_numbers = refl

asks_for_one_number : probed (plain_probe (bound_of_slots Off (Closed ∷ Maybe in_work ∷ []))) (Invoke (Dup (Number 9)) 1) ≡ None
unfolding first_found found_at found_with tests tests_without bound_in grant_named slots_in free_numbers uses channel_at successes successes_in error_outcomes mark_tests authority_tests
asks_for_one_number = refl

asks_for_no_global_names : probe (Mkdir name) Off [] ∷ probe (Unlink name false) Off [] ∷ probe (Open name (open_request true false false true false)) Off [] ∷ []
    ≡ broken 12 ∷ broken 12 ∷ broken 12 ∷ []
unfolding first_found found_at found_with tests tests_without bound_in grant_named slots_in free_numbers uses channel_at successes successes_in error_outcomes mark_tests authority_tests
asks_for_no_global_names = refl

asks_an_end_for_rights_to_open : probe (Openat (Number 0) name to_read) Off (with_least side_a 0 0 ∷ []) ≡ broken 7
unfolding first_found found_at found_with tests tests_without bound_in grant_named slots_in free_numbers uses channel_at successes successes_in error_outcomes mark_tests authority_tests
asks_an_end_for_rights_to_open = refl

-- ## A target that is missing
-- The success goes to a point without a bound, and the error to one that is too narrow.
tells_the_narrow_target : probed (record (plain_probe (with_interval (bound_of_slots Off (is_open in_work ∷ [])) 7 (only 0))) { next = None }) (Invoke (Dup (Number 0)) 0) ≡ broken 3
unfolding first_found found_at found_with tests tests_without bound_in grant_named slots_in free_numbers uses channel_at successes successes_in error_outcomes mark_tests authority_tests
tells_the_narrow_target = refl

-- Nothing is less than 0, so that nothing leads there; point 5 has no bound.
leads_nowhere_if_less_than_none : probed (plain_probe (bound_of_slots Off [])) (Jlt 0 0 5) ∷ probed (plain_probe (bound_of_slots Off [])) (Jlt 0 1 5) ∷ [] ≡ None ∷ broken 16 ∷ []
unfolding first_found found_at found_with tests tests_without bound_in grant_named slots_in free_numbers uses channel_at successes successes_in error_outcomes mark_tests authority_tests
leads_nowhere_if_less_than_none = refl

leads_nowhere_if_nothing_is_equal : probed (plain_probe (unsure [])) (Jeq 0 2 5) ∷ probed (plain_probe (unsure [])) (Jeq 0 1 5) ∷ [] ≡ None ∷ broken 16 ∷ []
unfolding first_found found_at found_with tests tests_without bound_in grant_named slots_in free_numbers uses channel_at successes successes_in error_outcomes mark_tests authority_tests
leads_nowhere_if_nothing_is_equal = refl

enters_without_an_error : probed (plain_probe (bound_of_slots Off [])) (Invoke Cap_enter 5) ≡ None
unfolding first_found found_at found_with tests tests_without bound_in grant_named slots_in free_numbers uses channel_at successes successes_in error_outcomes mark_tests authority_tests
enters_without_an_error = refl

-- On the way on, a number within an interval leaves it whole, and one at an end is left out.
abbrev up_to_ten : Bound
up_to_ten = with_interval (bound_of_slots Off []) 0 (from_to 0 10)

abbrev on_to : Interval → Probe
on_to i = record (plain_probe up_to_ten) { next = Some (with_interval (bound_of_slots Off []) 0 i) }

is_left_whole : probed (on_to (from_to 0 10)) (Jeq 0 5 1) ∷ probed (on_to (from_to 0 9)) (Jeq 0 5 1) ∷ [] ≡ None ∷ broken 2 ∷ []
unfolding first_found found_at found_with tests tests_without bound_in grant_named slots_in free_numbers uses channel_at successes successes_in error_outcomes mark_tests authority_tests
is_left_whole = refl

is_left_out_at_an_end : successes [] (certificate_of [] []) (codes "probe") 0 up_to_ten (Jeq 0 10 7)
    ≡ record { point = 7; bound = with_interval up_to_ten 0 (only 10) } ∷ record { point = 1; bound = with_interval up_to_ten 0 (from_to 0 9) } ∷ []
unfolding first_found found_at found_with tests tests_without bound_in grant_named slots_in free_numbers uses channel_at successes successes_in error_outcomes mark_tests authority_tests
is_left_out_at_an_end = refl
