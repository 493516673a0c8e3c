-- What the rules say of further rights, by computation: each refusal beside what is let through.
use Rattle.std.proofs.Common.{◌≡◌, [], ◌∷◌, refl}
use Rattle.std.specs.Prelude.{◌++◌, ◌+◌, ◌-◌, ℕ, Bool, true, false, List, map, codes, Option, Some, None}
use Rattle.rights.specs.Sets.{all_rights, all_commands, plain_rights, read_right, seek_right, write_right, further_right}
use Rattle.rights.specs.Operations.{Operation, Look, Write as Writes}
use Rattle.instruction_set.specs.Programs.{Register, Number, Syscall, Sendfd, Cap_rights_limit, Cap_enter, Use, Instruction, Halt, Invoke}
use Rattle.certificate.specs.Bounds.{ModeBound, Off, On, Either, Held, Closed, Open, Maybe, with_interval, with_slot, Bound, Four, bound_in}
use Rattle.certificate.specs.Growth.{copies}
use Rattle.task.specs.Policies.{grant_named}
use Rattle.rules.specs.Intervals.{only}
use Rattle.rules.specs.Slots.{slots_in, free_numbers}
use Rattle.rules.specs.Uses.{uses}
use Rattle.rules.specs.Channels.{channel_at}
use Rattle.rules.specs.Outcomes.{Outcome, outcome_to, from_to, unknown_held, successes, successes_in, error_outcomes}
use Rattle.rules.specs.Authority.{authority_in, ceiling_in}
use Rattle.rules.specs.Rules.{tests, tests_without, authority_tests, mark_tests}
use Rattle.rules.specs.Verdicts.{found_with, found_at, first_found}
use Rattle.rules.specs.Probes.{bound_of_slots, all_open, in_work, in_log, any_node, side_a, with_least, channel, block_if, probed_plan, probed_certificate, plain_probe, probed, probe, probe_over}
use Rattle.rules.specs.Probes.{broken}
use Rattle.rules.specs.MarkedRefusals.{MarkedProbe, mark_plan, nothing_held, bounded_at, starting_with, work_directory, reads_only, on_work, holding}
use Rattle.rules.proofs.rows.Samples.{work_with, few_rights, few_or_all, certificate_of}

abbrev bind : ℕ
bind = further_right 1

abbrev connect : ℕ
connect = further_right 2

abbrev event : ℕ
event = further_right 4

abbrev fchdir : ℕ
fchdir = further_right 5

abbrev fchmod : ℕ
fchmod = further_right 7

abbrev fchmodat : ℕ
fchmodat = further_right 8

abbrev mmap_r : ℕ
mmap_r = further_right 24

-- the call with a right, through slot 0
abbrev used : ModeBound → List Held → ℕ → Option (ℕ × ℕ × ℕ)
used mode held right = probe (Use (Number 0) right) mode held

-- ## Global name spaces
-- where the mode may be on, whatever the slots are
reaches_no_global_names : used On [] connect ∷ used On (in_work ∷ []) bind ∷ used On (side_a ∷ []) fchdir ∷ used Either (any_node ∷ []) connect
    ∷ used On (with_least in_work 0 0 ∷ []) connect ∷ probe (Use (Register 0) bind) Either [] ∷ []
    ≡ copies 6 (broken 6)
unfolding first_found found_at found_with tests tests_without bound_in grant_named slots_in free_numbers uses channel_at successes successes_in error_outcomes mark_tests authority_tests
reaches_no_global_names = refl

reaches_them_outside : map (used Off (in_work ∷ [])) (connect ∷ bind ∷ fchdir ∷ []) ++ map (used On (in_work ∷ [])) (event ∷ further_right 3 ∷ [])
    ≡ copies 4 None ++ broken 11 ∷ []
unfolding first_found found_at found_with tests tests_without bound_in grant_named slots_in free_numbers uses channel_at successes successes_in error_outcomes mark_tests authority_tests
reaches_them_outside = refl

-- ## What a slot surely has
-- with all rights but these, and with these alone
abbrev used_without : ℕ → ℕ → Option (ℕ × ℕ × ℕ)
used_without missing right = used Off (with_least in_work (all_rights - missing) all_commands ∷ []) right

abbrev used_with : ℕ → ℕ → Option (ℕ × ℕ × ℕ)
used_with rights right = used On (with_least in_work rights 0 ∷ []) right

needs_what_stands_beside_its_right : used_without seek_right mmap_r ∷ used_without read_right mmap_r ∷ used_with mmap_r mmap_r
    ∷ used_without write_right mmap_r ∷ used_with (read_right + seek_right + mmap_r) mmap_r ∷ []
    ≡ copies 3 (broken 7) ++ copies 2 None
unfolding first_found found_at found_with tests tests_without bound_in grant_named slots_in free_numbers uses channel_at successes successes_in error_outcomes mark_tests authority_tests
needs_what_stands_beside_its_right = refl

needs_its_right : used_without event event ∷ used_with (read_right + seek_right) mmap_r ∷ used_with plain_rights event
    ∷ used_with event event ∷ used_without mmap_r event ∷ []
    ≡ copies 3 (broken 8) ++ copies 2 None
unfolding first_found found_at found_with tests tests_without bound_in grant_named slots_in free_numbers uses channel_at successes successes_in error_outcomes mark_tests authority_tests
needs_its_right = refl

-- a limit to READ and EVENT
abbrev limited_from : ℕ → Option (ℕ × ℕ × ℕ)
limited_from rights = probe (Cap_rights_limit (Number 0) (read_right + event)) On (with_least in_work rights 0 ∷ [])

limits_ask_for_further_rights_that_are_there : map limited_from (read_right ∷ plain_rights ∷ event ∷ (read_right + event) ∷ all_rights ∷ [])
    ≡ copies 3 (broken 9) ++ copies 2 None
unfolding first_found found_at found_with tests tests_without bound_in grant_named slots_in free_numbers uses channel_at successes successes_in error_outcomes mark_tests authority_tests
limits_ask_for_further_rights_that_are_there = refl

-- ## What is worked on
works_on_what_is_known : used On (any_node ∷ []) fchmod ∷ used Either (any_node ∷ []) mmap_r
    ∷ used On (any_node ∷ []) event ∷ used Off (any_node ∷ []) fchmod ∷ used On (side_a ∷ []) fchmod ∷ []
    ≡ copies 2 (broken 10) ++ copies 3 None
unfolding first_found found_at found_with tests tests_without bound_in grant_named slots_in free_numbers uses channel_at successes successes_in error_outcomes mark_tests authority_tests
works_on_what_is_known = refl

-- The grant lists to look, to read and to create: it doesn't to write. That of the last slot lists nothing.
asks_the_policy : used On (in_work ∷ []) fchmod ∷ used Either (in_work ∷ []) fchmodat ∷ used On (in_work ∷ []) (further_right 25) ∷ used On (in_log ∷ []) mmap_r
    ∷ used On (in_work ∷ []) mmap_r ∷ used On (in_work ∷ []) (further_right 14) ∷ used Off (in_work ∷ []) fchmod ∷ used On (in_log ∷ []) event ∷ []
    ≡ copies 4 (broken 11) ++ copies 4 None
unfolding first_found found_at found_with tests tests_without bound_in grant_named slots_in free_numbers uses channel_at successes successes_in error_outcomes mark_tests authority_tests
asks_the_policy = refl

-- a grant that lists these alone
abbrev used_where : List Operation → ℕ → Option (ℕ × ℕ × ℕ)
used_where operations right =
    first_found
    (record (probed_plan 0 (Invoke (Use (Number 0) right) 1)) { grants = work_with operations ∷ [] })
    (probed_certificate (plain_probe (bound_of_slots On (all_open (in_work ∷ [])))))

asks_for_one_operation : map (used_where (Writes ∷ [])) (fchmod ∷ further_right 25 ∷ mmap_r ∷ []) ++ map (used_where (Look ∷ [])) (further_right 13 ∷ fchmod ∷ [])
    ≡ None ∷ None ∷ broken 11 ∷ None ∷ broken 11 ∷ []
unfolding first_found found_at found_with tests tests_without bound_in grant_named slots_in free_numbers uses channel_at successes successes_in error_outcomes mark_tests authority_tests
asks_for_one_operation = refl

-- ## Bounds
-- A line, and a bound behind, that leave further rights out don't bound a descriptor that has them.
abbrev without_further : Held
without_further = record in_work { least = 0; greatest = plain_rights }

sends_no_further_rights : probe_over (channel 0 (Some without_further) ∷ []) (Sendfd (Number 0) (Number 1) (Number 0)) Off (side_a ∷ in_work ∷ [])
    ∷ probe_over (channel 0 (Some without_further) ∷ []) (Sendfd (Number 0) (Number 1) (Number 0)) Off (side_a ∷ without_further ∷ []) ∷ []
    ≡ broken 14 ∷ None ∷ []
unfolding first_found found_at found_with tests tests_without bound_in grant_named slots_in free_numbers uses channel_at successes successes_in error_outcomes mark_tests authority_tests
sends_no_further_rights = refl

-- after a limit to READ and EVENT, or to READ
abbrev leads_to : ℕ → Held → Option (ℕ × ℕ × ℕ)
leads_to rights held =
    probed (record (plain_probe (with_interval (bound_of_slots Off (Open in_work ∷ [])) 7 (from_to 1 94))) {
      next = Some (bound_of_slots Off (Maybe held ∷ []));
    }) (Invoke (Cap_rights_limit (Number 0) rights) 0)

limits_lead_to_what_they_ask : leads_to (read_right + event) (record in_work { least = 0; greatest = read_right }) ∷ leads_to read_right (with_least in_work event 0)
    ∷ leads_to (read_right + event) (record in_work { least = event; greatest = read_right + event }) ∷ []
    ≡ broken 2 ∷ broken 2 ∷ None ∷ []
unfolding first_found found_at found_with tests tests_without bound_in grant_named slots_in free_numbers uses channel_at successes successes_in error_outcomes mark_tests authority_tests
limits_lead_to_what_they_ask = refl

-- ## Marked programs
-- in a task that asks for further rights, or in another
abbrev found_in : Bool → Instruction → MarkedProbe → Option (ℕ × ℕ × ℕ)
found_in wide i p = first_found (record (mark_plan p i) { wide = wide }) (record {
  version = Four;
  points = block_if (codes "probe") 0 p.here ++ block_if (codes "probe") 1 p.next;
  channels = p.channels;
  authorities = record { program = codes "probe"; ceilings = p.ceilings; holds = p.holds } ∷ [];
})

abbrev in_both : Instruction → MarkedProbe → List (Option (ℕ × ℕ × ℕ))
in_both i p = found_in true i p ∷ found_in false i p ∷ []

-- a ceiling with FCHMOD where the grant doesn't list writing; EVENT and MMAP_R are fine there
abbrev below_ceiling : ℕ → MarkedProbe
below_ceiling rights = record nothing_held { ceilings = on_work rights ∷ [] }

ceilings_ask_the_policy : in_both Halt (below_ceiling fchmod) ++ in_both Halt (below_ceiling (event + mmap_r)) ++ in_both Halt (below_ceiling write_right)
    ≡ broken 19 ∷ None ∷ None ∷ None ∷ broken 19 ∷ broken 19 ∷ []
unfolding first_found found_at found_with tests tests_without mark_tests authority_tests bound_in grant_named slots_in free_numbers uses
    channel_at successes successes_in error_outcomes authority_in ceiling_in
ceilings_ask_the_policy = refl

-- READ and EVENT, below a ceiling of these rights: from the start, where it enters the mode, and by an end that is listed
abbrev started_below : ℕ → MarkedProbe
started_below rights = record (below_ceiling rights) { descriptors = starting_with work_directory (read_right + event) ∷ [] }

abbrev reads_with_event : Held
reads_with_event = record reads_only { greatest = read_right + event }

abbrev entering_below : ℕ → MarkedProbe
entering_below rights = record (bounded_at (bound_of_slots Off (Maybe reads_with_event ∷ []))) { ceilings = on_work rights ∷ [] }

abbrev receiving_below : ℕ → MarkedProbe
receiving_below rights = record (holding (Some reads_with_event) (Some unknown_held)) { ceilings = on_work rights ∷ [] }

starts_below_its_ceiling : in_both Halt (started_below read_right) ++ in_both Halt (started_below (read_right + event)) ++ in_both Halt (started_below event)
    ≡ broken 18 ∷ None ∷ None ∷ None ∷ broken 18 ∷ broken 18 ∷ []
unfolding first_found found_at found_with tests tests_without mark_tests authority_tests bound_in grant_named slots_in free_numbers uses
    channel_at successes successes_in error_outcomes authority_in ceiling_in
starts_below_its_ceiling = refl

enters_below_its_ceiling : in_both (Invoke Cap_enter 1) (entering_below read_right) ++ in_both (Invoke Cap_enter 1) (entering_below (read_right + event))
    ++ in_both (Invoke Cap_enter 1) (entering_below event)
    ≡ broken 18 ∷ None ∷ None ∷ None ∷ broken 18 ∷ broken 18 ∷ []
unfolding first_found found_at found_with tests tests_without mark_tests authority_tests bound_in grant_named slots_in free_numbers uses
    channel_at successes successes_in error_outcomes authority_in ceiling_in
enters_below_its_ceiling = refl

receives_below_its_ceiling : in_both Halt (receiving_below read_right) ++ in_both Halt (receiving_below (read_right + event)) ++ in_both Halt (receiving_below event)
    ≡ broken 21 ∷ None ∷ None ∷ None ∷ broken 21 ∷ broken 21 ∷ []
unfolding first_found found_at found_with tests tests_without mark_tests authority_tests bound_in grant_named slots_in free_numbers uses
    channel_at successes successes_in error_outcomes authority_in ceiling_in
receives_below_its_ceiling = refl

-- Who receives what it sends expects further rights, and who starts outside the mode is bounded by its point, in each task.
abbrev starting_at : Held → MarkedProbe
starting_at held =
    record (bounded_at (bound_of_slots Off (Open held ∷ []))) {
      in_mode = false;
      descriptors = starting_with work_directory (read_right + event) ∷ [];
    }

asked_in_each_task : in_both Halt (holding None (Some (record unknown_held { greatest = plain_rights })))
    ++ in_both Halt (starting_at reads_only) ++ in_both Halt (starting_at reads_with_event)
    ≡ copies 2 (broken 22) ++ copies 2 (broken 1) ++ copies 2 None
unfolding first_found found_at found_with tests tests_without mark_tests authority_tests bound_in grant_named slots_in free_numbers uses
    channel_at successes successes_in error_outcomes authority_in ceiling_in
asked_in_each_task = refl

-- ## Outcomes
-- Slot 0 has a directory with some rights, slot 1 an end, slot 2 is free, and slot 3 may have any node. Register 1 is 0 or 1.
abbrev here_in : ModeBound → Bound
here_in mode = with_interval (bound_of_slots mode (Open few_or_all ∷ Open side_a ∷ Closed ∷ Maybe any_node ∷ [])) 1 (from_to 0 1)

abbrev here : Bound
here = here_in Off

abbrev after : Bound → Syscall → List Outcome
after b call = successes [] (certificate_of [] []) (codes "main") 4 b (Invoke call 9)

abbrev gives_nought : Bound → List Outcome
gives_nought b = outcome_to 5 (with_interval b 0 (only 0))

uses_its_right : after here (Use (Number 0) event) ++ after here (Use (Number 1) fchmod) ++ after here (Use (Number 3) fchmodat)
    ≡ gives_nought here ++ gives_nought here ++ gives_nought here
unfolding slots_in free_numbers uses channel_at successes error_outcomes
uses_its_right = refl

uses_it_through_each_slot : after here (Use (Register 1) event) ≡ gives_nought here ++ gives_nought here
unfolding slots_in free_numbers uses channel_at successes error_outcomes
uses_it_through_each_slot = refl

-- what acts beneath a directory does nothing through an end
acts_beneath_nodes_alone : after here (Use (Register 1) fchmodat) ≡ gives_nought here
unfolding slots_in free_numbers uses channel_at successes error_outcomes
acts_beneath_nodes_alone = refl

uses_nothing : after here (Use (Number 1) fchmodat) ++ after here (Use (Number 2) event) ++ after here (Use (Number 16) event) ≡ []
unfolding slots_in free_numbers uses channel_at successes error_outcomes
uses_nothing = refl

reaches_nothing_global_in_the_mode : after (here_in On) (Use (Number 0) connect) ++ after (here_in On) (Use (Number 3) bind) ++ after (here_in On) (Use (Number 0) fchdir)
    ≡ []
unfolding slots_in free_numbers uses channel_at successes error_outcomes
reaches_nothing_global_in_the_mode = refl

may_reach_it_where_the_mode_may_be_off : after (here_in Either) (Use (Number 0) connect) ++ after here (Use (Number 0) fchdir) ++ after (here_in On) (Use (Number 0) event)
    ≡ gives_nought (here_in Either) ++ gives_nought here ++ gives_nought (here_in On)
unfolding slots_in free_numbers uses channel_at successes error_outcomes
may_reach_it_where_the_mode_may_be_off = refl

-- what a limit asks for is both the least and the most
abbrev limited_to : ℕ → List Outcome
limited_to rights = gives_nought (with_slot here 3 (Open (record any_node { least = rights; greatest = rights })))

limits_both_kinds : after here (Cap_rights_limit (Number 3) (few_rights + event)) ++ after here (Cap_rights_limit (Number 3) few_rights)
    ≡ limited_to (few_rights + event) ++ limited_to few_rights
unfolding slots_in free_numbers uses channel_at successes error_outcomes
limits_both_kinds = refl

-- it may fail, whatever the right
may_fail : error_outcomes here (Invoke (Use (Number 0) event) 9) ++ error_outcomes (here_in On) (Invoke (Use (Number 0) connect) 9)
    ≡ outcome_to 9 (with_interval here 7 (from_to 1 94)) ++ outcome_to 9 (with_interval (here_in On) 7 (from_to 1 94))
unfolding slots_in free_numbers uses channel_at successes error_outcomes
may_fail = refl
