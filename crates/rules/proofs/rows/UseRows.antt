-- What each call needs of the slots that it goes through, by the rules that it breaks where it isn't there. Rows are over
-- lists of calls.
use Rattle.std.proofs.Common.{◌≡◌, [], ◌∷◌, refl}
use Rattle.std.specs.Prelude.{ℕ, ◌++◌, ◌-◌, true, false, List, map, codes, Option, Some, None}
use Rattle.rights.specs.Sets.{all_rights, all_commands, lookup_right, read_right, getfl_command, setfl_command}
use Rattle.rights.specs.Opens.{OpenRequest, open_request}
use Rattle.rights.specs.Operations.{Operation, Create as Creates, Remove as Removes}
use Rattle.instruction_set.specs.Programs.{Invoke, Operand, Register, Number, Syscall, Open, Openat, Read, Write, Sendfd, Recvfd, Lseek, Ftruncate, Fsync, Fstat, Fcntl_getfl, Fcntl_setfl}
use Rattle.instruction_set.specs.Programs.{Fstatat, Stat, Mkdirat, Mkdir, Unlinkat, Unlink, Renameat, Dup, Close, Cap_rights_limit, Cap_fcntls_limit, Cap_enter, Cap_getmode, Socketpair}
use Rattle.instruction_set.specs.Programs.{Fork}
use Rattle.certificate.specs.Bounds.{Off, On, Either, Held, bound_in}
use Rattle.certificate.specs.Growth.{copies}
use Rattle.task.specs.Policies.{grant_named}
use Rattle.rules.specs.Slots.{slots_in, free_numbers}
use Rattle.rules.specs.Uses.{uses}
use Rattle.rules.specs.Channels.{channel_at}
use Rattle.rules.specs.Outcomes.{successes, successes_in, error_outcomes}
use Rattle.rules.specs.Rules.{tests, tests_without, authority_tests, mark_tests}
use Rattle.rules.specs.Verdicts.{found_with, found_at, first_found}
use Rattle.rules.proofs.rows.Samples.{work_with}
use Rattle.rules.specs.Probes.{probed_plan, probed_certificate, plain_probe, bound_of_slots, all_open, in_work, in_log, any_node, side_a, with_least, channel, probe, probe_over, broken}

abbrev to_read : OpenRequest
to_read = open_request true false false false false

abbrev to_make : OpenRequest
to_make = open_request true false false true false

abbrev to_cut : OpenRequest
to_cut = open_request false true false false true

abbrev name : List ℕ
name = codes "in"

abbrev moves : Operand → Operand → Syscall
moves source target = Renameat source name target name

-- What is found where each of these calls goes through slot 0, in the mode or outside it; slot 1 is good.
abbrev each_through : List Held → List Syscall → List (Option (ℕ × ℕ × ℕ))
each_through held calls = map (λ call. probe call Off held) calls

abbrev each_in_mode : List Held → List Syscall → List (Option (ℕ × ℕ × ℕ))
each_in_mode held calls = map (λ call. probe call On held) calls

-- with all rights but these, by their bits
abbrev all_but : ℕ → List Held
all_but missing = with_least in_work (0x3fff - missing) all_commands ∷ in_work ∷ []

abbrev without_rights : List Held
without_rights = with_least in_work 0 all_commands ∷ in_work ∷ []

needs_rights : each_through without_rights
    (Openat (Number 0) name to_read ∷ Read (Number 0) ∷ Write (Number 0) (Number 1) ∷ Sendfd (Number 0) (Number 1) (Number 1)
    ∷ Recvfd (Number 0) ∷ Lseek (Number 0) (Number 1) ∷ Ftruncate (Number 0) (Number 1) ∷ Fsync (Number 0) ∷ Fstat (Number 0)
    ∷ Fcntl_getfl (Number 0) ∷ Fcntl_setfl (Number 0) (Number 1) ∷ Fstatat (Number 0) name ∷ Mkdirat (Number 0) name
    ∷ Unlinkat (Number 0) name false ∷ moves (Number 0) (Number 1) ∷ moves (Number 1) (Number 0) ∷ []) ≡ copies 16 (broken 7)
unfolding first_found found_at found_with tests tests_without bound_in grant_named slots_in free_numbers uses channel_at successes successes_in error_outcomes mark_tests authority_tests
needs_rights = refl

needs_no_rights : each_through without_rights
    (Dup (Number 0) ∷ Close (Number 0) ∷ Cap_rights_limit (Number 0) 0 ∷ Cap_fcntls_limit (Number 0) 3 ∷ Sendfd (Number 2) (Number 0) (Number 1) ∷ [])
    ≡ copies 5 None
unfolding first_found found_at found_with tests tests_without bound_in grant_named slots_in free_numbers uses channel_at successes successes_in error_outcomes mark_tests authority_tests
needs_no_rights = refl

-- a target's need is that of one that is replaced: of `LOOKUP`, `RENAMEAT_TARGET` and `UNLINKAT` none may lack
needs_to_replace : map (λ missing. probe (moves (Number 1) (Number 0)) Off (all_but missing)) (0x0080 ∷ 0x2000 ∷ 0x0800 ∷ 0x177f ∷ [])
    ≡ broken 7 ∷ broken 7 ∷ broken 7 ∷ None ∷ []
unfolding first_found found_at found_with tests tests_without bound_in grant_named slots_in free_numbers uses channel_at successes successes_in error_outcomes mark_tests authority_tests
needs_to_replace = refl

-- what may be open in a register's interval is asked, and nothing that is closed
needs_of_each_slot : (probe (Read (Register 0)) Off (in_work ∷ with_least in_work 0 0
    ∷ []) ≡ broken 7) × (probe (Read (Number 5)) Off without_rights ≡ None) × (probe (Read (Number 16)) Off without_rights
    ≡ None)
unfolding first_found found_at found_with tests tests_without bound_in grant_named slots_in free_numbers uses channel_at successes successes_in error_outcomes mark_tests authority_tests
needs_of_each_slot = (refl, refl, refl)

needs_commands : each_through (with_least in_work all_rights setfl_command ∷ [])
    (Fcntl_getfl (Number 0) ∷ Fcntl_setfl (Number 0) (Number 1) ∷ Read (Number 0) ∷ [])
    ≡ broken 8 ∷ None ∷ None ∷ []
unfolding first_found found_at found_with tests tests_without bound_in grant_named slots_in free_numbers uses channel_at successes successes_in error_outcomes mark_tests authority_tests
needs_commands = refl

limits_ask_for_what_is_there : each_through (with_least in_work read_right getfl_command ∷ [])
    (Cap_rights_limit (Number 0) read_right ∷ Cap_rights_limit (Number 0) lookup_right ∷ Cap_fcntls_limit (Number 0) getfl_command
    ∷ Cap_fcntls_limit (Number 0) setfl_command ∷ [])
    ≡ None ∷ broken 9 ∷ None ∷ broken 9 ∷ []
unfolding first_found found_at found_with tests tests_without bound_in grant_named slots_in free_numbers uses channel_at successes successes_in error_outcomes mark_tests authority_tests
limits_ask_for_what_is_there = refl

-- ## What calls work on
works_on_what_is_known : each_in_mode (any_node ∷ in_work ∷ [])
    (Openat (Number 0) name to_read ∷ Read (Number 0) ∷ Write (Number 0) (Number 1) ∷ Recvfd (Number 0) ∷ Ftruncate (Number 0) (Number 1)
    ∷ Fstat (Number 0) ∷ Fstatat (Number 0) name ∷ Mkdirat (Number 0) name ∷ Unlinkat (Number 0) name false
    ∷ moves (Number 0) (Number 1) ∷ moves (Number 1) (Number 0) ∷ Sendfd (Number 0) (Number 1) (Number 1) ∷ [])
    ≡ copies 12 (broken 10)
unfolding first_found found_at found_with tests tests_without bound_in grant_named slots_in free_numbers uses channel_at successes successes_in error_outcomes mark_tests authority_tests
works_on_what_is_known = refl

works_on_nothing : each_in_mode (any_node ∷ [])
    (Lseek (Number 0) (Number 1) ∷ Fsync (Number 0) ∷ Fcntl_getfl (Number 0) ∷ Fcntl_setfl (Number 0) (Number 1) ∷ Dup (Number 0)
    ∷ Close (Number 0) ∷ Cap_rights_limit (Number 0) 0 ∷ Cap_fcntls_limit (Number 0) 0 ∷ [])
    ≡ copies 8 None
unfolding first_found found_at found_with tests tests_without bound_in grant_named slots_in free_numbers uses channel_at successes successes_in error_outcomes mark_tests authority_tests
works_on_nothing = refl

-- the mode may be on, or is off
works_on_anything_outside : (probe (Read (Number 0)) Either (any_node ∷ []) ≡ broken 10) × (probe (Read (Number 0)) Off (any_node ∷ []) ≡ None)
    × (probe (Read (Number 0)) On (side_a ∷ []) ≡ None)
unfolding first_found found_at found_with tests tests_without bound_in grant_named slots_in free_numbers uses channel_at successes successes_in error_outcomes mark_tests authority_tests
works_on_anything_outside = (refl, refl, refl)

-- the socket of a `sendfd` has to be known, and what it sends needn't be
sends_anything : probe_over (channel 0 (Some any_node) ∷ []) (Sendfd (Number 0) (Number 1) (Number 1)) On (side_a ∷ any_node ∷ []) ≡ None
unfolding first_found found_at found_with tests tests_without bound_in grant_named slots_in free_numbers uses channel_at successes successes_in error_outcomes mark_tests authority_tests
sends_anything = refl

-- ## The policy
-- The grant of this slot lists nothing.
asks_the_policy : each_in_mode (in_log ∷ in_work ∷ [])
    (Read (Number 0) ∷ Write (Number 0) (Number 1) ∷ Ftruncate (Number 0) (Number 1) ∷ Fstat (Number 0) ∷ Fstatat (Number 0) name
    ∷ Openat (Number 0) name to_make ∷ Openat (Number 0) name to_cut ∷ Mkdirat (Number 0) name ∷ Unlinkat (Number 0) name true
    ∷ moves (Number 0) (Number 0) ∷ [])
    ≡ copies 10 (broken 11)
unfolding first_found found_at found_with tests tests_without bound_in grant_named slots_in free_numbers uses channel_at successes successes_in error_outcomes mark_tests authority_tests
asks_the_policy = refl

asks_nothing : each_in_mode (in_log ∷ in_work ∷ [])
    (Openat (Number 0) name to_read ∷ Lseek (Number 0) (Number 1) ∷ Fsync (Number 0) ∷ Fcntl_getfl (Number 0) ∷ Recvfd (Number 0)
    ∷ Sendfd (Number 0) (Number 1) (Number 1) ∷ Dup (Number 0) ∷ [])
    ≡ copies 7 None
unfolding first_found found_at found_with tests tests_without bound_in grant_named slots_in free_numbers uses channel_at successes successes_in error_outcomes mark_tests authority_tests
asks_nothing = refl

-- The grant of this one lists to look, to read and to create.
asks_for_each_operation : each_in_mode (in_work ∷ [])
    (Read (Number 0) ∷ Fstat (Number 0) ∷ Fstatat (Number 0) name ∷ Openat (Number 0) name to_make ∷ Mkdirat (Number 0) name
    ∷ Write (Number 0) (Number 1) ∷ Ftruncate (Number 0) (Number 1) ∷ Openat (Number 0) name to_cut ∷ Unlinkat (Number 0) name false
    ∷ moves (Number 0) (Number 0) ∷ [])
    ≡ copies 5 None ++ copies 5 (broken 11)
unfolding first_found found_at found_with tests tests_without bound_in grant_named slots_in free_numbers uses channel_at successes successes_in error_outcomes mark_tests authority_tests
asks_for_each_operation = refl

-- A move needs to remove from its source, and to create in its target and remove there. The one grant lists these operations,
-- and the move is within it, or from an end, of which nothing is asked.
abbrev moved_with : List Operation → Held → Option (ℕ × ℕ × ℕ)
moved_with operations source =
    first_found
    (record (probed_plan 0 (Invoke (moves (Number 0) (Number 1)) 1)) { grants = work_with operations ∷ [] })
    (probed_certificate (plain_probe (bound_of_slots On (all_open (source ∷ in_work ∷ [])))))

moves_ask_both_sides : moved_with (Removes ∷ []) in_work ∷ moved_with (Creates ∷ []) in_work ∷ moved_with (Creates ∷ Removes ∷ []) in_work
    ∷ moved_with (Removes ∷ []) side_a ∷ moved_with (Creates ∷ []) side_a ∷ moved_with (Creates ∷ Removes ∷ []) side_a ∷ []
    ≡ broken 11 ∷ broken 11 ∷ None ∷ broken 11 ∷ broken 11 ∷ None ∷ []
unfolding first_found found_at found_with tests tests_without bound_in grant_named slots_in free_numbers uses channel_at successes successes_in error_outcomes mark_tests authority_tests
moves_ask_both_sides = refl

-- ## Names
changes_known_names : each_through (any_node ∷ in_work ∷ [])
    (Openat (Number 0) name to_make ∷ Mkdirat (Number 0) name ∷ Unlinkat (Number 0) name false ∷ moves (Number 0) (Number 1)
    ∷ moves (Number 1) (Number 0) ∷ Openat (Number 0) name to_read ∷ Openat (Number 0) name to_cut ∷ Write (Number 0) (Number 1) ∷ [])
    ≡ copies 5 (broken 12) ++ copies 3 None
unfolding first_found found_at found_with tests tests_without bound_in grant_named slots_in free_numbers uses channel_at successes successes_in error_outcomes mark_tests authority_tests
changes_known_names = refl

changes_no_global_names : each_through []
    (Open name to_make ∷ Mkdir name ∷ Unlink name false ∷ Open name to_read ∷ Open name to_cut ∷ Stat name ∷ [])
    ≡ copies 3 (broken 12) ++ copies 3 None
unfolding first_found found_at found_with tests tests_without bound_in grant_named slots_in free_numbers uses channel_at successes successes_in error_outcomes mark_tests authority_tests
changes_no_global_names = refl

reaches_no_global_names : each_in_mode []
    (Open name to_read ∷ Stat name ∷ Mkdir name ∷ Unlink name true ∷ Cap_enter ∷ Cap_getmode ∷ Socketpair ∷ Fork ∷ [])
    ≡ copies 4 (broken 6) ++ copies 4 None
unfolding first_found found_at found_with tests tests_without bound_in grant_named slots_in free_numbers uses channel_at successes successes_in error_outcomes mark_tests authority_tests
reaches_no_global_names = refl
