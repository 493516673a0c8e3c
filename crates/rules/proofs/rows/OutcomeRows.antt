-- Where each instruction leads, by computation. Rows are of point 4 of `main`.
use Rattle.std.proofs.Common.{◌≡◌, [], ◌∷◌, refl}
use Rattle.std.specs.Prelude.{◌++◌, ◌-◌, ℕ, true, false, List, map, codes, Some, None}
use Rattle.rights.specs.Classes.{Made_at}
use Rattle.rights.specs.Opens.{OpenRequest, open_request}
use Rattle.instruction_set.specs.Programs.{Register, Number, Syscall, Open, Openat, Read, Write, Sendfd, Recvfd, Lseek, Ftruncate, Fsync, Fstat, Fcntl_getfl, Fcntl_setfl, Fstatat, Stat}
use Rattle.instruction_set.specs.Programs.{Mkdirat, Mkdir, Unlinkat, Unlink, Renameat, Dup, Close, Cap_rights_limit, Cap_fcntls_limit, Cap_enter, Cap_getmode, Socketpair, Fork}
use Rattle.instruction_set.specs.Programs.{Instruction, Set, Mov, Add, In, Jmp, Jeq, Jlt, Halt, Invoke}
use Rattle.certificate.specs.Bounds.{ModeBound, Off, On, Either, Interval, full_interval, with_interval, Any_node, Socket, Held, Slot, Closed, Maybe, with_slot, Bound, ChannelBound}
use Rattle.certificate.specs.Growth.{copies}
use Rattle.rules.specs.Intervals.{only}
use Rattle.rules.specs.Slots.{slots_in, free_numbers}
use Rattle.rules.specs.Uses.{uses}
use Rattle.rules.specs.Channels.{channel_at}
use Rattle.rules.specs.Outcomes.{Outcome, outcome_to, from_to, all_held, unknown_held, successes, error_outcomes}
use Rattle.rules.specs.Probes.{bound_of_slots, in_work, any_node, side_a, channel}
use Rattle.rules.proofs.rows.Samples.{work, log, few_rights, few, few_or_all, is_open, certificate_of}

abbrev to_read : OpenRequest
to_read = open_request true false false false false

abbrev name : List ℕ
name = codes "in"

-- Slot 0 has a directory with some rights, slot 1 an end, slot 2 is free, and slot 3 may have any node. Register 1 is 0 or 1.
abbrev here_in : ModeBound → List Slot → Bound
here_in mode slots = with_interval (bound_of_slots mode slots) 1 (from_to 0 1)

abbrev some_slots : List Slot
some_slots = is_open few_or_all ∷ is_open side_a ∷ Closed ∷ Maybe any_node ∷ []

abbrev here : Bound
here = here_in Off some_slots

-- both sides send this
abbrev channels : List ChannelBound
channels = channel 0 (Some any_node) ∷ channel 1 (Some few) ∷ []

abbrev after_over : List ChannelBound → Bound → Syscall → List Outcome
after_over lines b call = successes (work ∷ log ∷ []) (certificate_of [] lines) (codes "main") 4 b (Invoke call 9)

abbrev after : Bound → Syscall → List Outcome
after b call = after_over channels b call

-- the same bound with another register 0
abbrev gives : Bound → Interval → List Outcome
gives b i = outcome_to 5 (with_interval b 0 i)

-- number 2 is taken, for this
abbrev takes : Held → List Outcome
takes h = gives (with_slot here 2 (is_open h)) (only 2)

opens_a_grant : after here (Open (codes "/work") to_read) ≡ takes in_work
unfolding slots_in free_numbers uses channel_at successes error_outcomes
opens_a_grant = refl

opens_another_path : after here (Open (codes "/work/") to_read) ≡ takes any_node
unfolding slots_in free_numbers uses channel_at successes error_outcomes
opens_another_path = refl

opens_beneath_a_slot : after here (Openat (Number 0) name to_read) ≡ takes few_or_all
unfolding slots_in free_numbers uses channel_at successes error_outcomes
opens_beneath_a_slot = refl

opens_beneath_any_node : after here (Openat (Number 3) name to_read) ≡ takes any_node
unfolding slots_in free_numbers uses channel_at successes error_outcomes
opens_beneath_any_node = refl

opens_nothing_beneath_an_end : after here (Openat (Number 1) name to_read) ≡ []
unfolding slots_in free_numbers uses channel_at successes error_outcomes
opens_nothing_beneath_an_end = refl

reads : after here (Read (Number 0)) ≡ gives here (from_to 0 256)
unfolding slots_in free_numbers uses channel_at successes error_outcomes
reads = refl

reads_what_may_be_there : after here (Read (Number 3)) ≡ gives here (from_to 0 256)
unfolding slots_in free_numbers uses channel_at successes error_outcomes
reads_what_may_be_there = refl

reads_through_each_slot : after here (Read (Register 1)) ≡ gives here (from_to 0 256) ++ gives here (from_to 0 256)
unfolding slots_in free_numbers uses channel_at successes error_outcomes
reads_through_each_slot = refl

reads_nothing : after here (Read (Number 2)) ++ after here (Read (Number 16)) ≡ []
unfolding slots_in free_numbers uses channel_at successes error_outcomes
reads_nothing = refl

writes : after here (Write (Number 0) (Number 7)) ≡ gives here (only 1)
unfolding slots_in free_numbers uses channel_at successes error_outcomes
writes = refl

sends : after here (Sendfd (Number 1) (Number 0) (Number 7)) ≡ gives here (only 1)
unfolding slots_in free_numbers uses channel_at successes error_outcomes
sends = refl

sends_each_slot : after here (Sendfd (Number 1) (Register 1) (Number 7)) ≡ gives here (only 1) ++ gives here (only 1)
unfolding slots_in free_numbers uses channel_at successes error_outcomes
sends_each_slot = refl

sends_through_ends_alone : after here (Sendfd (Register 1) (Number 0) (Number 7)) ≡ gives here (only 1)
unfolding slots_in free_numbers uses channel_at successes error_outcomes
sends_through_ends_alone = refl

sends_nothing : after here (Sendfd (Number 0) (Number 1) (Number 7)) ++ after here (Sendfd (Number 1) (Number 2) (Number 7)) ≡ []
unfolding slots_in free_numbers uses channel_at successes error_outcomes
sends_nothing = refl

receives_what_the_other_side_sends : after here (Recvfd (Number 1)) ≡ takes few
unfolding slots_in free_numbers uses channel_at successes error_outcomes
receives_what_the_other_side_sends = refl

receives_through_ends_alone : after here (Recvfd (Register 1)) ≡ takes few
unfolding slots_in free_numbers uses channel_at successes error_outcomes
receives_through_ends_alone = refl

receives_nothing : after_over (channel 1 None ∷ []) here (Recvfd (Number 1)) ++ after here (Recvfd (Number 3)) ≡ []
unfolding slots_in free_numbers uses channel_at successes error_outcomes
receives_nothing = refl

seeks : after here (Lseek (Number 0) (Number 7)) ≡ gives here (from_to 0 4096)
unfolding slots_in free_numbers uses channel_at successes error_outcomes
seeks = refl

cuts : after here (Ftruncate (Number 0) (Number 7)) ≡ gives here (only 0)
unfolding slots_in free_numbers uses channel_at successes error_outcomes
cuts = refl

syncs : after here (Fsync (Number 0)) ≡ gives here (only 0)
unfolding slots_in free_numbers uses channel_at successes error_outcomes
syncs = refl

looks : after here (Fstat (Number 0)) ≡ gives here (from_to 1 3)
unfolding slots_in free_numbers uses channel_at successes error_outcomes
looks = refl

gets_flags : after here (Fcntl_getfl (Number 0)) ≡ gives here (from_to 0 3)
unfolding slots_in free_numbers uses channel_at successes error_outcomes
gets_flags = refl

sets_flags : after here (Fcntl_setfl (Number 0) (Number 1)) ≡ gives here (only 0)
unfolding slots_in free_numbers uses channel_at successes error_outcomes
sets_flags = refl

looks_beneath : after here (Fstatat (Register 1) name) ≡ gives here (from_to 1 2)
unfolding slots_in free_numbers uses channel_at successes error_outcomes
looks_beneath = refl

looks_at_a_path : after here (Stat name) ≡ gives here (from_to 1 2)
unfolding slots_in free_numbers uses channel_at successes error_outcomes
looks_at_a_path = refl

makes_a_directory_beneath : after here (Mkdirat (Register 1) name) ≡ gives here (only 0)
unfolding slots_in free_numbers uses channel_at successes error_outcomes
makes_a_directory_beneath = refl

makes_a_directory : after here (Mkdir name) ≡ gives here (only 0)
unfolding slots_in free_numbers uses channel_at successes error_outcomes
makes_a_directory = refl

removes_beneath : after here (Unlinkat (Register 1) name true) ≡ gives here (only 0)
unfolding slots_in free_numbers uses channel_at successes error_outcomes
removes_beneath = refl

removes : after here (Unlink name false) ≡ gives here (only 0)
unfolding slots_in free_numbers uses channel_at successes error_outcomes
removes = refl

renames_between_nodes : after here (Renameat (Register 1) name (Register 1) name) ≡ gives here (only 0)
unfolding slots_in free_numbers uses channel_at successes error_outcomes
renames_between_nodes = refl

renames_nothing_beneath_an_end : after here (Renameat (Number 1) name (Number 0) name) ++ after here (Renameat (Number 0) name (Number 1) name) ≡ []
unfolding slots_in free_numbers uses channel_at successes error_outcomes
renames_nothing_beneath_an_end = refl

copies_an_end : after here (Dup (Number 1)) ≡ takes side_a
unfolding slots_in free_numbers uses channel_at successes error_outcomes
copies_an_end = refl

closes : after here (Close (Number 3)) ≡ gives (with_slot here 3 Closed) (only 0)
unfolding slots_in free_numbers uses channel_at successes error_outcomes
closes = refl

limits_rights : after here (Cap_rights_limit (Number 3) few_rights) ≡ gives (with_slot here 3 (is_open (record any_node { least = few_rights; greatest = few_rights }))) (only 0)
unfolding slots_in free_numbers uses channel_at successes error_outcomes
limits_rights = refl

limits_commands : after here (Cap_fcntls_limit (Number 0) 1) ≡ gives (with_slot here 0 (is_open (record few_or_all { least_fcntls = 1; greatest_fcntls = 1 }))) (only 0)
unfolding slots_in free_numbers uses channel_at successes error_outcomes
limits_commands = refl

enters_the_mode : after here Cap_enter ≡ gives (here_in On some_slots) (only 0)
unfolding slots_in free_numbers uses channel_at successes error_outcomes
enters_the_mode = refl

gets_the_mode : map (λ mode. after (here_in mode some_slots) Cap_getmode) (Off ∷ On ∷ Either ∷ [])
    ≡ gives here (only 0) ∷ gives (here_in On some_slots) (only 1) ∷ gives (here_in Either some_slots) (from_to 0 1) ∷ []
unfolding slots_in free_numbers uses channel_at successes error_outcomes
gets_the_mode = refl

forks : after here Fork ≡ gives here (only 0) ++ gives here (from_to 1 15)
unfolding slots_in free_numbers uses channel_at successes error_outcomes
forks = refl

-- ## Sockets of unknown kind, and of this point
abbrev unknown_slots : Bound
unknown_slots = here_in Off (is_open unknown_held ∷ [])

opens_beneath_what_is_unknown : after unknown_slots (Openat (Number 0) name to_read) ≡ gives (with_slot unknown_slots 1 (is_open (record unknown_held { target = Any_node }))) (only 1)
unfolding slots_in free_numbers uses channel_at successes error_outcomes
opens_beneath_what_is_unknown = refl

receives_the_unknown : after unknown_slots (Recvfd (Number 0)) ≡ gives (with_slot unknown_slots 1 (is_open unknown_held)) (only 1)
unfolding slots_in free_numbers uses channel_at successes error_outcomes
receives_the_unknown = refl

sends_into_nothing_unknown : after unknown_slots (Sendfd (Number 0) (Number 0) (Number 1)) ≡ []
unfolding slots_in free_numbers uses channel_at successes error_outcomes
sends_into_nothing_unknown = refl

abbrev new_end : ℕ → Slot
new_end side = is_open (all_held (Socket (Made_at (codes "main") 4) side))

abbrev one_open : Bound
one_open = here_in Off (is_open few ∷ [])

makes_a_pair : after one_open Socketpair ≡ gives (with_interval (with_slot (with_slot one_open 1 (new_end 0)) 2 (new_end 1)) 1 (only 2)) (only 1)
unfolding slots_in free_numbers uses channel_at successes error_outcomes
makes_a_pair = refl

-- ## Numbers that are free
abbrev all_but_free : ℕ → Bound
all_but_free free = bound_of_slots Off (copies (16 - free) (is_open few))

takes_the_last : after (all_but_free 1) (Dup (Number 0)) ≡ gives (with_slot (all_but_free 1) 15 (is_open few)) (only 15)
unfolding slots_in free_numbers uses channel_at successes error_outcomes
takes_the_last = refl

takes_none : after (all_but_free 0) (Dup (Number 0)) ++ after (all_but_free 0) (Open name to_read) ++ after (all_but_free 0) Socketpair ++ after (all_but_free 1) Socketpair ≡ []
unfolding slots_in free_numbers uses channel_at successes error_outcomes
takes_none = refl

takes_two_behind_open_ones : after (bound_of_slots Off (is_open few ∷ Closed ∷ is_open few ∷ Closed ∷ Maybe few ∷ [])) Socketpair
    ≡ gives (with_interval (with_slot (with_slot (bound_of_slots Off (is_open few ∷ Closed ∷ is_open few ∷ Closed ∷ Maybe few ∷ [])) 1 (new_end 0)) 3 (new_end 1)) 1 (only 3)) (only 1)
unfolding slots_in free_numbers uses channel_at successes error_outcomes
takes_two_behind_open_ones = refl

takes_none_that_may_be_taken : after (bound_of_slots Off (Closed ∷ Maybe few ∷ [])) Socketpair ++ after (bound_of_slots Off (Maybe few ∷ [])) (Open name to_read) ≡ []
unfolding slots_in free_numbers uses channel_at successes error_outcomes
takes_none_that_may_be_taken = refl

-- ## Where the mode is on
reaches_nothing_global_in_the_mode : after (here_in On some_slots) (Open name to_read) ++ after (here_in On some_slots) (Stat name)
    ++ after (here_in On some_slots) (Mkdir name) ++ after (here_in On some_slots) (Unlink name true)
    ≡ []
unfolding slots_in free_numbers uses channel_at successes error_outcomes
reaches_nothing_global_in_the_mode = refl

may_reach_it_where_the_mode_may_be_off : after (here_in Either some_slots) (Stat name) ≡ gives (here_in Either some_slots) (from_to 1 2)
unfolding slots_in free_numbers uses channel_at successes error_outcomes
may_reach_it_where_the_mode_may_be_off = refl

-- ## Errors
abbrev failed : Bound → Syscall → List Outcome
failed b call = error_outcomes b (Invoke call 9)

every_other_call_may_fail : failed here (Read (Number 0)) ++ failed here (Open name to_read) ++ failed here (Close (Register 1)) ++ failed here Fork
    ≡ copies 4 (record { point = 9; bound = with_interval here 7 (from_to 1 94) })
unfolding slots_in free_numbers uses channel_at successes error_outcomes
every_other_call_may_fail = refl

two_never_fail : failed here Cap_enter ++ failed here Cap_getmode ++ error_outcomes here Halt ≡ []
unfolding slots_in free_numbers uses channel_at successes error_outcomes
two_never_fail = refl

-- ## Instructions that are no calls
abbrev onward : Instruction → List Outcome
onward i = successes [] (certificate_of [] []) (codes "main") 4 here i

sets : onward (Set 2 7) ≡ outcome_to 5 (with_interval here 2 (only 7))
unfolding slots_in free_numbers uses channel_at successes error_outcomes
sets = refl

moves : onward (Mov 2 1) ≡ outcome_to 5 (with_interval here 2 (from_to 0 1))
unfolding slots_in free_numbers uses channel_at successes error_outcomes
moves = refl

adds : onward (Add 1 1) ++ onward (Add 2 1) ≡ outcome_to 5 (with_interval here 1 (from_to 0 2)) ++ outcome_to 5 (with_interval here 2 full_interval)
unfolding slots_in free_numbers uses channel_at successes error_outcomes
adds = refl

takes_a_byte : onward (In 2) ≡ outcome_to 5 (with_interval here 2 (from_to 0 255))
unfolding slots_in free_numbers uses channel_at successes error_outcomes
takes_a_byte = refl

jumps : onward (Jmp 8) ≡ outcome_to 8 here
unfolding slots_in free_numbers uses channel_at successes error_outcomes
jumps = refl

jumps_where_equal : onward (Jeq 1 0 8) ++ onward (Jeq 1 5 8) ≡ outcome_to 8 (with_interval here 1 (only 0)) ++ outcome_to 5 (with_interval here 1 (only 1)) ++ outcome_to 5 here
unfolding slots_in free_numbers uses channel_at successes error_outcomes
jumps_where_equal = refl

jumps_only_where_all_are_equal : successes [] (certificate_of [] []) (codes "main") 4 (with_interval here 1 (only 7)) (Jeq 1 7 8) ≡ outcome_to 8 (with_interval here 1 (only 7))
unfolding slots_in free_numbers uses channel_at successes error_outcomes
jumps_only_where_all_are_equal = refl

jumps_where_less : onward (Jlt 1 1 8) ++ onward (Jlt 1 0 8) ++ onward (Jlt 1 2 8)
    ≡ outcome_to 8 (with_interval here 1 (only 0)) ++ outcome_to 5 (with_interval here 1 (only 1)) ++ outcome_to 5 here ++ outcome_to 8 here
unfolding slots_in free_numbers uses channel_at successes error_outcomes
jumps_where_less = refl

ends : onward Halt ≡ []
unfolding slots_in free_numbers uses channel_at successes error_outcomes
ends = refl
