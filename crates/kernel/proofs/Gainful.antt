-- What no step does is refused by the relation.
use Rattle.std.proofs.Common.{◌≡◌, ℕ, zero, suc, Bool, true, false, List, [], ◌∷◌, length, subst, sym, ap, arith, refl, ◌∙◌}
use Rattle.std.specs.Prelude.{not, ◌&&◌, Option, Some, None, is_some}
use Rattle.std.specs.List.{list_all, slice_get}
use Rattle.std.proofs.lemmas.Bool.{and_parts}
use Rattle.std.proofs.Math.Decide.{ℕ_discrete}
use Rattle.rights.specs.Sets.{is_within, all_rights, all_commands, read_right}
use Rattle.process.specs.State.{ProcessState, new_process}
use Rattle.instruction_set.specs.Programs.{Syscall, Number, Open, Openat, Sendfd, Recvfd, Dup, Cap_rights_limit, Cap_fcntls_limit, Socketpair, Fork}
use Rattle.fd_table.specs.Descriptions.{Descriptor, Message}
use Rattle.kernel.specs.World.{World}
use Rattle.kernel.specs.Origins.{Caller, ComesFrom, stood, was_made, was_copied, IsMade, was_opened, was_opened_beneath, was_paired, was_duplicated, was_received}
use Rattle.kernel.specs.Origins.{was_limited, was_limited_in_commands, IsSent, by_sendfd, QueuedFrom, had_waited, was_sent}
use Rattle.kernel.proofs.Gains.{made_in, still_in}
use Rattle.kernel.specs.Gainful.{NothingComesFromElsewhere, NoneMakes, calls_that_make_none, wide, narrow, two_processes, carries, with_message, at_ends, receiving, second}
use Rattle.kernel.specs.Gainful.{second_ended, opens, opens_in_directory, sends, receives}

some_is : (o : Option Descriptor) (d : Descriptor) → o ≡ Some d → is_some o ≡ true
some_is o d is = ap is_some is

impossible : false ≡ true → ⊥
impossible is = absurd cc

no_more_there : {s : ProcessState} → None ≡ Some s → ⊥
no_more_there is = absurd cc

-- the two descriptors have other numbers
abbrev description_in : Option Descriptor → ℕ
description_in None = 0
description_in (Some d) = d.description

others : Some narrow ≡ Some wide → ⊥
others is = let numbers : suc zero ≡ zero = ap description_in is in absurd (omega (arith, numbers))

-- what stands at a number of the second process is what stood there, or what its call has made
by_call : (w : World) (caller : Caller) (n : ℕ) (d : Descriptor) → length w.processes ≡ 2 → (w.files.table 1 n ≡ Some d → ⊥) →
    (IsMade w caller.process caller.state n d caller.call → ⊥) → ComesFrom w (Some caller) 1 n d → ⊥
by_call w caller n d two old made (stood is) = old is
by_call w caller n d two old made (was_made c is at made_so) = let same : caller ≡ c = cc in made (subst (λ (c : Caller). IsMade w c.process c.state n d c.call) (sym same) made_so)
by_call w caller n d two old made (was_copied c is forks at held) = absurd (omega (arith, at, two))

-- where nobody makes a call, what stands there stood there
by_nobody : (w : World) (q n : ℕ) (d : Descriptor) → (w.files.table q n ≡ Some d → ⊥) → ComesFrom w None q n d → ⊥
by_nobody w q n d old (stood is) = old is
by_nobody w q n d old (was_made c is at made) = absurd cc
by_nobody w q n d old (was_copied c is forks at held) = absurd cc

empty_there : (d : Descriptor) → two_processes.files.table 1 1 ≡ Some d → ⊥
unfolding ℕ_discrete
empty_there d is = impossible (some_is _ _ is)

no_other_table : ComesFrom two_processes (Some (second false Fork)) 2 0 wide → ⊥
unfolding ℕ_discrete
no_other_table (stood is) = impossible (some_is _ _ is)
no_other_table (was_made c is at made) = let same : second false Fork ≡ c = cc in absurd (omega (arith, subst (λ (c : Caller). 2 ≡ c.process) (sym same) at))
no_other_table (was_copied c is forks at held) =
    let same : second false Fork ≡ c = cc in
    others (subst (λ (c : Caller). two_processes.files.table c.process 0 ≡ Some wide) (sym same) held)

no_other_child : ComesFrom two_processes (Some (second false Fork)) 3 0 narrow → ⊥
unfolding ℕ_discrete
no_other_child (stood is) = impossible (some_is _ _ is)
no_other_child (was_made c is at made) = let same : second false Fork ≡ c = cc in absurd (omega (arith, subst (λ (c : Caller). 3 ≡ c.process) (sym same) at))
no_other_child (was_copied c is forks at held) = absurd (omega (arith, at))

no_other_copy : ComesFrom two_processes (Some (second false (Dup (Number 0)))) 2 0 narrow → ⊥
unfolding ℕ_discrete
no_other_copy (stood is) = impossible (some_is _ _ is)
no_other_copy (was_made c is at made) = let same : second false (Dup (Number 0)) ≡ c = cc in absurd (omega (arith, subst (λ (c : Caller). 2 ≡ c.process) (sym same) at))
no_other_copy (was_copied c is forks at held) = absurd cc

no_dup_for_another : ComesFrom two_processes (Some (second false (Dup (Number 0)))) 0 1 narrow → ⊥
unfolding ℕ_discrete
no_dup_for_another (stood is) = impossible (some_is _ _ is)
no_dup_for_another (was_made c is at made) =
    let same : second false (Dup (Number 0)) ≡ c = cc in
    let numbers : zero ≡ suc zero = subst (λ (c : Caller). 0 ≡ c.process) (sym same) at in absurd (omega (arith, numbers))
no_dup_for_another (was_copied c is forks at held) = absurd cc

no_rights : IsMade two_processes 1 (new_process 0 false) 1 wide (Dup (Number 0)) → ⊥
unfolding ℕ_discrete
no_rights (was_duplicated free within) = impossible within.0

no_commands : IsMade two_processes 1 (new_process 0 false) 1 (record narrow { fcntls = all_commands }) (Dup (Number 0)) → ⊥
unfolding ℕ_discrete
no_commands (was_duplicated free within) = impossible within.1

no_wider : IsMade two_processes 1 (new_process 0 false) 0 (record narrow { rights = all_rights }) (Cap_rights_limit (Number 0) all_rights) → ⊥
unfolding ℕ_discrete
no_wider (was_limited there within) = impossible within.0

no_wider_commands :
    IsMade two_processes 1 (new_process 0 false) 0 (record narrow { fcntls = all_commands }) (Cap_fcntls_limit (Number 0) all_commands) → ⊥
unfolding ℕ_discrete
no_wider_commands (was_limited_in_commands there within) = impossible within.1

no_wider_openat : IsMade two_processes 1 (new_process 0 false) 1 wide opens_in_directory → ⊥
unfolding ℕ_discrete
no_wider_openat (was_opened_beneath free within) = impossible within.0

-- the calls that make a descriptor of their process
abbrev is_maker : Syscall → Bool
is_maker (Open path flags) = true
is_maker (Openat x path flags) = true
is_maker (Dup x) = true
is_maker (Recvfd x) = true
is_maker (Cap_rights_limit x rights) = true
is_maker (Cap_fcntls_limit x commands) = true
is_maker Socketpair = true
is_maker _ = false

made_by_makers : {w : World} {p : ℕ} {s : ProcessState} {n : ℕ} {d : Descriptor} {call : Syscall} → IsMade w p s n d call → is_maker call ≡ true
made_by_makers (was_opened free outside all) = refl
made_by_makers (was_opened_beneath free within) = refl
made_by_makers (was_paired free all) = refl
made_by_makers (was_duplicated free within) = refl
made_by_makers (was_received free within) = refl
made_by_makers (was_limited there within) = refl
made_by_makers (was_limited_in_commands there within) = refl

makes_none : (call : Syscall) → not (is_maker call) ≡ true → IsMade two_processes 1 (new_process 0 false) 1 wide call → ⊥
makes_none call none made = not_both (is_maker call) (made_by_makers made) none
  where
    not_both : (b : Bool) → b ≡ true → not b ≡ true → ⊥
    not_both true is other = impossible other
    not_both false is other = impossible is

none_make : (calls : List Syscall) → list_all (λ call. not (is_maker call)) calls ≡ true → NoneMakes calls
unfolding ℕ_discrete
none_make [] all = tt
none_make (call ∷ calls) all =
    let parts = and_parts (not (is_maker call)) (list_all (λ call. not (is_maker call)) calls) all in
    (λ gains. by_call two_processes _ 1 wide refl (empty_there wide) (makes_none call parts.0) (gains.entries 1 1), none_make calls parts.1)

no_making : NoneMakes calls_that_make_none
no_making = none_make calls_that_make_none refl

no_wider_receive : IsMade (receiving 1) 1 (new_process 0 false) 1 wide receives → ⊥
unfolding ℕ_discrete
no_wider_receive (was_received free within) = impossible within.0

no_own_message : IsMade (receiving 0) 1 (new_process 0 false) 1 narrow receives → ⊥
unfolding ℕ_discrete
no_own_message (was_received free within) = within

no_message_of_a_file : IsMade two_processes 1 (new_process 0 false) 1 narrow receives → ⊥
unfolding ℕ_discrete
no_message_of_a_file (was_received free within) = within

no_message_of_nothing : IsMade (receiving 1) 1 (new_process 0 false) 1 narrow (Recvfd (Number 1)) → ⊥
unfolding ℕ_discrete
no_message_of_nothing (was_received free within) = within

no_elsewhere : IsMade two_processes 1 (new_process 0 false) 1 narrow (Cap_rights_limit (Number 0) read_right) → ⊥
unfolding ℕ_discrete
no_elsewhere (was_limited there within) = let same : suc zero ≡ zero = there in absurd (omega (arith, same))

no_moved_commands : IsMade two_processes 1 (new_process 0 false) 1 narrow (Cap_fcntls_limit (Number 0) 0) → ⊥
unfolding ℕ_discrete
no_moved_commands (was_limited_in_commands there within) = let same : suc zero ≡ zero = there in absurd (omega (arith, same))

no_taken : IsMade two_processes 1 (new_process 0 false) 0 wide opens → ⊥
unfolding ℕ_discrete
no_taken (was_opened free outside all) = impossible (sym (ap is_some free))

no_open : IsMade two_processes 1 (new_process 0 true) 1 wide opens → ⊥
unfolding ℕ_discrete
no_open (was_opened free outside all) = impossible (sym outside)

no_other_right : IsMade two_processes 1 (new_process 0 false) 1 (record wide { rights = read_right }) opens → ⊥
unfolding ℕ_discrete
no_other_right (was_opened free outside all) = impossible (ap (λ held. is_within all_rights held) all.0)

no_other_command : IsMade two_processes 1 (new_process 0 false) 1 (record wide { fcntls = 0 }) opens → ⊥
unfolding ℕ_discrete
no_other_command (was_opened free outside all) = impossible (ap (λ held. is_within all_commands held) all.1)

abbrev rights_in : Option Descriptor → ℕ
rights_in None = 0
rights_in (Some d) = d.rights

other_narrow : Some narrow ≡ Some (record narrow { rights = all_rights }) → ⊥
other_narrow is = impossible (sym (ap (λ o. is_within (rights_in o) read_right) is))

abbrev commands_in : Option Descriptor → ℕ
commands_in None = 0
commands_in (Some d) = d.fcntls

other_commands : Some narrow ≡ Some (record narrow { fcntls = all_commands }) → ⊥
other_commands is = impossible (ap (λ o. is_within all_commands (commands_in o)) is)

no_unsent_message : QueuedFrom two_processes None 0 0 wide → ⊥
no_unsent_message (had_waited i m here carried) = absurd cc
no_unsent_message (was_sent c is is_sent) = absurd cc

no_other_message : QueuedFrom (with_message two_processes narrow) None 0 0 wide → ⊥
unfolding ℕ_discrete
no_other_message (had_waited zero m here carried) =
    let same : carries narrow ≡ m = cc in others (ap (λ (x : Message). x.passed) same ∙ carried)
no_other_message (had_waited (suc i) m here carried) = absurd cc
no_other_message (was_sent c is is_sent) = absurd cc

-- what end (0, 0) has sent, where it had sent nothing, is what a call of the second process sends
by_sending :
    (w : World) (call : Syscall) (d : Descriptor) → w.files.queue 0 0 ≡ [] → (IsSent w 1 (new_process 0 false) 0 0 d call → ⊥)
    → QueuedFrom w (Some (second false call)) 0 0 d → ⊥
by_sending w call d empty not_sent (had_waited i m here carried) =
    let none : slice_get (w.files.queue 0 0) i ≡ None = ap (λ (messages : List Message). slice_get messages i) empty in absurd cc
by_sending w call d empty not_sent (was_sent c is is_sent) =
    let same : second false call ≡ c = cc in
    not_sent (subst (λ (c : Caller). IsSent w c.process c.state 0 0 d c.call) (sym same) is_sent)

no_wider_message : IsSent (at_ends 0 0) 1 (new_process 0 false) 0 0 wide sends → ⊥
unfolding ℕ_discrete
no_wider_message (by_sendfd through within) = impossible within.0

no_other_end : IsSent (at_ends 0 1) 1 (new_process 0 false) 0 0 narrow sends → ⊥
unfolding ℕ_discrete
no_other_end (by_sendfd through within) = let same : suc zero ≡ zero = through.1 in absurd (omega (arith, same))

no_other_pair : IsSent (at_ends 1 0) 1 (new_process 0 false) 0 0 narrow sends → ⊥
unfolding ℕ_discrete
no_other_pair (by_sendfd through within) = let same : suc zero ≡ zero = through.0 in absurd (omega (arith, same))

no_sending_through_a_file : IsSent two_processes 1 (new_process 0 false) 0 0 narrow sends → ⊥
unfolding ℕ_discrete
no_sending_through_a_file (by_sendfd through within) = through

no_sending_through_nothing : IsSent (at_ends 0 0) 1 (new_process 0 false) 0 0 narrow (Sendfd (Number 1) (Number 0) (Number 0)) → ⊥
unfolding ℕ_discrete
no_sending_through_nothing (by_sendfd through within) = through

no_other_sender : IsSent (at_ends 0 0) 1 (new_process 0 false) 0 0 narrow (Dup (Number 0)) → ⊥
no_other_sender is_sent = elim is_sent [ ]

unmade_there : (d : Descriptor) → two_processes.files.table 2 1 ≡ Some d → ⊥
unfolding ℕ_discrete
unmade_there d is = impossible (some_is _ _ is)

pub nothing_comes_from_elsewhere : NothingComesFromElsewhere
unfolding ℕ_discrete
nothing_comes_from_elsewhere = record {
  no_other_table = λ gains. no_other_table (gains.entries 2 0);
  no_other_child = λ gains. no_other_child (gains.entries 3 0);
  no_other_copy = λ gains. no_other_copy (gains.entries 2 0);
  no_dup_for_another = λ gains. no_dup_for_another (gains.entries 0 1);
  no_other_rights = λ gains. by_call two_processes _ 1 wide refl (empty_there wide) no_rights (gains.entries 1 1);
  no_other_commands = λ gains. by_call two_processes _ 1 _ refl (empty_there _) no_commands (gains.entries 1 1);
  no_wider_limit = λ gains. by_call two_processes _ 0 _ refl other_narrow no_wider (gains.entries 1 0);
  no_wider_command_limit = λ gains. by_call two_processes _ 0 _ refl other_commands no_wider_commands (gains.entries 1 0);
  no_limit_elsewhere = λ gains. by_call two_processes _ 1 narrow refl (empty_there narrow) no_elsewhere (gains.entries 1 1);
  no_command_limit_elsewhere = λ gains. by_call two_processes _ 1 narrow refl (empty_there narrow) no_moved_commands (gains.entries 1 1);
  no_wider_openat = λ gains. by_call two_processes _ 1 wide refl (empty_there wide) no_wider_openat (gains.entries 1 1);
  no_taken_number = λ gains. by_call two_processes _ 0 wide refl others no_taken (gains.entries 1 0);
  no_open_in_the_mode = λ gains. by_call two_processes _ 1 wide refl (empty_there wide) no_open (gains.entries 1 1);
  no_open_of_other_rights = λ gains. by_call two_processes _ 1 _ refl (empty_there _) no_other_right (gains.entries 1 1);
  no_open_of_other_commands = λ gains. by_call two_processes _ 1 _ refl (empty_there _) no_other_command (gains.entries 1 1);
  no_making = no_making;
  no_wider_receive = λ gains. by_call (receiving 1) _ 1 wide refl (empty_there wide) no_wider_receive (gains.entries 1 1);
  no_receive_of_ones_own = λ gains. by_call (receiving 0) _ 1 narrow refl (empty_there narrow) no_own_message (gains.entries 1 1);
  no_receive_through_a_file = λ gains.
      by_call two_processes _ 1 narrow refl (empty_there narrow) no_message_of_a_file (gains.entries 1 1);
  no_receive_through_nothing = λ gains.
      by_call (receiving 1) _ 1 narrow refl (empty_there narrow) no_message_of_nothing (gains.entries 1 1);
  no_unsent_message = λ gains. no_unsent_message (gains.messages 0 0).0;
  no_other_message = λ gains. no_other_message (gains.messages 0 0).0;
  no_message_behind = λ gains. no_other_message (gains.messages 0 0).1.0;
  no_wider_message = λ gains. by_sending (at_ends 0 0) sends wide refl no_wider_message (gains.messages 0 0).0;
  no_other_end = λ gains. by_sending (at_ends 0 1) sends narrow refl no_other_end (gains.messages 0 0).0;
  no_other_pair = λ gains. by_sending (at_ends 1 0) sends narrow refl no_other_pair (gains.messages 0 0).0;
  no_sending_through_a_file = λ gains.
      by_sending two_processes sends narrow refl no_sending_through_a_file (gains.messages 0 0).0;
  no_sending_through_nothing = λ gains. by_sending (at_ends 0 0) _ narrow refl no_sending_through_nothing (gains.messages 0 0).0;
  no_other_sender = λ gains. by_sending (at_ends 0 0) (Dup (Number 0)) narrow refl no_other_sender (gains.messages 0 0).0;
  no_call_of_the_ended = λ gains. by_nobody second_ended 1 1 narrow (empty_there narrow) (gains.entries 1 1);
  no_call_of_the_unmade = λ gains. by_nobody two_processes 2 1 wide (unmade_there wide) (gains.entries 2 1);
  no_call_at_no_call = λ gains. by_nobody two_processes 1 1 wide (empty_there wide) (gains.entries 1 1);
  no_left_mode = λ gains. impossible (still_in _ _ _ (gains.modes 0) refl);
  no_child_outside = λ gains. impossible (made_in _ _ (gains.modes 1) refl);
  no_process_vanishes = λ gains. no_more_there ((gains.modes 1).still _ refl).1;
  no_process_from_nowhere = λ gains. no_more_there ((gains.modes 1).new _ refl refl).1;
}
