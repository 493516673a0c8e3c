-- The rules of the checker, from K1 to K22. (own)
use Rattle.std.specs.Prelude.{◌==◌, ◌&&◌, ◌||◌, not, ℕ, Bool, true, false, List, [], ◌∷◌, replicate, Option, Some, None, is_some, if◌then◌else◌}
use Rattle.std.specs.List.{list_all, list_any}
use Rattle.std.specs.Str.{bytes_eq}
use Rattle.std.specs.Option.{option_map}
use Rattle.rights.specs.Values.{Name}
use Rattle.rights.specs.Limits.{register_count}
use Rattle.rights.specs.Sets.{is_within}
use Rattle.rights.specs.Operations.{Operation}
use Rattle.rights.specs.Classes.{Initial}
use Rattle.file_tree.specs.Nodes.{Node, node}
use Rattle.certificate.specs.Bounds.{Target, In_grant, Any_node, Socket, Unknown, Bound, Authority, Certificate, bound_at}
use Rattle.certificate.specs.Order.{bound_within}
use Rattle.certificate.specs.Describes.{Subject, Node_at, End_of, Seen, describes}
use Rattle.instruction_set.specs.Programs.{Syscall, Instruction, Invoke}
use Rattle.task.specs.Plans.{Grant, FirstObject, On_node, On_end, FirstDescriptor, Start, Plan, program_name, is_marked}
use Rattle.task.specs.Policies.{grant_holds, grant_lists}
use Rattle.task.specs.Begins.{with_number}
use Rattle.rules.specs.Slots.{OpenSlot, may_be_on}
use Rattle.rules.specs.Uses.{Use, uses}
use Rattle.rules.specs.Channels.{keeps_channel_bound, all_have_channels}
use Rattle.rules.specs.Demands.{demands, keeps_single, keeps_numbers, keeps_beneath}
use Rattle.instruction_set.specs.Successors.{enters_mode}
use Rattle.rules.specs.Outcomes.{Outcome, successes_in, error_outcomes}
use Rattle.rules.specs.Authority.{authority_at, may_have_slots, may_start_all, keeps_ceilings, keeps_moves, keeps_received, keeps_sent}

-- A rule, by its number, and whether it is kept at a point.
pub record Test : Type 0 where
  pub rule : ℕ
  pub kept : Bool

-- The first state of a process: the task's mode, all registers 0, and its first descriptors.
abbrev pub first_subject : List Node → FirstObject → Subject
first_subject tree (On_node n access) = Node_at (node tree n).place
first_subject tree (On_end pair side) = End_of (Initial pair) side

abbrev pub first_seen : List Node → FirstDescriptor → Seen
first_seen tree d = record { subject = first_subject tree d.object; rights = d.rights; fcntls = d.fcntls }

abbrev pub first_table : List Node → Start → ℕ → Option Seen
first_table tree s n = option_map (first_seen tree) (with_number n s.descriptors)

abbrev pub start_within : Plan → Bound → Start → Bool
start_within plan b s = describes (grant_holds plan.grants) b s.mode (replicate register_count 0) (first_table plan.nodes s)

abbrev pub marked_at : Plan → ℕ → Bool
marked_at plan program = is_marked plan.programs (program_name plan program)

-- A process starts with this program and is bounded by its points: one of a marked program that starts in the mode isn't.
abbrev pub is_bounded_start : Bool → ℕ → Start → Bool
is_bounded_start marked program s = not (marked && s.mode) && (s.program == program)

abbrev pub starts_program : Bool → ℕ → List Start → Bool
starts_program marked program starts = list_any (is_bounded_start marked program) starts

abbrev pub is_started : Plan → ℕ → Bool
is_started plan program = starts_program (marked_at plan program) program plan.starts

-- Rule 1: at point 0, the first state of each such process is one that the bound describes. Where no process starts the
-- program, nothing is asked.
abbrev pub all_starts_within : Plan → Bool → ℕ → Bound → List Start → Bool
all_starts_within plan marked program b starts =
    list_all (λ (s : Start). not (is_bounded_start marked program s) || start_within plan b s) starts

abbrev pub starts_within : Plan → ℕ → ℕ → Bound → Bool
starts_within plan program point b = not (point == 0) || all_starts_within plan (marked_at plan program) program b plan.starts

-- Rules 2 and 3: an outcome is within the bound of the point that it goes to, if that has one.
abbrev pub within_if_there : Bound → Option Bound → Bool
within_if_there b None = true
within_if_there b (Some there) = bound_within b there

abbrev pub all_within : Certificate → Name → List Outcome → Bool
all_within certificate name outs =
    list_all (λ (o : Outcome). within_if_there o.bound (bound_at certificate name o.point)) outs

-- Rule 16: and it has one.
abbrev pub all_there : Certificate → Name → List Outcome → Bool
all_there certificate name outs = list_all (λ (o : Outcome). is_some (bound_at certificate name o.point)) outs

-- ## Rules on each slot that a call may go through
-- Rules 7, 8 and 9: what the call needs, or a limit keeps, is surely there.
abbrev pub keeps_rights : Use → Bool
keeps_rights u = is_within u.need.rights u.slot.held.least

abbrev pub keeps_commands : Use → Bool
keeps_commands u = is_within u.need.commands u.slot.held.least_fcntls && is_within u.need.further u.slot.held.least

abbrev pub keeps_limit : Use → Bool
keeps_limit u = is_within u.need.kept_rights u.slot.held.least && is_within u.need.kept_commands u.slot.held.least_fcntls

-- a slot that is in a grant, whether or not the task has it, or a socket
abbrev pub is_known : Target → Bool
is_known (In_grant name) = true
is_known Any_node = false
is_known (Socket class side) = true
is_known Unknown = false

-- Rule 10: where the mode may be on, what a call works on is known. (capsicum(4))
abbrev pub works_on_known : Use → Bool
works_on_known u = not u.need.works || is_known u.slot.held.target

-- Rule 11: where the mode may be on and the slot is in a grant, the grant lists each operation of the call.
abbrev pub target_lists : List Grant → Target → Operation → Bool
target_lists grants (In_grant name) operation = grant_lists grants name operation
target_lists grants Any_node operation = true
target_lists grants (Socket class side) operation = true
target_lists grants Unknown operation = true

abbrev pub keeps_policy : List Grant → Use → Bool
keeps_policy grants u = list_all (target_lists grants u.slot.held.target) u.need.operations

-- Rule 12: in either mode, names are made, removed and moved beneath a slot that is known, and nowhere else: so each
-- grant's directory stays where it is.
abbrev pub names_known : Use → Bool
names_known u = not u.need.changes_names || is_known u.slot.held.target

-- Rule 13: in either mode, nothing is moved from one grant into another.
abbrev pub same_grant : Target → Target → Bool
same_grant (In_grant source) (In_grant target) = bytes_eq source target
same_grant (In_grant source) Any_node = true
same_grant (In_grant source) (Socket class side) = true
same_grant (In_grant source) Unknown = true
same_grant Any_node target = true
same_grant (Socket class side) target = true
same_grant Unknown target = true

abbrev pub moves_within : Use → Bool
moves_within u = list_all (λ (t : OpenSlot). same_grant u.slot.held.target t.held.target) u.targets

-- ## Rules on marked programs
-- Rule 18: what a process may hold where it enters the mode, or holds where it starts in it, is within the program's authority.
abbrev pub enters_within : Bool → Authority → Instruction → Bound → Bool
enters_within wide a i b = not (enters_mode i) || may_have_slots wide a b

abbrev pub starts_in_authority : Plan → Authority → ℕ → ℕ → Bool
starts_in_authority plan a program point = not (point == 0) || may_start_all plan.wide plan a program plan.starts

-- Rules 19 to 22 are asked at point 0, whether or not it has a bound, and of programs that nobody starts too.
abbrev pub is_asked_first : Plan → ℕ → ℕ → Bool
is_asked_first plan program point = (point == 0) && marked_at plan program

unfoldable pub authority_tests : Plan → Certificate → ℕ → ℕ → List Test
authority_tests plan certificate program point =
    let a = authority_at certificate (program_name plan program) in
    let asked = is_asked_first plan program point in
    record { rule = 19; kept = not asked || keeps_ceilings plan.wide plan.grants a }
    ∷ record { rule = 20; kept = not asked || keeps_moves a }
    ∷ record { rule = 21; kept = not asked || keeps_received plan.wide certificate a }
    ∷ record { rule = 22; kept = not asked || keeps_sent certificate a }
    ∷ []

-- Rule 17: its points bound it outside the mode alone.
unfoldable pub mark_tests : Plan → Certificate → ℕ → ℕ → Instruction → Bound → List Test
mark_tests plan certificate program point i b =
    let a = authority_at certificate (program_name plan program) in
    let marked = marked_at plan program in
    record { rule = 17; kept = not marked || not (may_be_on b.mode) }
    ∷ record { rule = 18; kept = not marked || (enters_within plan.wide a i b && starts_in_authority plan a program point) }
    ∷ authority_tests plan certificate program point

-- ## The tests
-- a test of what instructions that are no calls keep anyway
abbrev pub of_call : (Syscall → Bool) → Instruction → Bool
of_call test (Invoke call otherwise) = test call
of_call test _ = true

abbrev pub each_use : Bound → (Use → Bool) → Instruction → Bool
each_use b test i = of_call (λ call. list_all test (uses b call)) i

abbrev pub in_the_mode : Bound → (Use → Bool) → Instruction → Bool
in_the_mode b test i = not (may_be_on b.mode) || each_use b test i

-- The rules at a point that has an instruction and a bound, in the order of their numbers.
unfoldable pub tests : Plan → Certificate → ℕ → ℕ → Instruction → Bound → List Test
tests plan certificate program point i b =
    let name = program_name plan program in
    let good = successes_in plan certificate name point b i in
    let bad = error_outcomes b i in
    record { rule = 1; kept = starts_within plan program point b }
    ∷ record { rule = 2; kept = all_within certificate name good }
    ∷ record { rule = 3; kept = all_within certificate name bad }
    ∷ record { rule = 4; kept = of_call (keeps_single b) i }
    ∷ record { rule = 5; kept = of_call (keeps_numbers b) i }
    ∷ record { rule = 6; kept = of_call (keeps_beneath b) i }
    ∷ record { rule = 7; kept = each_use b keeps_rights i }
    ∷ record { rule = 8; kept = each_use b keeps_commands i }
    ∷ record { rule = 9; kept = each_use b keeps_limit i }
    ∷ record { rule = 10; kept = in_the_mode b works_on_known i }
    ∷ record { rule = 11; kept = in_the_mode b (keeps_policy plan.grants) i }
    ∷ record { rule = 12; kept = of_call (λ call. not (demands call).changes_global_names) i && each_use b names_known i }
    ∷ record { rule = 13; kept = each_use b moves_within i }
    ∷ record { rule = 14; kept = each_use b (λ u. keeps_channel_bound certificate u u.passing) i }
    ∷ record { rule = 15; kept = of_call (λ call. all_have_channels certificate (uses b call)) i }
    ∷ record { rule = 16; kept = all_there certificate name good && all_there certificate name bad }
    ∷ mark_tests plan certificate program point i b

-- A point without a bound isn't looked at: it is claimed not to be reached. But point 0 of a program that
-- a process starts has one, and of a marked program its authority is asked there.
unfoldable pub tests_without : Plan → Certificate → ℕ → ℕ → List Test
tests_without plan certificate program point =
    let a = authority_at certificate (program_name plan program) in
    record { rule = 16; kept = not (point == 0 && is_started plan program) }
    ∷ record { rule = 18; kept = not (marked_at plan program) || starts_in_authority plan a program point }
    ∷ authority_tests plan certificate program point

-- the first test that isn't kept
abbrev pub least_broken : List Test → Option ℕ
least_broken [] = None
least_broken (t ∷ ts) = if t.kept then least_broken ts else Some t.rule
