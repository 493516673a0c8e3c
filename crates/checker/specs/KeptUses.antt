-- What several rules ask at once.
use Rattle.std.specs.Prelude.{◌&&◌, ◌||◌, not, ℕ, Bool, List, [], Option, drop, is_some, take}
use Rattle.std.specs.List.{list_all}
use Rattle.certificate.specs.Bounds.{Bound, Certificate}
use Rattle.instruction_set.specs.Programs.{Syscall, Instruction, Invoke}
use Rattle.task.specs.Plans.{Plan}
use Rattle.rules.specs.Channels.{all_have_channels, keeps_channel_bound}
use Rattle.rules.specs.Demands.{demands, keeps_beneath, keeps_numbers, keeps_single}
use Rattle.rules.specs.Rules.{Test, tests, keeps_commands, keeps_limit, keeps_policy, keeps_rights, moves_within, names_known, within_if_there, works_on_known}
use Rattle.rules.specs.Slots.{may_be_on}
use Rattle.rules.specs.Uses.{Use, uses}

-- The rules 2, 3 and 16: whether there is a bound, which another is within.
abbrev pub arrives : Bound → Option Bound → Bool
arrives b there = is_some there && within_if_there b there

-- The rules 4 to 15 on a call. Of a slot that it goes through: what the rules 7 to 14 do, two of them only where the process may be in capability mode
abbrev pub keeps_all : Plan → Certificate → Bool → Use → Bool
keeps_all plan c may_be_on u =
    keeps_rights u
    && keeps_commands u
    && keeps_limit u
    && (not may_be_on || works_on_known u)
    && (not may_be_on || keeps_policy plan.grants u)
    && names_known u
    && moves_within u
    && keeps_channel_bound c u u.passing

abbrev pub keeps_call_rules : Plan → Certificate → Bound → Syscall → Bool
keeps_call_rules plan c b call =
    keeps_single b call
    && keeps_numbers b call
    && keeps_beneath b call
    && not (demands call).changes_global_names
    && list_all (keeps_all plan c (may_be_on b.mode)) (uses b call)
    && all_have_channels c (uses b call)

-- The tests of a call alone, which are the same in each program and wherever its errors go: those of the rules 4 to 15. What is
-- no call has none.
abbrev pub tests_of_call : Plan → Certificate → ℕ → Bound → Instruction → List Test
tests_of_call plan c point b (Invoke call otherwise) = take 12 (drop 3 (tests plan c 0 point (Invoke call 0) b))
tests_of_call plan c point b _ = []
