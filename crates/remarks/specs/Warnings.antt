-- Where FreeBSD does otherwise than the model, at the points of a program that it matters to: each is a fact of a point, its instruction
-- and its bound. (own, after open(2), cap_enter(2), cap_rights_limit(2), cap_fcntls_limit(2), close(2); what isn't in a page is remembered)
use Rattle.std.specs.Prelude.{◌&&◌, ◌||◌, ◌==◌, not, ℕ, Bool, true, false, if◌then◌else◌, List, [], ◌∷◌, ◌++◌, Option, Some, None, codes, filter, is_some, map}
use Rattle.std.specs.List.{list_all, list_any, range_with_len}
use Rattle.std.specs.Option.{option_map_or}
use Rattle.std.specs.Str.{bytes_eq}
use Rattle.rights.specs.Opens.{OpenRequest}
use Rattle.rights.specs.OperationLists.{lists}
use Rattle.rights.specs.Operations.{Look}
use Rattle.rights.specs.Sets.{all_commands, fcntl_right, is_within, lookup_right, plain_rights, read_right}
use Rattle.rights.specs.Values.{DescriptorNumber, Name, PathText, RightSet}
use Rattle.file_tree.specs.Nodes.{Node, is_dir, node}
use Rattle.file_tree.specs.Places.{begins, slash}
use Rattle.lookup.specs.Paths.{is_absolute}
use Rattle.certificate.specs.Bounds.{Bound, Ceiling, Certificate, bound_at, Held, ModeBound, Off, On, Either, Slot, Target, In_grant, Any_node, Socket, Unknown, held_in}
use Rattle.instruction_set.specs.Programs.{Instruction, Invoke, Operand, Syscall, called}
use Rattle.call_facts.specs.Arguments.{Argument, Descriptor, Commands, arguments, first_operand, first_path, opening_flags, second_operand, second_path}
use Rattle.call_facts.specs.Facts.{concerns_mode, frees}
use Rattle.rights.specs.Limits.{most_descriptors}
use Rattle.rules.specs.Authority.{authority_at}
use Rattle.rules.specs.Demands.{demands}
use Rattle.instruction_set.specs.Successors.{enters_mode}
use Rattle.rules.specs.Slots.{OpenSlot, may_be_on, slots_in}
use Rattle.task.specs.Plans.{FirstDescriptor, FirstObject, On_end, On_node, Grant, NamedProgram, Plan, Start, program_name}
use Rattle.task.specs.Policies.{grant_lists}
use Rattle.texts.specs.Parts.{parts}
use Rattle.remarks.specs.LinkNames.{names_link}
use Rattle.remarks.specs.Remarks.{bound_here, held_here, holds_so, is_on_at, is_there, may_close}
use Rattle.remarks.specs.Ways.{from_which, is_flagged, points}

-- ## What is looked up beneath a descriptor
pub record Lookup : Type 0 where
  pub descriptor : Operand
  pub path : PathText

abbrev pub one_beneath : Option Operand → Option PathText → List Lookup
one_beneath (Some x) (Some path) = record { descriptor = x; path = path } ∷ []
one_beneath _ _ = []

abbrev pub beneath : Syscall → List Lookup
beneath call = one_beneath (first_operand call) (first_path call) ++ one_beneath (second_operand call) (second_path call)

abbrev pub may_be_off : ModeBound → Bool
may_be_off Off = true
may_be_off On = false
may_be_off Either = true

-- it has all rights and all commands
abbrev pub is_unlimited : Held → Bool
is_unlimited h = is_within plain_rights h.greatest && (h.greatest_fcntls == all_commands)

abbrev pub are_limited : Bound → Operand → Bool
are_limited b x = list_all (λ (s : OpenSlot). not (is_unlimited s.held)) (slots_in b x)

-- it has a `..`, or a name that a link may have
abbrev pub name_leads_out : Plan → Name → Bool
name_leads_out plan name = bytes_eq name (codes "..") || names_link plan name

abbrev pub leads_out : Plan → PathText → Bool
leads_out plan path = list_any (name_leads_out plan) (parts slash path)

-- ## What is warned of
-- outside the mode the descriptor of an absolute path counts for nothing
abbrev pub passes_by : Bound → Syscall → Bool
passes_by b call = may_be_off b.mode && list_any (λ (q : Lookup). is_absolute q.path) (beneath call)

-- outside the mode `..` and links lead out of a directory that isn't limited
abbrev pub goes_out : Plan → Bound → Syscall → Bool
goes_out plan b call =
    may_be_off b.mode && list_any (λ (q : Lookup). leads_out plan q.path && not (are_limited b q.descriptor)) (beneath call)

-- outside the mode a file is made where a last link leads, beneath such a directory
abbrev pub creates : Option OpenRequest → Bool
creates None = false
creates (Some f) = f.create

abbrev pub makes_beyond : Bound → Syscall → Bool
makes_beyond b call =
    may_be_off b.mode && creates (opening_flags call) && option_map_or (λ x. not (are_limited b x)) (first_operand call) false

-- a limit of commands is refused once FCNTL is gone
abbrev pub limits_nothing_by : Bound → List Argument → Bool
limits_nothing_by b (Descriptor x ∷ Commands commands ∷ []) =
    not (commands == 0) && not (list_all (λ (s : OpenSlot). is_within fcntl_right s.held.least) (slots_in b x))
limits_nothing_by b _ = false

abbrev pub limits_nothing : Bound → Syscall → Bool
limits_nothing b call = limits_nothing_by b (arguments call)

-- a call takes a number, and all may be open
abbrev pub are_all_open : List Slot → Bool
are_all_open slots = list_all (λ (s : Slot). is_some (held_in s)) slots

abbrev pub takes_beyond : Bound → Syscall → Bool
takes_beyond b call = not ((demands call).takes == 0) && are_all_open b.slots

-- a call takes two, and all but one may be open
abbrev pub are_open_but_one : List Slot → Bool
are_open_but_one [] = false
are_open_but_one (s ∷ slots) = if is_some (held_in s) then are_open_but_one slots else are_all_open slots

abbrev pub takes_one_beyond : Bound → Syscall → Bool
takes_one_beyond b call = ((demands call).takes == 2) && are_open_but_one b.slots

-- in the mode a call looks something up in a grant that doesn't list looking
abbrev pub lets_look : List Grant → Target → Bool
lets_look grants (In_grant name) = grant_lists grants name Look
lets_look grants Any_node = true
lets_look grants (Socket class side) = true
lets_look grants Unknown = true

abbrev pub looks_unlisted : List Grant → Bound → Syscall → Bool
looks_unlisted grants b call =
    may_be_on b.mode
    && list_any (λ (q : Lookup). not (list_all (λ (s : OpenSlot). lets_look grants s.held.target) (slots_in b q.descriptor))) (beneath call)

-- the error of closing, or of entering the mode or asking for it, leads on to some call
abbrev pub is_call : Instruction → Bool
is_call (Invoke call otherwise) = true
is_call _ = false

abbrev pub calling_points : List Instruction → List Bool
calling_points code = map (is_there code is_call) (points code)

abbrev pub goes_on_closing : List Bool → Instruction → Bool
goes_on_closing calls (Invoke call otherwise) = frees (called call) && is_flagged calls otherwise
goes_on_closing calls _ = false

abbrev pub goes_on_entering : List Bool → Instruction → Bool
goes_on_entering calls (Invoke call otherwise) = concerns_mode (called call) && is_flagged calls otherwise
goes_on_entering calls _ = false

-- what a call at a point with a bound may be otherwise by
pub data Difference : Type 0 where
  Absolute_path : Difference
  Way_out : Difference
  Last_link : Difference
  Commands_gone : Difference
  No_number_left : Difference
  One_number_left : Difference
  Unlisted_look : Difference

abbrev pub differs : Plan → Difference → Bound → Syscall → Bool
differs plan Absolute_path b call = passes_by b call
differs plan Way_out b call = goes_out plan b call
differs plan Last_link b call = makes_beyond b call
differs plan Commands_gone b call = limits_nothing b call
differs plan No_number_left b call = takes_beyond b call
differs plan One_number_left b call = takes_one_beyond b call
differs plan Unlisted_look b call = looks_unlisted plan.grants b call

abbrev pub call_there : (Bound → Syscall → Bool) → Option Bound → Instruction → Bool
call_there test (Some b) (Invoke call otherwise) = test b call
call_there test _ _ = false

-- whether it is so at a point
abbrev pub differs_at : Plan → List Instruction → List (Option Bound) → Difference → ℕ → Bool
differs_at plan code bounds difference point = is_there code (call_there (differs plan difference) (bound_here bounds point)) point

-- the points from which a call comes
abbrev pub calls_ahead : List Instruction → List Bool
calls_ahead code = from_which code (calling_points code)

-- ## What an untrusted program has more of
-- all rights, or FCNTL with both commands: FreeBSD has more of each
abbrev pub has_more : Held → Bool
has_more h = is_within plain_rights h.greatest || is_within fcntl_right h.greatest && (h.greatest_fcntls == all_commands)

abbrev pub takes_more_at : List Instruction → List (Option Bound) → DescriptorNumber → ℕ → Bool
takes_more_at code bounds n point = is_there code enters_mode point && holds_so has_more (held_here bounds n point)

-- ## A directory that is taken into the mode
-- READ lists a directory's names, and LOOKUP reads the texts of its links
abbrev pub can_list : RightSet → Bool
can_list rights = is_within read_right rights || is_within lookup_right rights

abbrev pub is_listable : List Grant → Held → Bool
is_listable grants h = can_list h.greatest && not (lets_look grants h.target)

abbrev pub is_directory_of : List Node → FirstObject → Bool
is_directory_of nodes (On_node number access) = is_dir (node nodes number).kind
is_directory_of nodes (On_end pair side) = false

abbrev pub is_numbered_directory : List Node → DescriptorNumber → FirstDescriptor → Bool
is_numbered_directory nodes n d = (d.number == n) && is_directory_of nodes d.object

-- some process of the program starts with a directory at the number
abbrev pub starts_with_directory : Plan → Name → DescriptorNumber → Start → Bool
starts_with_directory plan program n s =
    bytes_eq (program_name plan s.program) program && list_any (is_numbered_directory plan.nodes n) s.descriptors

abbrev pub is_closed_at : List Instruction → List (Option Bound) → DescriptorNumber → ℕ → Bool
is_closed_at code bounds n point = is_there code (may_close n (bound_here bounds point)) point

-- the mode is entered at a point, or the program starts in it
abbrev pub begins_mode : List Instruction → List (Option Bound) → ℕ → Bool
begins_mode code bounds point = is_there code enters_mode point || (point == 0) && is_on_at bounds point

-- Nothing closes the number, so it is that directory still.
abbrev pub takes_directory_at : Plan → Name → List Instruction → List (Option Bound) → DescriptorNumber → ℕ → Bool
takes_directory_at plan program code bounds n point =
    begins_mode code bounds point && holds_so (is_listable plan.grants) (held_here bounds n point)
    && list_any (starts_with_directory plan program n) plan.starts
    && not (list_any (is_closed_at code bounds n) (points code))

-- ## What is warned of
abbrev pub differences : List Difference
differences = Absolute_path ∷ Way_out ∷ Last_link ∷ Commands_gone ∷ No_number_left ∷ One_number_left ∷ Unlisted_look ∷ []

-- at a point: by what its call is otherwise; whether the error of a close, or of entering the mode or asking for it, goes on; and the numbers of which an
-- untrusted program takes more into the mode than a task can name, and those of directories whose grant doesn't list looking
pub record Warned : Type 0 where
  pub differences : List Difference
  pub failed_close : Bool
  pub no_sandbox : Bool
  pub numbers : List DescriptorNumber
  pub directories : List DescriptorNumber

unfoldable pub warned_at : Plan → Name → List Instruction → List (Option Bound) → Bool → ℕ → Warned
warned_at plan program code bounds marked point = record {
  differences = filter (λ d. differs_at plan code bounds d point) differences;
  failed_close = is_there code (goes_on_closing (calls_ahead code)) point;
  no_sandbox = is_there code (goes_on_entering (calls_ahead code)) point;
  numbers = filter (λ n. marked && takes_more_at code bounds n point) (range_with_len 0 most_descriptors);
  directories = filter (λ n. takes_directory_at plan program code bounds n point) (range_with_len 0 most_descriptors);
}

-- at each point of a program, with the bounds of a certificate
abbrev pub bounds_in : Certificate → NamedProgram → List (Option Bound)
bounds_in c p = map (bound_at c p.name) (points p.code)

abbrev pub warned_in : Plan → Certificate → Option NamedProgram → List Warned
warned_in plan c None = []
warned_in plan c (Some p) = map (warned_at plan p.name p.code (bounds_in c p) p.marked) (points p.code)

-- the ceilings of a program that have all rights, of which FreeBSD has more
abbrev pub widest : Certificate → Name → List Ceiling
widest c program = filter (λ (ceiling : Ceiling). is_within plain_rights ceiling.rights) (authority_at c program).ceilings

-- those that let names be looked up in a grant that doesn't list looking
abbrev pub looks_beyond : List Grant → Ceiling → Bool
looks_beyond grants ceiling = is_within lookup_right ceiling.rights && not (grant_lists grants ceiling.grant Look)

abbrev pub prying : List Grant → Certificate → Name → List Ceiling
prying grants c program = filter (looks_beyond grants) (authority_at c program).ceilings

-- what a process that starts in the mode has more of, as at an entering
abbrev pub starts_with_more : FirstDescriptor → Bool
starts_with_more d = is_within plain_rights d.rights || is_within fcntl_right d.rights && (d.fcntls == all_commands)

-- a directory in a grant that doesn't list looking, with READ or LOOKUP
abbrev pub is_unlooked : List Node → FirstObject → Grant → Bool
is_unlooked nodes (On_node number access) g = begins g.path (node nodes number).place && not (lists g.operations Look)
is_unlooked nodes (On_end pair side) g = false

abbrev pub starts_listable : Plan → FirstDescriptor → Bool
starts_listable plan d =
    can_list d.rights && is_directory_of plan.nodes d.object && list_any (is_unlooked plan.nodes d.object) plan.grants
