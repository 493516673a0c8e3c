-- What the rules on marked programs refuse, and what they let through: a probe for each. (own)
use Rattle.std.specs.Prelude.{◌≡◌, ◌++◌, ◌+◌, ℕ, Bool, true, false, List, [], ◌∷◌, codes, Option, Some, None}
use Rattle.rights.specs.Values.{Place, RightSet}
use Rattle.rights.specs.Sets.{all_commands, further_right, lookup_right, read_right, write_right, unlinkat_right, renameat_source_right, renameat_target_right}
use Rattle.rights.specs.Classes.{Initial}
use Rattle.rights.specs.Operations.{Look, Read as Reads, Create as Creates, Remove as Removes}
use Rattle.file_tree.specs.Nodes.{Dir}
use Rattle.instruction_set.specs.Programs.{Number, Cap_enter, Dup, Instruction, Halt, Invoke}
use Rattle.kernel.specs.Answers.{Event}
use Rattle.kernel.specs.Hostile.{Own}
use Rattle.certificate.specs.Bounds.{Off, On, Either, In_grant, Held, Bound, ChannelBound, Ceiling, End, Authority, Certificate, Three}
use Rattle.certificate.specs.Describes.{Node_at, End_of, Own_end}
use Rattle.certificate.specs.Bounds as bounds
use Rattle.task.specs.Begins.{first_world}
use Rattle.task.specs.Plans.{FirstObject, On_node, On_end, FirstDescriptor, Grant, Plan, unmarked}
use Rattle.task.specs.Breaches.{small_tree}
use Rattle.rules.specs.Outcomes.{unknown_held}
use Rattle.rules.specs.Verdicts.{first_found}
use Rattle.rules.specs.Within.{MayHave, StayWithin}
use Rattle.rules.specs.Probes.{bound_of_slots, loosest, any_node, channel, block_if, broken}

-- Programs `main`, which ends at once, and `probe`, which is marked and has one instruction before its end. A process runs
-- `probe` from the start, in the mode or not. The points of `probe` have these bounds, and it has this authority.
pub record MarkedProbe : Type 0 where
  pub in_mode : Bool
  pub descriptors : List FirstDescriptor
  pub here : Option Bound
  pub next : Option Bound
  pub channels : List ChannelBound
  pub ceilings : List Ceiling
  pub holds : List End

-- The grant of `/work` lists looking, reading and creating, and that of `/log` removing.
abbrev pub mark_plan : MarkedProbe → Instruction → Plan
mark_plan p i = record {
  nodes = small_tree ++ record { kind = Dir; place = codes "log" ∷ []; linked = true; content = [] } ∷ [];
  grants =
      record { name = codes "work"; path = codes "work" ∷ []; operations = Look ∷ Reads ∷ Creates ∷ [] }
      ∷ record { name = codes "log"; path = codes "log" ∷ []; operations = Removes ∷ [] } ∷ [];
  programs =
      unmarked (codes "main") (Halt ∷ []) ∷ record (unmarked (codes "probe") (i ∷ Halt ∷ [])) { marked = true } ∷ [];
  starts = record { program = 1; mode = p.in_mode; descriptors = p.descriptors } ∷ [];
  wide = false;
}

abbrev pub probed_marked : MarkedProbe → Instruction → Option (ℕ × ℕ × ℕ)
probed_marked p i = first_found (mark_plan p i) (record {
  version = Three;
  points = block_if (codes "probe") 0 p.here ++ block_if (codes "probe") 1 p.next;
  channels = p.channels;
  authorities = record { program = codes "probe"; ceilings = p.ceilings; holds = p.holds } ∷ [];
})

-- It starts in the mode with nothing, and its points have no bounds.
abbrev pub nothing_held : MarkedProbe
nothing_held = record { in_mode = true; descriptors = []; here = None; next = None; channels = []; ceilings = []; holds = [] }

abbrev pub bounded_at : Bound → MarkedProbe
bounded_at here = record nothing_held { here = Some here }

-- `/work`, and side b of the initial pair
abbrev pub starting_with : FirstObject → RightSet → FirstDescriptor
starting_with object rights = record { number = 0; object = object; rights = rights; fcntls = all_commands }

abbrev pub work_directory : FirstObject
work_directory = On_node 1 (record { readable = true; writable = false })

-- a slot of a node of `/work` with at most these rights
abbrev pub reads_only : Held
reads_only = record { target = In_grant (codes "work"); least = 0; greatest = read_right; least_fcntls = 0; greatest_fcntls = all_commands }

abbrev pub ceiling_on : List ℕ → RightSet → Ceiling
ceiling_on grant rights = record { grant = grant; rights = rights }

abbrev pub on_work : RightSet → Ceiling
on_work rights = ceiling_on (codes "work") rights

abbrev pub on_log : RightSet → Ceiling
on_log rights = ceiling_on (codes "log") rights

abbrev pub side_held : ℕ → End
side_held side = record { class = Initial 0; side = side }

-- one side of the pair, which the program may hold: the other side sends this, and this side what it likes, or this
abbrev pub holding : Option Held → Option Held → MarkedProbe
holding received sent =
    record nothing_held { channels = channel 0 received ∷ channel 1 sent ∷ []; holds = side_held 1 ∷ [] }

-- Each rule refuses something that no rule before it refuses.
pub record EachMarkRuleIsBroken : Type 0 where
  -- a process outside the mode is bounded by its points still, and has to have a bound
  pub k1 : probed_marked (record (bounded_at loosest) { in_mode = false; here = Some (bound_of_slots On []) }) Halt ≡ broken 1
  pub k16 : probed_marked (record nothing_held { in_mode = false }) Halt ≡ broken 16
  -- its points may be reached in the mode
  pub k17 : probed_marked (bounded_at (bound_of_slots Either [])) Halt ≡ broken 17
  -- it enters the mode with a directory, or starts in it with one, that it has no ceiling for
  pub k18_entered : probed_marked (bounded_at (bound_of_slots Off (bounds.Maybe reads_only ∷ []))) (Invoke Cap_enter 1) ≡ broken 18
  pub k18_started : probed_marked (record nothing_held { descriptors = starting_with work_directory read_right ∷ [] }) Halt ≡ broken 18
  pub k18_end : probed_marked (record nothing_held { descriptors = starting_with (On_end 0 1) read_right ∷ [] }) Halt ≡ broken 18
  -- the grant doesn't list writing; and a grant that the task hasn't lists nothing
  pub k19 : probed_marked (record nothing_held { ceilings = on_work (read_right + write_right) ∷ [] }) Halt ≡ broken 19
  pub k19_no_grant : probed_marked (record nothing_held { ceilings = ceiling_on (codes "etc") read_right ∷ [] }) Halt ≡ broken 19
  -- from `/log` into `/work`
  pub k20 : probed_marked (record nothing_held { ceilings = on_log renameat_source_right ∷ on_work renameat_target_right ∷ [] }) Halt ≡ broken 20
  -- any node may come; or nothing is said of what may
  pub k21 : probed_marked (holding (Some any_node) (Some unknown_held)) Halt ≡ broken 21
  pub k21_no_line : probed_marked (record (holding None (Some unknown_held)) { channels = channel 1 (Some unknown_held) ∷ [] }) Halt ≡ broken 21
  -- who receives expects nothing
  pub k22 : probed_marked (holding None None) Halt ≡ broken 22

-- The same is let through where what the rule asks is there.
pub record EachMarkRuleIsKept : Type 0 where
  -- what starts in the mode needs no bound
  pub k1_k16 : probed_marked nothing_held Halt ≡ None
  pub k17 : probed_marked (bounded_at (bound_of_slots Off [])) Halt ≡ None
  -- `cap_enter` leads nowhere
  pub k2_k16 : probed_marked (bounded_at (bound_of_slots Off [])) (Invoke Cap_enter 1) ≡ None
  pub k18_entered : probed_marked
      (record (bounded_at (bound_of_slots Off (bounds.Maybe reads_only ∷ []))) { ceilings = on_work read_right ∷ [] }) (Invoke Cap_enter 1) ≡ None
  pub k18_started : probed_marked
      (record nothing_held { descriptors = starting_with work_directory read_right ∷ []; ceilings = on_work read_right ∷ [] }) Halt ≡ None
  pub k18_end : probed_marked
      (record (holding (Some reads_only) (Some unknown_held)) { descriptors = starting_with (On_end 0 1) read_right ∷ []; ceilings = on_work read_right ∷ [] })
      Halt ≡ None
  pub k19_no_operation : probed_marked (record nothing_held { ceilings = ceiling_on (codes "etc") lookup_right ∷ [] }) Halt ≡ None
  pub k20 : probed_marked (record nothing_held { ceilings = on_log (unlinkat_right + renameat_source_right) ∷ on_work read_right ∷ [] }) Halt ≡ None
  pub k21_k22 : probed_marked (holding None (Some unknown_held)) Halt ≡ None

-- Where two rules are broken at a point, the lesser is told.
pub record LeastMarkRuleIsTold : Type 0 where
  pub k16_k17 : probed_marked (bounded_at (bound_of_slots Either [])) (Invoke (Dup (Number 0)) 1) ≡ broken 16
  pub k16_k19 : probed_marked (record nothing_held { in_mode = false; ceilings = on_work write_right ∷ [] }) Halt ≡ broken 16
  pub k17_k18 : probed_marked (bounded_at (bound_of_slots On (bounds.Open reads_only ∷ []))) (Invoke Cap_enter 1) ≡ broken 17
  pub k18_k19 : probed_marked
      (record nothing_held { descriptors = starting_with work_directory read_right ∷ []; ceilings = on_work write_right ∷ [] }) Halt ≡ broken 18
  pub k19_k20 : probed_marked
      (record nothing_held { ceilings = on_log renameat_source_right ∷ on_work (write_right + renameat_target_right) ∷ [] }) Halt ≡ broken 19
  pub k20_k21 : probed_marked
      (record (holding (Some any_node) (Some unknown_held)) { ceilings = on_log renameat_source_right ∷ on_work renameat_target_right ∷ [] }) Halt ≡ broken 20
  pub k21_k22 : probed_marked (holding (Some any_node) None) Halt ≡ broken 21
  -- Both ends of a pair can't be held: what is expected from one is what may come by the other.
  pub both_wide : probed_marked (record (holding (Some unknown_held) (Some unknown_held)) { holds = side_held 0 ∷ side_held 1 ∷ [] }) Halt ≡ broken 21
  pub both_none : probed_marked (record (holding None None) { holds = side_held 0 ∷ side_held 1 ∷ [] }) Halt ≡ broken 22

-- ## What is within an authority
-- What isn't: a right without a ceiling, a place in no grant, an end that isn't listed, and an end of another program's pair.
abbrev pub nothing_allowed : Authority
nothing_allowed = record { program = codes "main"; ceilings = []; holds = [] }

-- `probe` carries the directory into the mode, by a certificate without an authority.
abbrev pub carrying : Plan
carrying = mark_plan (record nothing_held { in_mode = false; descriptors = starting_with work_directory read_right ∷ [] }) (Invoke Cap_enter 1)

abbrev pub no_authority : Certificate
no_authority = record { version = Three; points = []; channels = []; authorities = [] }

abbrev pub first_event : Event
first_event = record { process = 0; input = 0; refuse = false }

pub record WithinRefuses : Type 0 where
  pub above_the_ceiling : (wide : Bool) (grants : List Grant) (place : Place) → MayHave wide grants nothing_allowed (codes "main") (Node_at place) write_right → ⊥
  pub further_above_it : (grants : List Grant) (place : Place) → MayHave true grants nothing_allowed (codes "main") (Node_at place) (further_right 7) → ⊥
  pub in_no_grant : (wide : Bool) (a : Authority) (place : Place) → MayHave wide [] a (codes "main") (Node_at place) 0 → ⊥
  pub unlisted_end : (wide : Bool) → MayHave wide [] nothing_allowed (codes "main") (End_of (Initial 0) 0) 0 → ⊥
  pub end_of_another : (wide : Bool) → MayHave wide [] nothing_allowed (codes "main") (Own_end (codes "child") 0) 0 → ⊥
  pub carried_in : StayWithin carrying no_authority (first_world carrying) ((first_event, Own) ∷ []) → ⊥
